use Rattle.std.proofs.Common.{◌∙◌, chars}
use Rattle.facet_relations.specs.Held.{kind_admitted}
use Rattle.std.specs.Option.{option_map_or}
use Rattle.std.proofs.Common.{false}
use Rattle.facet_paths.proofs.Same.{any_seen}
use Rattle.facet_relations.proofs.named.some_kind_admitted.Goals as goal

pub returns : goal.returns
returns g c = c.in_ok-b.ensures ∙ any_seen (λ o. option_map_or (kind_admitted c.args.schema.now (chars c.args.kind.now) c.args.condition.now (chars c.args.attr.now)) o false) (g.L.Look.seen c.args.look.now).instance c.args.ids.now
