use Rattle.std.proofs.Common.{◌≡◌, false, take, chars}
use Rattle.std.specs.List.{list_any}
use Rattle.facet_relations.specs.Held.{kind_admitted_at}
use Rattle.facet_relations.proofs.named.some_at.Given as goal

abbrev pub invariant-loop-id : goal.invariant-loop-id
invariant-loop-id g l = list_any (kind_admitted_at l.schema (g.L.Look.seen l.look) (chars l.kind) l.condition (chars l.attr)) (take l.id-index l.ids) ≡ false
