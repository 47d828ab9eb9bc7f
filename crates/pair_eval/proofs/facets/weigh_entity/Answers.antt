use Rattle.std.proofs.Common.{◌∙◌}
use Rattle.pair_eval.proofs.Steps.{entity_is}
use Rattle.pair_eval.proofs.facets.weigh_entity.Goals as goal

pub returns : goal.returns
returns g c =
    entity_is c.args.schema.now c.args.facet.now c.args.elem (g.L.Look.seen c.args.look.now) c.in_ok-holds.holds c.args.reads.now _ _ c.from_vec.result
    (c.into_vec-keys.ensures ∙ c.replace.ensures.value) c.from_vec.ensures c.in_ok-holds.ensures
