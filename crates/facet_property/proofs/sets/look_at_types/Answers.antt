use Rattle.facet_property.proofs.Whole.{types_made}
use Rattle.facet_property.proofs.sets.look_at_types.Goals as goal

pub returns : goal.returns
returns g c =
    types_made c.args.schema.now c.args.facet.now (g.L.Look.seen c.args.look.now) c.args.elem _ _ _ _ c.push_sets_of_types.new.sets.items _ c.args.reads.now.items c.push_sets_of_types.new.reads.items c.look_at_sets.new.reads.items
    (rw c.new-sets.ensures.items at c.in_ok-push_sets_of_types.ensures.sets) c.in_ok-push_sets_of_types.ensures.reads c.as_slice.ensures.value c.in_ok-look_at_sets.ensures
