use Rattle.facet_property.proofs.Whole.{own_made}
use Rattle.facet_property.proofs.sets.look_at_own.Goals as goal

pub returns : goal.returns
returns g c =
    own_made c.args.schema.now c.args.facet.now (g.L.Look.seen c.args.look.now) c.args.elem _ _ _ _ c.push_own_sets.new.sets.items _ c.args.reads.now.items c.push_own_sets.new.reads.items c.look_at_sets.new.reads.items
    (rw c.new-sets.ensures.items at c.in_ok-push_own_sets.ensures.sets) c.in_ok-push_own_sets.ensures.reads c.as_slice.ensures.value c.in_ok-look_at_sets.ensures
