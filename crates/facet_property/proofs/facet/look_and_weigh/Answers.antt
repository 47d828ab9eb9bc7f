use Rattle.facet_property.proofs.Whole.{weigh_made, looked_made}
use Rattle.facet_property.proofs.facet.look_and_weigh.Goals as goal

pub returns-clause-weighed : goal.returns-clause-weighed
returns-clause-weighed g c =
    weigh_made c.args.schema.now c.args.facet.now (g.L.Look.seen c.args.look.now) c.args.elem _ c.look_at_own.new.names.items c.look_at_types.new.names.items
    _ c.look_at_own.new.found.items _ c.look_at_types.new.found.items c.push_unhidden.new.own.items _ _ _ c.in_ok-weighed.weighed
    c.new-names.ensures.items c.new-found.ensures.items c.new-inherited.ensures.items c.in_ok-look_at_own.ensures c.in_ok-look_at_types.ensures
    (rw c.as_slice.ensures.value at c.in_ok-push_unhidden.ensures) (rw (c.as_slice-2.ensures.value, c.as_slice-3.ensures.value) at c.in_ok-weighed.ensures)

pub returns-clause-reads : goal.returns-clause-reads
returns-clause-reads g c =
    looked_made c.args.schema.now c.args.facet.now (g.L.Look.seen c.args.look.now) c.args.elem _ c.look_at_own.new.names.items c.look_at_types.new.names.items
    _ c.look_at_own.new.found.items _ c.look_at_types.new.found.items c.push_unhidden.new.own.items _ _ _ c.in_ok-look_at_own.ensures c.in_ok-look_at_types.ensures
