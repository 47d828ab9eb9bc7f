use Rattle.std.proofs.Common.{◌≡◌}
use Rattle.audit_model.specs.Paths.{types}
use Rattle.facet_paths.proofs.Elements.{entity_none, entity_some}
use Rattle.facet_paths.proofs.entity.look_at_entity.Goals as goal

pub returns-in-None : goal.returns-in-None
returns-in-None g c =
    entity_none c.args.schema.now (g.L.Look.seen c.args.look.now) c.args.facet.now c.args.elem c.new-types.result.items c.in_ok-holds-in-None.holds c.args.reads.now.items c.push.new.self.items
    c.in-None.is c.new-types.ensures.items c.in_ok-push-in-None.ensures.items (rw c.as_slice.ensures.value at c.in_ok-holds-in-None.ensures)

pub returns : goal.returns
returns g c =
    let kinds : c.push_types.new.kinds.items ≡ (types c.args.schema.now c.args.elem).answer (g.L.Look.seen c.args.look.now) = rw c.new-types.ensures.items at c.in_ok-push_types-in-Some.ensures.kinds in
    entity_some c.args.schema.now (g.L.Look.seen c.args.look.now) c.args.facet.now _ c.args.elem c.push_types.new.kinds.items c.in_ok-holds-in-Some.holds c.args.reads.now.items c.push_types.new.reads.items
    c.in-Some.is kinds c.in_ok-push_types-in-Some.ensures.reads (rw c.as_slice-in-Some.ensures.value at c.in_ok-holds-in-Some.ensures)
