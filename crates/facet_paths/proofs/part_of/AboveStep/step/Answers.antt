use Rattle.audit_model.specs.Hops.{relating_things}
use Rattle.facet_paths.proofs.Paths.{stood_then}
use Rattle.facet_paths.proofs.part_of.AboveStep.step.Goals as goal

pub returns-clause-reads : goal.returns-clause-reads
returns-clause-reads g c =
    stood_then (λ r. (relating_things c.args.self.now.schema.now r c.args.from).keys (g.L.Look.seen c.args.self.now.look.now)) c.args.self.now.roles.now c.loop-role.role-index _ _ _ _ c.loop-role.invariant.reads_are c.loop-role-test.false c.in_ok-push.ensures.items
