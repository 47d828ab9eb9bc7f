use Rattle.std.proofs.Common.{take}
use Rattle.audit_model.specs.Reading.{gather}
use Rattle.audit_model.specs.Hops.{relating_things}
use Rattle.facet_paths.specs.Reads.{Appends}
use Rattle.facet_paths.proofs.part_of.AboveStep.step.Given as goal

abbrev pub invariant-loop-role : goal.invariant-loop-role
invariant-loop-role g l = Appends (gather (λ r. relating_things l.self.schema.now r l.from) (take l.role-index l.role-items)) (g.L.Look.seen l.self.look.now) l.initial.ends.items l.ends.items l.initial.reads.items l.reads.items
