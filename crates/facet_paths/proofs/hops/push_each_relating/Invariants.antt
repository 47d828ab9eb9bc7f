use Rattle.std.proofs.Common.{take}
use Rattle.audit_model.specs.Reading.{gather}
use Rattle.audit_model.specs.Hops.{relating_things}
use Rattle.facet_paths.specs.Reads.{Appends}
use Rattle.facet_paths.proofs.hops.push_each_relating.Given as goal

abbrev pub invariant-loop-id : goal.invariant-loop-id
invariant-loop-id g l = Appends (gather (relating_things l.schema l.role) (take l.id-index l.ids)) (g.L.Look.seen l.look) l.initial.ends.items l.ends.items l.initial.reads.items l.reads.items
