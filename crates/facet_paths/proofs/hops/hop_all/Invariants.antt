use Rattle.std.proofs.Common.{take, chars}
use Rattle.audit_model.specs.Reading.{gather}
use Rattle.audit_model.specs.Hops.{hop}
use Rattle.audit_model.specs.Hops.Hop.{Forward}
use Rattle.facet_paths.specs.Reads.{Appends}
use Rattle.facet_paths.proofs.hops.hop_all.Given as goal

abbrev pub invariant-loop-id : goal.invariant-loop-id
invariant-loop-id g l = Appends (gather (hop l.schema (Forward (chars l.attr))) (take l.id-index l.ids)) (g.L.Look.seen l.look) l.initial.ends.items l.ends.items l.initial.reads.items l.reads.items
