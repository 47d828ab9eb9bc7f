use Rattle.std.proofs.Common.{take, false}
use Rattle.p21_read.specs.Known.{AreKnown}
use Rattle.p21_read.proofs.gathered.ids_of.Given as goal

abbrev pub invariant-loop-instance : goal.invariant-loop-instance
invariant-loop-instance l = AreKnown false 0 l.ids.keys (take l.instance-index l.instances)
