use Rattle.std.proofs.Common.{◌-◌, length}
use Rattle.shelf_io.proofs.Progress.{HasWritten}
use Rattle.shelf_io.proofs.whole.write_all.Given as goal

abbrev pub invariant-loop-at : goal.invariant-loop-at
invariant-loop-at g l =
    HasWritten (g.K.Sink.written l.fn.sink) (g.K.Sink.written l.sink) l.bytes l.at
    (g.K.Sink.faults l.fn.sink) (g.K.Sink.faults l.sink) (g.K.Sink.sure l.fn.sink) (g.K.Sink.sure l.sink)

abbrev pub decreases-loop-at : goal.decreases-loop-at
decreases-loop-at g l = length l.bytes - l.at
