use Rattle.std.proofs.Common.{◌≡◌, length}
use Rattle.reading.specs.Runs.{run}
use Rattle.reading.proofs.cursor.Cursor.pass_run.Given as goal

abbrev pub invariant-loop : goal.invariant-loop
invariant-loop g l = (run (g.C.Class.has_code l.class) l.here).1 ≡ (run (g.C.Class.has_code l.class) l.fn.self).1

abbrev pub decreases-loop : goal.decreases-loop
decreases-loop g l = length l.here
