use Rattle.std.proofs.Common.{◌≡◌, length}
use Rattle.reading_tests.specs.Nest.{gap}
use Rattle.reading_tests.proofs.gap.gap.Given as goal

abbrev pub invariant-loop-byte : goal.invariant-loop-byte
invariant-loop-byte l = gap l.fn.cursor ≡ gap l.cursor

abbrev pub decreases-loop-byte : goal.decreases-loop-byte
decreases-loop-byte l = length l.cursor
