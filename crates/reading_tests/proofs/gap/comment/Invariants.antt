use Rattle.std.proofs.Common.{◌≡◌, ℕ, List, false, length}
use Rattle.reading_tests.specs.Nest.{comment}
use Rattle.reading_tests.proofs.gap.comment.Given as goal

abbrev pub invariant-loop-code : goal.invariant-loop-code
invariant-loop-code l = (start : List ℕ) → comment l.star start l.here ≡ comment false start l.fn.cursor

abbrev pub decreases-loop-code : goal.decreases-loop-code
decreases-loop-code l = length l.here
