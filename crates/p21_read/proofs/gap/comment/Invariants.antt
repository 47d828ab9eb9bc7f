use Rattle.std.proofs.Common.{◌≡◌, false, length}
use Rattle.reading.specs.Codes.{codes_of}
use Rattle.p21_read.specs.Gap.{comment}
use Rattle.p21_read.proofs.gap.comment.Given as goal

abbrev pub invariant-loop-code : goal.invariant-loop-code
invariant-loop-code l = comment l.star (codes_of l.fn.start) l.cursor ≡ comment false (codes_of l.fn.start) l.fn.cursor

abbrev pub decreases-loop-code : goal.decreases-loop-code
decreases-loop-code l = length l.cursor
