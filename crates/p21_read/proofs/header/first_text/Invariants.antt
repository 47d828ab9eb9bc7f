use Rattle.std.proofs.Common.{◌≡◌, length}
use Rattle.p21_read.specs.Headers.{first_text}
use Rattle.p21_read.proofs.header.first_text.Given as goal

abbrev pub invariant-loop-first : goal.invariant-loop-first
invariant-loop-first l = first_text l.fn.values ≡ first_text l.left

abbrev pub decreases-loop-first : goal.decreases-loop-first
decreases-loop-first l = length l.left
