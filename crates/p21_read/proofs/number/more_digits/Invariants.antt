use Rattle.std.proofs.Common.{◌≡◌, ◌≤◌, ◌^◌, length}
use Rattle.p21_read.specs.Numbers.{digits}
use Rattle.p21_read.proofs.number.more_digits.Given as goal

abbrev pub invariant-loop-code : goal.invariant-loop-code
invariant-loop-code l = (digits l.fn.so_far l.fn.cursor ≡ digits l.found l.cursor) × (l.found.count ≤ 19) × (l.found.value ≤ 10 ^ 18)

abbrev pub decreases-loop-code : goal.decreases-loop-code
decreases-loop-code l = length l.cursor
