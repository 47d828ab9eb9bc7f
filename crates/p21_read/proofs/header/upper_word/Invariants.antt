use Rattle.std.proofs.Common.{◌≡◌, ◌++◌, length, chars}
use Rattle.p21_read.specs.Headers.{upper_word}
use Rattle.p21_read.proofs.header.upper_word.Given as goal

abbrev pub invariant-loop-c : goal.invariant-loop-c
invariant-loop-c l = upper_word (chars l.fn.text) ≡ l.name ++ upper_word l.cursor

abbrev pub decreases-loop-c : goal.decreases-loop-c
decreases-loop-c l = length l.cursor
