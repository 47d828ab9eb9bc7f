use Rattle.std.proofs.Common.{◌≡◌, length}
use Rattle.p21_read.specs.Words.{with_letter, no_word, word}
use Rattle.p21_read.proofs.word.read_word.Given as goal

abbrev pub invariant-loop-code : goal.invariant-loop-code
invariant-loop-code l = word (with_letter no_word l.fn.first) l.fn.cursor ≡ word l.word l.cursor

abbrev pub decreases-loop-code : goal.decreases-loop-code
decreases-loop-code l = length l.cursor
