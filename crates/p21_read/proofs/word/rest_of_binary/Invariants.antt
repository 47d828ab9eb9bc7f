use Rattle.std.proofs.Common.{◌≡◌, length}
use Rattle.std.specs.Char.{is_ascii_hexdigit}
use Rattle.p21_read.specs.Words.{gather}
use Rattle.p21_read.proofs.word.rest_of_binary.Given as goal

abbrev pub invariant-loop-code : goal.invariant-loop-code
invariant-loop-code l = gather is_ascii_hexdigit (λ c. c) l.fn.digits l.fn.cursor ≡ gather is_ascii_hexdigit (λ c. c) l.digits l.cursor

abbrev pub decreases-loop-code : goal.decreases-loop-code
decreases-loop-code l = length l.cursor
