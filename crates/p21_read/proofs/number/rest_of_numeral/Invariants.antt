use Rattle.std.proofs.Common.{◌≡◌, length}
use Rattle.std.specs.Prelude.{encode_utf8_all}
use Rattle.p21_read.specs.Words.{gather}
use Rattle.p21_read.specs.Numbers.{is_numeral}
use Rattle.p21_read.proofs.number.rest_of_numeral.Given as goal

abbrev pub invariant-loop-code : goal.invariant-loop-code
invariant-loop-code l = (gather is_numeral (λ c. c) l.fn.numeral l.fn.cursor ≡ gather is_numeral (λ c. c) l.numeral l.cursor) × (encode_utf8_all l.numeral ≡ l.numeral)

abbrev pub decreases-loop-code : goal.decreases-loop-code
decreases-loop-code l = length l.cursor
