use Rattle.report_text.proofs.DigitLemmas.{IsWritten}
use Rattle.report_text.proofs.decimal.write_digits.Given as goal

abbrev pub invariant-loop-rest : goal.invariant-loop-rest
invariant-loop-rest l = IsWritten l.number l.rest l.from l.digits

abbrev pub decreases-loop-rest : goal.decreases-loop-rest
decreases-loop-rest l = l.rest
