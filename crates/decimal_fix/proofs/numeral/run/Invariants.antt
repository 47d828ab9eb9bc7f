use Rattle.decimal_fix.proofs.LeadingLaws.{HasRun}
use Rattle.decimal_fix.proofs.numeral.run.Given as goal

abbrev pub invariant-loop-at : goal.invariant-loop-at
invariant-loop-at l = HasRun l.fn.before l.leading l.bytes l.at
