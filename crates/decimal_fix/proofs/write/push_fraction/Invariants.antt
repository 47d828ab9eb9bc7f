use Rattle.decimal_fix.proofs.WritingLaws.{HasDigits}
use Rattle.decimal_fix.proofs.write.push_fraction.Given as goal

abbrev pub invariant-loop : goal.invariant-loop
invariant-loop l = HasDigits l.fn.name l.name l.fn.units l.rest l.place l.counter
