use Rattle.std.proofs.Common.{[], arith}
use Rattle.std.proofs.lemmas.Grind.{common_steps}
use Rattle.std.proofs.lemmas.Int.{ints}
use Rattle.decimal_fix.specs.Reading.{exponent, run}
use Rattle.decimal_fix.specs.Numerals.{digits}
use Rattle.decimal_fix.proofs.ExponentLaws.{capped, exponent_minus, exponent_plus}
use Rattle.decimal_fix.proofs.numeral.exponent.Goals as goal

pub returns-then-negative-clause-value : goal.returns-then-negative-clause-value
unfolding exponent
returns-then-negative-clause-value c =
    let few = capped c.run-count.result.0 (digits (run c.sign-negative.result.1.now).0) (c.run-count.ensures.leading [] c.none.ensures.leading) in
    grind (arith, ints, common_steps, exponent_minus)

pub returns-else-negative-clause-value : goal.returns-else-negative-clause-value
unfolding exponent
returns-else-negative-clause-value c =
    let few = capped c.run-count.result.0 (digits (run c.sign-negative.result.1.now).0) (c.run-count.ensures.leading [] c.none.ensures.leading) in
    grind (arith, ints, common_steps, exponent_plus)
