use Rattle.std.proofs.Common.{ap, ◌∙◌, [], Some, arith, rules}
use Rattle.std.proofs.lemmas.Int.{to_z-of_z}
use mir.Val.{SFits}
use mir.Syntax.{w128}
use Rattle.decimal_fix.specs.Numerals.{digits}
use Rattle.decimal_fix.specs.Reading.{sign, run}
use Rattle.ifc_base.specs.declared.value.Decimal.{Decimal}
use Rattle.decimal_fix.proofs.ReadingLaws.{reads}
use Rattle.decimal_fix.proofs.read.read.Goals as goal

pub returns : goal.returns
returns c =
    let fits : SFits w128 c.in_ok-exponent.exponent = search rules in
    let digits_are = c.fraction-behind.ensures.leading (digits (run c.sign-negative.result.1.now).0) (c.run-before.ensures.leading [] c.none.ensures.leading) in
    let units = c.units.ensures.value _ digits_are in
    let exact = simp to_z-of_z at units in
    ap (λ (d : Decimal). Some d) c.decimal_of.ensures
    ∙ reads c.args.text.now c.sign-negative.result.1.now c.run-before.result.2.now c.fraction-behind.result.2.now c.sign-negative.result.0 c.in_ok-exponent.exponent
    c.run-before.result.1 c.fraction-behind.result.1 c.units.result
    (c.sign-negative.ensures ∙ ap sign c.as_bytes.ensures.value) c.run-before.ensures.rest c.fraction-behind.ensures.rest
    c.run-before.ensures.count c.fraction-behind.ensures.count (omega arith) (omega arith) c.else-before-eq0.either c.in_ok-exponent.ensures.value exact
