use Rattle.std.proofs.Common.{◌≡◌, ◌∙◌, ◌++◌, ◌/◌, ◌%◌, ◌^◌, List, [], ◌∷◌, ℕ, ap, subst, arith, rules}
use Rattle.std.specs.Fmt.{decimal}
use Rattle.std.specs.Prelude.{IfOk}
use Rattle.std.proofs.lemmas.Int.{to_z-of_z}
use mir.Val.{SFits}
use mir.Syntax.{w128}
use Rattle.decimal_fix.specs.Writing.{past, places, without_zeros}
use Rattle.decimal_fix.proofs.WritingLaws.{past_is, size_is}
use Rattle.decimal_fix.proofs.write.write_decimal.Goals as goal

pub returns-then-a : goal.returns-then-a
returns-then-a c =
    let fits : SFits w128 c.args.a.units = search rules in
    let sign = simp to_z-of_z at c.minus-sign.ensures in
    let text = c.as_str.ensures.value ∙ c.in_ok-text.ensures.ok ∙ ap (λ (t : List ℕ). t ++ past) sign in
    subst (λ (t : List ℕ). IfOk c.from_str.result (λ name. name ≡ t)) (past_is c.args.a c.as_str.result.now c.if-a.true text) c.from_str.ensures

pub returns : goal.returns
returns c =
    let fits : SFits w128 c.args.a.units = search rules in
    let sign = simp to_z-of_z at c.minus-sign.ensures in
    let size = simp to_z-of_z at c.unsigned_abs-size.ensures.value in
    let front = c.as_str-2.ensures.value ∙ c.in_ok-front.ensures.ok ∙ ap (λ (t : List ℕ). t ++ (decimal (c.unsigned_abs-size.result / 10 ^ 15) ++ (46 ∷ []))) sign in
    let text = c.in_ok-push_fraction.ensures ∙ ap (λ (t : List ℕ). t ++ without_zeros (places 15 (c.unsigned_abs-size.result % 10 ^ 15))) c.in_ok-name.ensures in
    size_is c.args.a c.unsigned_abs-size.result c.as_str-2.result.now c.push_fraction.new.name c.if-a.false size (omega (arith, c.unsigned_abs-size.ensures.bound)) front text
