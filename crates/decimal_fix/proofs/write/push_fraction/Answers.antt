use Rattle.std.proofs.Common.{ℕ, List, ◌+◌, ◌/◌, ◌%◌, subst, sym, refl, rules, arith}
use Rattle.decimal_fix.proofs.WritingLaws.{HasDigits, next_digit, digit_follows, digits_end, digits_all}
use Rattle.decimal_fix.proofs.write.push_fraction.Goals as goal

pub loop-init : goal.loop-init
loop-init c = record { place_is = refl; left = omega arith; text = refl }

pub returns-then-rest-eq0 : goal.returns-then-rest-eq0
returns-then-rest-eq0 c = digits_end _ _ _ _ _ _ c.loop.invariant c.if-rest-eq0.true

pub nonzero_div-digit : goal.nonzero_div-digit
nonzero_div-digit c = (next_digit _ _ _ _ _ _ c.loop.invariant c.loop-test.true).0

pub overflow_cast-digit : goal.overflow_cast-digit
overflow_cast-digit c =
    let small = (next_digit _ _ _ _ _ _ c.loop.invariant c.loop-test.true).1 in
    search rules

pub overflow_add-digit : goal.overflow_add-digit
overflow_add-digit c =
    let small = (next_digit _ _ _ _ _ _ c.loop.invariant c.loop-test.true).1 in
    search rules

pub nonzero_rem-rest : goal.nonzero_rem-rest
nonzero_rem-rest c = (next_digit _ _ _ _ _ _ c.loop.invariant c.loop-test.true).0

pub loop-preserved : goal.loop-preserved
loop-preserved c =
    let next = digit_follows c.args.name.now c.loop.name c.args.units c.loop.rest c.loop.place c.loop.counter c.from.result c.loop.invariant c.loop-test.true c.if-rest-eq0.false c.from.ensures in
    subst (λ (t : List ℕ). HasDigits c.args.name.now t c.args.units (c.loop.rest % (c.loop.place / 10)) (c.loop.place / 10) (c.loop.counter + 1)) (sym c.in-Ok.ensures) next

pub returns : goal.returns
returns c = digits_all _ _ _ _ _ _ c.loop.invariant (omega arith)
