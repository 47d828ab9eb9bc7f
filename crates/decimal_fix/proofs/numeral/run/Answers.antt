use Rattle.std.proofs.Common.{◌≡◌, ◌-◌, ◌∙◌, sym, length, length-drop, drop, arith}
use Rattle.std.proofs.lemmas.List.{take_all, drop_all}
use Rattle.decimal_fix.proofs.LeadingLaws.{run_stops, run_ends}
use Rattle.decimal_fix.proofs.numeral.run.Goals as goal

pub returns-then-not-is_ascii_digit-clause-leading :
    goal.returns-then-not-is_ascii_digit-clause-leading
returns-then-not-is_ascii_digit-clause-leading c =
    (run_stops _ _ _ _ c.loop-at.invariant c.loop-at-test.true c.if-not-is_ascii_digit.ensures.value).leading

pub returns-then-not-is_ascii_digit-clause-count :
    goal.returns-then-not-is_ascii_digit-clause-count
returns-then-not-is_ascii_digit-clause-count c =
    (run_stops _ _ _ _ c.loop-at.invariant c.loop-at-test.true c.if-not-is_ascii_digit.ensures.value).count

pub returns-then-not-is_ascii_digit-clause-rest : goal.returns-then-not-is_ascii_digit-clause-rest
returns-then-not-is_ascii_digit-clause-rest c =
    let bytes = c.args.bytes.now in
    let at = c.loop-at.at in
    take_all (length bytes - at) (drop at bytes) (omega (arith, length-drop at bytes))
    ∙ (run_stops _ _ _ _ c.loop-at.invariant c.loop-at-test.true c.if-not-is_ascii_digit.ensures.value).rest

pub returns-clause-leading : goal.returns-clause-leading
returns-clause-leading c = (run_ends _ _ _ _ c.loop-at.invariant (omega arith)).leading

pub returns-clause-count : goal.returns-clause-count
returns-clause-count c =
    let end : c.loop-at.at ≡ length c.args.bytes.now = omega arith in
    sym end ∙ (run_ends _ _ _ _ c.loop-at.invariant end).count

pub returns-clause-rest : goal.returns-clause-rest
returns-clause-rest c =
    let end : c.loop-at.at ≡ length c.args.bytes.now = omega arith in
    sym (drop_all c.loop-at.at c.args.bytes.now (omega (arith, end))) ∙ (run_ends _ _ _ _ c.loop-at.invariant end).rest
