use Rattle.std.proofs.Common.{◌++◌, refl}
use Rattle.std.specs.Prelude.{codes}
use Rattle.std.specs.Fmt.{decimal}
use Rattle.audit_model.specs.Report.{numbers}
use Rattle.report_text.proofs.LineLemmas.{item_appended, number_appended}
use Rattle.report_text.proofs.lines.push_numbers.Goals as goal

pub loop-number-preserved : goal.loop-number-preserved
loop-number-preserved c =
    item_appended (λ n. codes " " ++ decimal n) numbers refl (λ _ _. refl) _ _ _ c.args.requirements.now c.loop-number.number-index _ 0 c.loop-number-test.true c.from.ensures
    c.loop-number.invariant (number_appended _ _ _ _ c.in_ok-push_text.ensures c.in_ok-push_decimal.ensures.ok)
