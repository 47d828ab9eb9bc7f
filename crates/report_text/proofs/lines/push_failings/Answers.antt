use Rattle.std.proofs.Common.{refl}
use Rattle.audit_model.specs.Report.{failing_line, failing_lines}
use Rattle.report_text.proofs.LineLemmas.{item_appended}
use Rattle.report_text.proofs.lines.push_failings.Goals as goal

pub loop-failing-preserved : goal.loop-failing-preserved
loop-failing-preserved c =
    item_appended (failing_line c.args.occurs) (failing_lines c.args.occurs) refl (λ _ _. refl) _ _ _ c.args.failings.now c.loop-failing.failing-index c.failing-item.result c.failing-item.result c.loop-failing-test.true
    c.failing-item.is c.loop-failing.invariant c.in_ok-push_failing.ensures
