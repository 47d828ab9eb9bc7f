use Rattle.std.proofs.Common.{◌≡◌, ◌++◌, take}
use Rattle.audit_model.specs.Report.{failing_lines}
use Rattle.report_text.proofs.lines.push_failings.Given as goal

abbrev pub invariant-loop-failing : goal.invariant-loop-failing
invariant-loop-failing l = l.out.items ≡ l.fn.out.items ++ failing_lines l.occurs (take l.failing-index l.failings)
