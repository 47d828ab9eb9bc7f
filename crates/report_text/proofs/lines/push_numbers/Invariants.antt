use Rattle.std.proofs.Common.{◌≡◌, ◌++◌, take}
use Rattle.audit_model.specs.Report.{numbers}
use Rattle.report_text.proofs.lines.push_numbers.Given as goal

abbrev pub invariant-loop-number : goal.invariant-loop-number
invariant-loop-number l = l.out.items ≡ l.fn.out.items ++ numbers (take l.number-index l.requirements)
