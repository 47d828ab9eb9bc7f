use Rattle.std.proofs.Common.{◌≡◌, ◌++◌, take}
use Rattle.audit_model.specs.Report.{tallies_lines}
use Rattle.report_text.proofs.lines.push_tallies.Given as goal

abbrev pub invariant-loop-place : goal.invariant-loop-place
invariant-loop-place l = l.out.items ≡ l.fn.out.items ++ tallies_lines 1 (take l.place l.tallies)
