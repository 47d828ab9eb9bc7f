use Rattle.std.proofs.Common.{◌≡◌, reverse}
use Rattle.std.proofs.lemmas.Result.{err_from_is_err_and}
use Rattle.serial_run.proofs.Phasing.{lines_on, lines_stopped, next_line}
use Rattle.serial_run.proofs.phases.lines.Goals as goal

pub returns-in_err-editor : goal.returns-in_err-editor
returns-in_err-editor g c =
    let p = err_from_is_err_and c.from_residual.result c.from_residual.ensures.1 in
    let k = next_line c.loop-line.rest.items c.pop.new.self.items c.in-Some.line c.in-Some.ensures.items c.loop-line.invariant in
    rw (p.1, p.2) (lines_stopped c.step.new.core c.in_err-editor.field-0.0 c.in-Some.line (reverse c.pop.new.self.items) k c.in_err-editor.ensures)

pub loop-line-preserved : goal.loop-line-preserved
loop-line-preserved g c =
    let k = next_line c.loop-line.rest.items c.pop.new.self.items c.in-Some.line c.in-Some.ensures.items c.loop-line.invariant in
    lines_on c.in-Some.line (reverse c.pop.new.self.items) k c.in_ok-editor.ensures
