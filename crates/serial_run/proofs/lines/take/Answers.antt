use Rattle.std.proofs.Common.{◌≡◌, Some}
use Rattle.std.proofs.lemmas.Result.{err_from_is_err_and}
use Rattle.serial_run.specs.Editing.{place_of}
use Rattle.serial_run.proofs.Acting.{nothing, holds_nothing, take_stopped}
use Rattle.serial_run.proofs.lines.take.Goals as goal

pub returns-in_err-finding : goal.returns-in_err-finding
returns-in_err-finding g c =
    let p = err_from_is_err_and c.from_residual.result c.from_residual.ensures.1 in
    rw (p.1, p.2) (take_stopped c.take_up.new.core c.args.who c.in_err-finding.field-0.0 _ _ (holds_nothing c.args.editor.held c.in-Nothing.is c.requires.works.holds) c.in_err-finding.ensures)
