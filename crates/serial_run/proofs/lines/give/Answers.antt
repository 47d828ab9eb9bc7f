use Rattle.std.proofs.Common.{◌≡◌}
use Rattle.std.proofs.lemmas.Result.{err_from_is_err_and}
use Rattle.serial_run.specs.Editing.{held_of, place_of}
use Rattle.serial_run.proofs.Acting.{give_stopped}
use Rattle.serial_run.proofs.Growing.{give_grows}
use Rattle.serial_run.proofs.lines.give.Goals as goal

pub returns-in_err-hand_in-in-Found : goal.returns-in_err-hand_in-in-Found
returns-in_err-hand_in-in-Found c =
    let p = err_from_is_err_and c.from_residual.result c.from_residual.ensures.1 in
    let core = c.args.core.now in
    rw (p.1, p.2) (give_stopped c.args.who c.in-Found.finding c.in_err-hand_in-in-Found.field-0.0 _ (give_grows core.ground c.args.who (held_of c.args.editor.held) (place_of c.args.editor) core.history) c.in_err-hand_in-in-Found.ensures)
