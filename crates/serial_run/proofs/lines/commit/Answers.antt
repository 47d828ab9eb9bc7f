use Rattle.audit_model.specs.declared.step.Reply.TheVariants.{Accepted, Refused}
use Rattle.serial_run.specs.Editing.{draft_of, place_of}
use Rattle.serial_run.proofs.Acting.{committed, stopped_before}
use Rattle.serial_run.proofs.Growing.{commit_grows}
use Rattle.serial_run.proofs.Turning.{adds_on}
use Rattle.serial_run.proofs.lines.commit.Goals as goal

pub returns-in-Ok : goal.returns-in-Ok
returns-in-Ok c =
    let adds = rw (c.in-Ok.ensures.actor, c.in-Ok.ensures.base, c.in-Ok.ensures.edits) at c.finish.ensures in
    let same = c.in-Ok.ensures.unchanged in
    let room = rw (same.ground, same.history) at c.in-Ok.ensures.ok.not_full in
    committed c.args.editor c.in-Some.draft (Accepted c.finish.result) c.requires c.in-Some.is room (adds_on same adds)

pub returns-in-Err-Refused : goal.returns-in-Err-Refused
returns-in-Err-Refused c =
    let k = rw c.in-Err-Refused.field-0-is at c.in-Err-Refused.ensures.not_prepared in
    committed c.args.editor c.in-Some.draft (Refused c.in-Err-Refused.field-0-0) c.requires c.in-Some.is k.1 k.0

pub returns : goal.returns
returns c =
    let k = rw c.in-Err-Memory.field-0-is at c.in-Err-Memory.ensures.not_prepared in
    let core = c.args.core.now in
    stopped_before _ (commit_grows core.ground c.args.who (draft_of c.args.editor.draft) (place_of c.args.editor) core.history) k.0 c.let_go-in-Err-Memory.ensures
