use Rattle.std.proofs.Common.{◌≡◌, ◌∙◌, ap, List, length}
use Rattle.audit_model.specs.declared.step.StepRec.{StepRec}
use Rattle.script_rules.specs.Serial.{act_done}
use Rattle.serial_run.specs.Course.{text_in}
use Rattle.serial_run.specs.Editing.{place_of}
use Rattle.serial_run.proofs.Growing.{act_grows}
use Rattle.serial_run.proofs.Stepping.{act_told, from_within, later_done, stopped_behind}
use Rattle.serial_run.proofs.steps.step.Goals as goal

pub tell-requires : goal.tell-requires
tell-requires g c =
    let core = c.args.core.now in
    let p = place_of c.args.editor in
    let d = act_done core.ground 1 c.args.line p core.history in
    from_within core.history c.act.new.core.history c.as_slice-from.result.now (c.as_slice-from.ensures ∙ c.journal.ensures.entries) (later_done d (act_grows core.ground 1 c.args.line p core.history) c.in_ok-editor.ensures.0)

pub returns-in-Ok : goal.returns-in-Ok
returns-in-Ok g c =
    let p = place_of c.args.editor in
    let from = ap (λ (j : List StepRec). length j) (c.as_slice-from.ensures ∙ c.journal.ensures.entries) in
    (c.in_ok-editor.ensures.0, act_told c.args.line p c.in_ok-editor.editor c.args.text.now.items c.tell.new.text.items (text_in c.in_ok-editor.report) (length c.as_slice-from.result.now) c.in_ok-editor.ensures.0 c.in_ok-editor.ensures.1 from (rw (← c.requires.limits) c.in-Ok.ensures))

pub returns : goal.returns
returns g c =
    let core = c.args.core.now in
    let p = place_of c.args.editor in
    stopped_behind (act_done core.ground 1 c.args.line p core.history) (act_grows core.ground 1 c.args.line p core.history) c.in_ok-editor.ensures.0 c.let_go.ensures
