use Rattle.std.proofs.Common.{◌≡◌, ◌∙◌, ap, ◌++◌, ℕ, List}
use Rattle.std.proofs.lemmas.Result.{err_from_is_err_and}
use Rattle.script_rules.specs.Serial.{lines_run}
use Rattle.serial_run.proofs.Growing.{lines_grow}
use Rattle.serial_run.proofs.Ending.{any_run, at_any, stopped_in_lines, stopped_in_drain, phase_done, phase_unmade}
use Rattle.serial_run.proofs.phases.phase.Goals as goal

pub returns-in_err-lines : goal.returns-in_err-lines
returns-in_err-lines g c =
    let p = err_from_is_err_and c.from_residual.result c.from_residual.ensures.1 in
    let core = c.args.core.now in
    λ s a. rw (p.1, p.2) (stopped_in_lines c.lines.new.core c.in_err-lines.field-0.0 (lines_run core.ground c.args.phase.lines s) (rw (← a.history) (lines_grow core.ground c.args.phase.lines s)) (c.in_err-lines.ensures s a))

pub drain-requires-clause-free : goal.drain-requires-clause-free
drain-requires-clause-free g c = (c.in_ok-lines.ensures (any_run c.args.core.now) (at_any c.args.core.now)).0.free

pub drain-requires-clause-sound : goal.drain-requires-clause-sound
drain-requires-clause-sound g c =
    let r = (c.in_ok-lines.ensures (any_run c.args.core.now) (at_any c.args.core.now)).0 in
    rw r.ground c.requires.sound

pub drain-requires-clause-schema : goal.drain-requires-clause-schema
drain-requires-clause-schema g c =
    let r = (c.in_ok-lines.ensures (any_run c.args.core.now) (at_any c.args.core.now)).0 in
    rw r.ground c.requires.schema

pub drain-requires-clause-specs : goal.drain-requires-clause-specs
drain-requires-clause-specs g c =
    let r = (c.in_ok-lines.ensures (any_run c.args.core.now) (at_any c.args.core.now)).0 in
    rw r.ground c.requires.specs

pub returns-in_err-report : goal.returns-in_err-report
returns-in_err-report g c =
    let p = err_from_is_err_and c.from_residual-in_err-report.result c.from_residual-in_err-report.ensures.1 in
    λ s a. rw (p.1, p.2) (stopped_in_drain c.drain.new.core c.in_err-report.field-0.0 s c.args.phase.lines a (c.in_ok-lines.ensures s a).0 c.in_err-report.ensures)

pub returns-in-Ok : goal.returns-in-Ok
returns-in-Ok g c =
    λ s a. let r = c.in_ok-lines.ensures s a in
    let first = rw c.new-text.ensures.items at r.1 in
    let text = c.lines.new.text.items in
    phase_done text c.in_ok-report.report c.from_vec.result s c.args.phase.lines r.0 first c.in_ok-report.ensures (c.from_vec.ensures ∙ c.in-Ok.ensures.items ∙ ap (λ (xs : List ℕ). text ++ xs) c.as_slice.ensures)

pub returns-in-Err : goal.returns-in-Err
returns-in-Err g c = λ s a. phase_unmade s c.args.phase.lines a (c.in_ok-lines.ensures s a).0 c.in_ok-report.ensures
