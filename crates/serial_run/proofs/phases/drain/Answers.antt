use Rattle.std.proofs.Common.{◌≡◌, ◌+◌, suc, ap, length, arith, subst}
use Rattle.std.proofs.lemmas.Result.{err_from_is_err_and}
use Rattle.audit_model.specs.Machine.{pairs_now}
use Rattle.script_rules.specs.ScriptLines.{free}
use Rattle.serial_run.proofs.Draining.{drained, first_rounds, never_pending, publish_halted, rounds_halted, rounds_stopped}
use Rattle.serial_run.proofs.phases.drain.Goals as goal

pub returns-in_err-rounds : goal.returns-in_err-rounds
returns-in_err-rounds g c =
    let p = err_from_is_err_and c.from_residual.result c.from_residual.ensures.1 in
    rw (p.1, p.2) (rounds_halted c.rounds.new.core c.in_err-rounds.field-0.0 (rounds_stopped c.in_err-rounds.field-0.0 _ c.pairs.ensures.pairs (c.in_err-rounds.ensures free)))

pub returns-in_err-text : goal.returns-in_err-text
returns-in_err-text g c =
    let p = err_from_is_err_and c.from_residual-in_err-text.result c.from_residual-in_err-text.ensures.1 in
    rw (p.1, p.2) (publish_halted c.publish.new.self c.in_err-text.field-0.0 (first_rounds _ c.pairs.ensures.pairs (c.in_ok-rounds.ensures free)) c.in_err-text.ensures.halted)

pub unreachable-requires : goal.unreachable-requires
unreachable-requires g c =
    let k = first_rounds _ c.pairs.ensures.pairs (c.in_ok-rounds.ensures free) in
    let adds = rw c.in-Pending.is at c.in_ok-text.ensures.ok in
    never_pending c.in-Pending.field-0 c.drain_ends.ensures c.requires.sound c.requires.free k c.in_ok-text.ensures.not_full adds.lawful

pub returns : goal.returns
returns g c =
    let k = first_rounds _ c.pairs.ensures.pairs (c.in_ok-rounds.ensures free) in
    let adds = rw c.in-Report.is at c.in_ok-text.ensures.ok in
    let report = rw c.in-Report.is at c.in_ok-text.ensures.report in
    drained c.in-Report.revision c.in-Report.text k c.in_ok-text.ensures.not_full adds report
