use Rattle.std.proofs.Common.{◌≡◌}
use Rattle.std.proofs.lemmas.Result.{err_from_is_err_and}
use Rattle.serial_run.proofs.Turning.{halted_turn, found, took, cut_behind}
use Rattle.serial_run.proofs.turns.take_up.Goals as goal

pub returns-in_err-claim : goal.returns-in_err-claim
returns-in_err-claim g c =
    let p = err_from_is_err_and c.from_residual.result c.from_residual.ensures.1 in
    rw (p.1, p.2) (halted_turn c.claim.new.self c.args.who c.in_err-claim.field-0.0 c.requires.free c.in_err-claim.ensures.halted)

pub assess-requires-clause-index : goal.assess-requires-clause-index
assess-requires-clause-index g c =
    let given = rw c.in-Pair.is at c.in_ok-claim.ensures.given in
    rw c.requires.schema given.snapshot.index

pub returns-in-Ok : goal.returns-in-Ok
returns-in-Ok g c =
    let adds = rw c.in-Pair.is at c.in_ok-claim.ensures.ok in
    let given = rw c.in-Pair.is at c.in_ok-claim.ensures.given in
    let k = c.in-Ok.ensures.ok in
    (c.in_ok-claim.ensures.not_full, rw k.claim_is adds, found (g.E.Assess.schema c.args.evaluator.now) (g.E.Assess.specs c.args.evaluator.now) c.requires.schema c.requires.specs c.requires.free adds given k)

pub returns-in-Err : goal.returns-in-Err
returns-in-Err g c =
    let adds = rw c.in-Pair.is at c.in_ok-claim.ensures.ok in
    let given = rw c.in-Pair.is at c.in_ok-claim.ensures.given in
    let back = rw c.in-Err.ensures.back at c.give_back.ensures in
    cut_behind c.args.who c.in-Pair.claim c.requires.free c.in_ok-claim.ensures.not_full adds (took c.in-Pair.claim c.requires.free adds given).alone back
