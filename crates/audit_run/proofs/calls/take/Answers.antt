use Rattle.audit_run.proofs.ActLaws.{take_done}
use Rattle.audit_run.proofs.PlayLaws.{took, idle}
use Rattle.audit_run.proofs.calls.take.Goals as goal

pub returns-in-Ok-Pair-clause-play : goal.returns-in-Ok-Pair-clause-play
returns-in-Ok-Pair-clause-play c =
    let adds = rw c.in-Ok-Pair.field-0-is at c.in-Ok-Pair.ensures.ok in
    let given = rw c.in-Ok-Pair.field-0-is at c.in-Ok-Pair.ensures.given in
    let k = rw (← c.hands.view_is) at c.requires in
    rw (c.push_reserved.ensures.items, c.reserve.ensures.items) (took c.args.actor c.in-Ok-Pair.claim k adds given)

pub returns-in-Ok-Idle-clause-play : goal.returns-in-Ok-Idle-clause-play
returns-in-Ok-Idle-clause-play c =
    let adds = rw c.in-Ok-Idle.field-0-is at c.in-Ok-Idle.ensures.ok in
    let k = rw (← c.hands.view_is) at c.requires in
    rw c.reserve.ensures.items (idle c.args.actor k adds)

pub returns-in-Ok-Pair-clause-acts : goal.returns-in-Ok-Pair-clause-acts
returns-in-Ok-Pair-clause-acts c =
    let adds = rw c.in-Ok-Pair.field-0-is at c.in-Ok-Pair.ensures.ok in
    let given = rw c.in-Ok-Pair.field-0-is at c.in-Ok-Pair.ensures.given in
    rw (← c.hands.view_is, c.push_reserved.ensures.items, c.reserve.ensures.items)
    (take_done (record { drafts = c.hands.inside.drafts.items; claims = c.hands.inside.claims.items }) c.args.actor c.in-Ok-Pair.claim c.in-Ok-Pair.ensures.not_full adds given)
