use Rattle.audit_run.specs.Holding.{AreBegun}
use Rattle.audit_run.proofs.ActLaws.{begin_done}
use Rattle.audit_run.proofs.HoldLaws.{begun_others}
use Rattle.audit_run.proofs.PlayLaws.{began}
use Rattle.audit_run.proofs.calls.begin.Goals as goal

pub returns-in-Ok-clause-play : goal.returns-in-Ok-clause-play
returns-in-Ok-clause-play c =
    let k = rw (← c.hands.view_is) at c.requires in
    let begun : AreBegun c.args.core.now.history c.end_draft.new.drafts.items = rw (c.end_draft.ensures.others, c.reserve.ensures.items) (begun_others c.args.core.now.history c.args.actor c.hands.inside.drafts.items k.drafts) in
    rw c.push_reserved.ensures.items (began c.args.actor c.end_draft.new.drafts.items c.in-Ok.base k c.in-Ok.ensures.ok begun)

pub returns-in-Ok-clause-acts : goal.returns-in-Ok-clause-acts
returns-in-Ok-clause-acts c =
    rw (← c.hands.view_is, c.push_reserved.ensures.items, c.end_draft.ensures.others, c.reserve.ensures.items)
    (begin_done (record { drafts = c.hands.inside.drafts.items; claims = c.hands.inside.claims.items }) c.args.actor c.in-Ok.base c.in-Ok.ensures.snapshot c.in-Ok.ensures.not_full c.in-Ok.ensures.ok)
