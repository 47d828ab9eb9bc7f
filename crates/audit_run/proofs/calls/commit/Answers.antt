use Rattle.std.proofs.Common.{List, [], ap, refl, sym, subst}
use Rattle.audit_model.specs.declared.commit.Edit.{Edit}
use Rattle.audit_model.specs.declared.step.Reply.TheVariants.{Accepted}
use Rattle.model_view.specs.Views.{DraftView}
use Rattle.audit_run.specs.declared.calls.Act.TheVariants as act
use Rattle.audit_run.specs.Acts.{Does, ended}
use Rattle.audit_run.specs.Holding.{AreBegun, HandsView, begun_on, draft_of}
use Rattle.audit_run.specs.Runs.{IsPlayed}
use Rattle.audit_run.proofs.ActLaws.{commit_done, commit_none, commit_not_done, none_held}
use Rattle.audit_run.proofs.PlayLaws.{played_none, committed, not_committed, unchanged_self, adds_on}
use Rattle.audit_run.proofs.HoldLaws.{begun_first, begun_others, begun_past}
use Rattle.audit_run.proofs.calls.commit.Goals as goal

pub prepare-requires : goal.prepare-requires
prepare-requires c =
    let k = rw (← c.hands.view_is) at c.requires in
    rw c.from_parts.ensures (begun_past c.args.core.now.ground c.args.core.now.history c.args.actor c.in-Some.base.revision k.legal (begun_first c.args.core.now.history c.args.actor c.hands.inside.drafts.items (begun_on c.args.actor c.in-Some.base) k.drafts (sym c.in-Some.ensures.first)))

pub returns-in_default-clause-play : goal.returns-in_default-clause-play
returns-in_default-clause-play c =
    let k = rw (← c.hands.view_is) at c.requires in
    let rest : AreBegun c.args.core.now.history c.take_base.new.drafts.items = rw c.take_base.ensures.others (begun_others c.args.core.now.history c.args.actor c.hands.inside.drafts.items k.drafts) in
    played_none (record { drafts = c.take_base.new.drafts.items; claims = c.hands.inside.claims.items }) (record { actor = c.args.actor; act = act.Commit c.args.edits }) (unchanged_self c.args.core.now) (record { legal = k.legal; claims = k.claims; drafts = rest })

pub returns-in_default-clause-acts : goal.returns-in_default-clause-acts
returns-in_default-clause-acts c =
    let none = none_held (begun_on c.args.actor) c.take_base.result (draft_of c.args.actor c.hands.inside.drafts.items) c.in_default.not-Some c.take_base.ensures.first in
    rw (← c.hands.view_is, c.take_base.ensures.others) (commit_none c.args.core.now (record { drafts = c.hands.inside.drafts.items; claims = c.hands.inside.claims.items }) c.args.actor c.args.edits none)

pub returns-in-Ok-clause-play : goal.returns-in-Ok-clause-play
returns-in-Ok-clause-play c =
    let k = rw (← c.hands.view_is) at c.requires in
    let rest : AreBegun c.args.core.now.history c.take_base.new.drafts.items = rw c.take_base.ensures.others (begun_others c.args.core.now.history c.args.actor c.hands.inside.drafts.items k.drafts) in
    let own = begun_first c.args.core.now.history c.args.actor c.hands.inside.drafts.items (begun_on c.args.actor c.in-Some.base) k.drafts (sym c.in-Some.ensures.first) in
    let adds = rw (c.in-Ok.ensures.actor, c.in-Ok.ensures.base, c.in-Ok.ensures.edits, c.from_parts.ensures) at c.finish.ensures in
    committed c.args.actor c.in-Some.base.revision c.args.edits (Accepted c.finish.result) c.take_base.new.drafts.items k (adds_on c.in-Ok.ensures.unchanged adds) refl own rest

pub returns-in-Ok-clause-acts : goal.returns-in-Ok-clause-acts
returns-in-Ok-clause-acts c =
    let adds = rw (c.in-Ok.ensures.actor, c.in-Ok.ensures.base, c.in-Ok.ensures.edits, c.from_parts.ensures) at c.finish.ensures in
    let room = rw (c.in-Ok.ensures.unchanged.ground, c.in-Ok.ensures.unchanged.history) at c.in-Ok.ensures.ok.not_full in
    rw (← c.hands.view_is, c.take_base.ensures.others)
    (commit_done (record { drafts = c.hands.inside.drafts.items; claims = c.hands.inside.claims.items }) c.args.actor c.in-Some.base c.args.edits (Accepted c.finish.result) c.in-Some.ensures.first room (adds_on c.in-Ok.ensures.unchanged adds))

pub returns-clause-play : goal.returns-clause-play
returns-clause-play c =
    let k = rw (← c.hands.view_is) at c.requires in
    let rest : AreBegun c.args.core.now.history c.take_base.new.drafts.items = rw c.take_base.ensures.others (begun_others c.args.core.now.history c.args.actor c.hands.inside.drafts.items k.drafts) in
    let own = begun_first c.args.core.now.history c.args.actor c.hands.inside.drafts.items (begun_on c.args.actor c.in-Some.base) k.drafts (sym c.in-Some.ensures.first) in
    subst (λ (es : List Edit). IsPlayed c.args.core.now c.prepare.new.self (record { drafts = c.take_base.new.drafts.items; claims = c.hands.inside.claims.items }) (record { actor = c.args.actor; act = act.Commit es }) []) (ap (λ (d : DraftView). d.edits) c.from_parts.ensures)
    (not_committed c.args.actor c.from_parts.result c.take_base.new.drafts.items c.in-Err.field-0 k c.in-Err.ensures.not_prepared (rw c.from_parts.ensures own) rest)

pub returns-clause-acts : goal.returns-clause-acts
returns-clause-acts c =
    let hands : HandsView = record { drafts = c.hands.inside.drafts.items; claims = c.hands.inside.claims.items } in
    rw (← c.hands.view_is, c.take_base.ensures.others)
    (subst (λ (es : List Edit). Does c.args.core.now.ground c.args.actor (act.Commit es) c.args.core.now.history hands c.prepare.new.self.history (ended c.args.actor hands)) (ap (λ (d : DraftView). d.edits) c.from_parts.ensures)
    (commit_not_done c.args.core.now c.prepare.new.self hands c.args.actor c.from_parts.result c.in-Err.field-0 (rw c.from_parts.ensures c.in-Some.ensures.first) c.in-Err.ensures.not_prepared))
