-- What each act adds to a history, and what the actors hold after it. An act adds one entry or none, and the reply in it is the
-- machine's. Histories stand here with the newest entry first.
use Rattle.std.specs.Prelude.{◌≡◌, ℕ, false, ◌⊎◌, List, [], ◌∷◌, ◌++◌, Option, Some, None}
use Rattle.audit_model.specs.declared.commit.Edit.{Edit}
use Rattle.audit_model.specs.declared.step.Call.TheVariants as call
use Rattle.audit_model.specs.declared.step.Reply.{Reply}
use Rattle.audit_model.specs.declared.step.Reply.TheVariants as reply
use Rattle.audit_model.specs.declared.step.StepRec.{StepRec}
use Rattle.audit_model.specs.History.{Ground, revision}
use Rattle.audit_model.specs.Machine.{claim_reply, commit_reply, deliver_reply, publish_reply, is_full}
use Rattle.script_rules.specs.ScriptLines.{entry}
use Rattle.model_view.specs.Views.{ClaimView, SnapshotView}
use Rattle.model_view.specs.Answers.{given_of, IsNow}
use Rattle.audit_run.specs.declared.calls.Act.{Act}
use Rattle.audit_run.specs.declared.calls.Act.TheVariants as act
use Rattle.audit_run.specs.declared.calls.Asked.{Asked}
use Rattle.audit_run.specs.declared.hands.Begun.{Begun}
use Rattle.audit_run.specs.declared.hands.Taken.{Taken}
use Rattle.audit_run.specs.Holding.{HandsView, begun_on, taken_as, draft_of, claim_of, other_drafts, other_claims}

-- What the actors hold after one of them let its draft go, began a draft on this snapshot in place of the one that it had, let its
-- first claim go, and was given this reply to a claim, on this snapshot.

abbrev pub ended : ℕ → HandsView → HandsView
ended actor hands = record { drafts = other_drafts actor hands.drafts; claims = hands.claims }

abbrev pub begun : ℕ → SnapshotView → HandsView → HandsView
begun actor base hands = record { drafts = other_drafts actor hands.drafts ++ begun_on actor base ∷ []; claims = hands.claims }

abbrev pub spent : ℕ → HandsView → HandsView
spent actor hands = record { drafts = hands.drafts; claims = other_claims actor hands.claims }

abbrev pub taken : ℕ → ClaimView → HandsView → HandsView
taken actor claim hands = record { drafts = hands.drafts; claims = hands.claims ++ taken_as actor claim ∷ [] }

-- What the actors hold after a claim with this reply: a pair that it is given is held beside the others, at a snapshot of the model now.
abbrev pub IsHeldAfter : Ground → ℕ → List StepRec → HandsView → HandsView → Reply → Type 0
IsHeldAfter g actor h hands after (reply.Claimed number pair revision) =
    (now : SnapshotView) × IsNow g h now × (after ≡ taken actor (record { number = number; pair = pair; snapshot = now }) hands)
IsHeldAfter g actor h hands after _ = after ≡ hands

-- After the history h no entry comes, and the actors then hold this.
abbrev pub AddsNone : HandsView → List StepRec → List StepRec → HandsView → Type 0
AddsNone held h k after = (k ≡ h) × (after ≡ held)

-- After the history h this entry comes, and the actors then hold this.
abbrev pub AddsOne : StepRec → HandsView → List StepRec → List StepRec → HandsView → Type 0
AddsOne e held h k after = (k ≡ e ∷ h) × (after ≡ held)

-- Begin: one Begin on the current revision, whose draft on a snapshot of it then stands in place of the actor's first. Without room for the entry none
-- comes, and none may come where memory is wanting; the actors then hold what they held.
abbrev pub Begins : Ground → ℕ → List StepRec → HandsView → List StepRec → HandsView → Type 0
Begins g actor h hands k after =
    AddsNone hands h k after
    ⊎ ((is_full g h 1 ≡ false)
    × ((base : SnapshotView) × IsNow g h base × AddsOne (entry actor call.Begin (reply.Began (revision h))) (begun actor base hands) h k after))

abbrev pub commit_entry : Ground → ℕ → ℕ → List Edit → List StepRec → StepRec
commit_entry g actor base edits h = entry actor (call.Commit base edits) (commit_reply g h base edits)

-- Commit: one Commit of these edits on the revision of the actor's draft. Without room none comes, and none may come where memory
-- is wanting; the draft ends all the same. An actor without a draft adds none.
abbrev pub Commits : Ground → ℕ → List Edit → Option Begun → List StepRec → HandsView → List StepRec → HandsView → Type 0
Commits g actor edits None h hands k after = AddsNone hands h k after
Commits g actor edits (Some b) h hands k after =
    AddsNone (ended actor hands) h k after
    ⊎ ((is_full g h 1 ≡ false) × AddsOne (commit_entry g actor b.base.revision edits h) (ended actor hands) h k after)

-- Take: one Claim, and a pair that it is given is then held beside the others. Without room for it and for its end none comes, and
-- none may come where memory is wanting.
abbrev pub Takes : Ground → ℕ → List StepRec → HandsView → List StepRec → HandsView → Type 0
Takes g actor h hands k after =
    AddsNone hands h k after
    ⊎ ((is_full g h 2 ≡ false) × ((k ≡ entry actor call.Claim (claim_reply g h) ∷ h) × IsHeldAfter g actor h hands after (claim_reply g h)))

-- Return: the return of the first claim that the actor holds; none comes only where it holds none.
abbrev pub Returns : ℕ → Option Taken → List StepRec → HandsView → List StepRec → HandsView → Type 0
Returns actor None h hands k after = AddsNone hands h k after
Returns actor (Some t) h hands k after = AddsOne (entry actor (call.GiveBack t.claim.number) reply.Back) (spent actor hands) h k after

-- Give: the delivery of the first claim that the actor holds, or its return where memory is wanting; none comes only where it holds
-- none.
abbrev pub Gives : Ground → ℕ → Option Taken → List StepRec → HandsView → List StepRec → HandsView → Type 0
Gives g actor None h hands k after = AddsNone hands h k after
Gives g actor (Some t) h hands k after =
    AddsOne (entry actor (call.Deliver t.claim.number) (deliver_reply g h (given_of actor t.claim))) (spent actor hands) h k after
    ⊎ AddsOne (entry actor (call.GiveBack t.claim.number) reply.Back) (spent actor hands) h k after

-- Publish: one Publish. Without room none comes, and none may come where memory is wanting.
abbrev pub Publishes : Ground → ℕ → List StepRec → HandsView → List StepRec → HandsView → Type 0
Publishes g actor h hands k after =
    AddsNone hands h k after ⊎ ((is_full g h 1 ≡ false) × AddsOne (entry actor call.Publish (publish_reply g h)) hands h k after)

-- The act of this actor leads from the history h and what the actors hold to the history k and what they hold after it.
abbrev pub Does : Ground → ℕ → Act → List StepRec → HandsView → List StepRec → HandsView → Type 0
Does g actor act.Begin h hands k after = Begins g actor h hands k after
Does g actor (act.Commit edits) h hands k after = Commits g actor edits (draft_of actor hands.drafts) h hands k after
Does g actor act.Take h hands k after = Takes g actor h hands k after
Does g actor act.Give h hands k after = Gives g actor (claim_of actor hands.claims) h hands k after
Does g actor act.Return h hands k after = Returns actor (claim_of actor hands.claims) h hands k after
Does g actor act.Publish h hands k after = Publishes g actor h hands k after

-- the acts in turn, each once
abbrev pub DoAll : Ground → List Asked → List StepRec → HandsView → List StepRec → HandsView → Type 0
DoAll g [] h hands k after = (k ≡ h) × (after ≡ hands)
DoAll g (asked ∷ more) h hands k after =
    (i : List StepRec) × (held : HandsView) × Does g asked.actor asked.act h hands i held × DoAll g more i held k after
