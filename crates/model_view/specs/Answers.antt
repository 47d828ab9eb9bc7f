-- What the answers of the calls of an audit tell, by its ground and the histories before and after the call. Histories stand here with the
-- newest entry first.
use Rattle.std.specs.Prelude.{◌≡◌, Bool, true, false, ℕ, List, Some}
use Rattle.audit_model.specs.declared.step.Given.{Given}
use Rattle.audit_model.specs.declared.step.StepRec.{StepRec}
use Rattle.audit_model.specs.declared.step.Reply.{Reply}
use Rattle.audit_model.specs.declared.step.Reply.TheVariants as reply
use Rattle.audit_model.specs.Report.{audit_text}
use Rattle.audit_model.specs.History.{Ground, model_at, current, revision, out, claim_numbered}
use Rattle.model_view.specs.Views.{SnapshotView, IsSnapshotOf, ClaimView, FindingView}
use Rattle.model_view.specs.Findings.{IsFindingOf}
use Rattle.model_view.specs.declared.answers.Halt.{Halt}
use Rattle.model_view.specs.declared.answers.Halt.TheVariants as halt
use Rattle.model_view.specs.declared.answers.NotPrepared.{NotPrepared}
use Rattle.model_view.specs.declared.answers.NotPrepared.TheVariants as unprepared
use Rattle.model_view.specs.declared.answers.Claimed.{Claimed}
use Rattle.model_view.specs.declared.answers.Claimed.TheVariants as claimed
use Rattle.model_view.specs.declared.answers.Delivered.{Delivered}
use Rattle.model_view.specs.declared.answers.Delivered.TheVariants as delivered
use Rattle.model_view.specs.declared.answers.Published.{Published}
use Rattle.model_view.specs.declared.answers.Published.TheVariants as published

-- it is a snapshot of the current model and revision after the history
abbrev pub IsNow : Ground → List StepRec → SnapshotView → Type 0
IsNow g h v = IsSnapshotOf g.schema (current g h) (revision h) v

-- the answer says that there is no room
abbrev pub tells_full : Halt → Bool
tells_full halt.Full = true
tells_full halt.Memory = false

-- the answer says that there is no room
abbrev pub gives_full : NotPrepared → Bool
gives_full (unprepared.Refused why back) = false
gives_full (unprepared.Full back) = true
gives_full (unprepared.Memory back) = false

-- Claims.

-- the claim as a history has it, given to this actor
abbrev pub given_of : ℕ → ClaimView → Given
given_of actor claim = record { number = claim.number; actor = actor; pair = claim.pair; revision = claim.snapshot.revision }

-- after the history the claim is out, and was given to this actor
abbrev pub IsOut : List StepRec → ℕ → ClaimView → Type 0
IsOut h actor claim = claim_numbered claim.number (out h) ≡ Some (given_of actor claim)

-- the reply to a claim
abbrev pub claim_told : Claimed → Reply
claim_told (claimed.Pair claim) = reply.Claimed claim.number claim.pair claim.snapshot.revision
claim_told claimed.Idle = reply.Idle

-- A call that leads from the history h to the history k gives this claim: it is of the model now, and out afterwards.
pub record IsGiven (g : Ground) (h k : List StepRec) (actor : ℕ) (claim : ClaimView) : Type 0 where
  pub snapshot : IsNow g h claim.snapshot
  pub is_out : IsOut k actor claim

-- the claim that the call gives, if it gives one
abbrev pub IfGiven : Ground → List StepRec → List StepRec → ℕ → Claimed → Type 0
IfGiven g h k actor (claimed.Pair claim) = IsGiven g h k actor claim
IfGiven g h k actor claimed.Idle = Unit {0}

-- Deliveries.

-- the reply to a delivery
abbrev pub delivery_told : Delivered → Reply
delivery_told delivered.Used = reply.Used
delivery_told (delivered.Stale key revision) = reply.Stale key revision

-- The finding is of a claim that is out and was given to this actor, and whose snapshot is the model of its revision; its verdict and
-- needs are those of the definitions there.
pub record IsTrue (g : Ground) (h : List StepRec) (actor : ℕ) (finding : FindingView) : Type 0 where
  pub is_out : IsOut h actor finding.claim
  pub snapshot_is : finding.claim.snapshot.model ≡ model_at g h finding.claim.snapshot.revision
  pub finds : IsFindingOf g.schema g.specs finding.claim finding

-- Reports.

-- the reply to a publish
abbrev pub publish_told : Published → Reply
publish_told (published.Report revision text) = reply.Report revision
publish_told (published.Pending pair) = reply.Pending pair

-- a report is, byte for byte, the audit from scratch of the model of the revision that it names
abbrev pub IsAudit : Ground → List StepRec → Published → Type 0
IsAudit g h (published.Report revision text) = text ≡ audit_text g.schema g.specs (model_at g h revision) revision
IsAudit g h (published.Pending pair) = Unit {0}
