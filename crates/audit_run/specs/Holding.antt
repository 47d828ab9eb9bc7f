-- What actors hold between their calls.
use Rattle.std.specs.Prelude.{◌≡◌, ℕ, ◌<◌, Bool, true, false, ◌&&◌, ◌==◌, List, [], ◌∷◌, ◌++◌, Option, find}
use Rattle.std.specs.List.{list_any, before_first, after_first}
use Rattle.audit_model.specs.declared.step.StepRec.{StepRec}
use Rattle.audit_model.specs.declared.step.Reply.{Reply}
use Rattle.audit_model.specs.declared.step.Reply.TheVariants.{Began}
use Rattle.audit_model.specs.History.{Ground, model_at}
use Rattle.model_view.specs.Views.{ClaimView, IsSnapshotOf, SnapshotView}
use Rattle.model_view.specs.Answers.{IsOut}
use Rattle.audit_run.specs.declared.hands.Begun.{Begun}
use Rattle.audit_run.specs.declared.hands.Taken.{Taken}

-- what contracts see of hands: the snapshots on which drafts were begun, and the claims that were taken, each with its actor
pub record HandsView : Type 0 where
  pub drafts : List Begun
  pub claims : List Taken

-- After the history h the claim is out, and its snapshot is one of the model of its revision.
pub record IsTaken (g : Ground) (h : List StepRec) (taken : Taken) : Type 0 where
  pub is_out : IsOut h taken.actor taken.claim
  pub snapshot_is : IsSnapshotOf g.schema (model_at g h taken.claim.snapshot.revision) taken.claim.snapshot.revision taken.claim.snapshot

-- these claims have greater numbers
abbrev pub AreLater : ℕ → List Taken → Type 0
AreLater n [] = Unit {0}
AreLater n (t ∷ ts) = (n < t.claim.number) × AreLater n ts

-- these claims are out, in ascending number
abbrev pub AreTaken : Ground → List StepRec → List Taken → Type 0
AreTaken g h [] = Unit {0}
AreTaken g h (t ∷ ts) = IsTaken g h t × (AreLater t.claim.number ts × AreTaken g h ts)

abbrev pub is_began : ℕ → Reply → Bool
is_began r (Began q) = q == r
is_began r _ = false

-- by the entry the actor began a draft on the revision r
abbrev pub begins : ℕ → ℕ → StepRec → Bool
begins actor r e = (e.actor == actor) && is_began r e.reply

-- in the history the actor began a draft on the revision r
abbrev pub has_begun : List StepRec → ℕ → ℕ → Bool
has_begun h actor r = list_any (begins actor r) h

-- each of these drafts was begun in the history, by its actor and on the revision of its base
abbrev pub AreBegun : List StepRec → List Begun → Type 0
AreBegun h [] = Unit {0}
AreBegun h (b ∷ bs) = (has_begun h b.actor b.base.revision ≡ true) × AreBegun h bs

-- the list without the first element that passes
abbrev pub without_first : {X : Type 0} → (X → Bool) → List X → List X
without_first p xs = before_first p xs ++ after_first p xs

-- the draft of this actor on this snapshot
abbrev pub begun_on : ℕ → SnapshotView → Begun
begun_on actor base = record { actor = actor; base = base }

-- the claim as this actor holds it
abbrev pub taken_as : ℕ → ClaimView → Taken
taken_as actor claim = record { actor = actor; claim = claim }

abbrev pub drafted_by : ℕ → Begun → Bool
drafted_by actor b = b.actor == actor

abbrev pub taken_by : ℕ → Taken → Bool
taken_by actor t = t.actor == actor

-- the actor's draft among these, which is the first one, and the others
abbrev pub draft_of : ℕ → List Begun → Option Begun
draft_of actor bs = find (drafted_by actor) bs

abbrev pub other_drafts : ℕ → List Begun → List Begun
other_drafts actor bs = without_first (drafted_by actor) bs

-- the first claim of the actor's among these, and the others
abbrev pub claim_of : ℕ → List Taken → Option Taken
claim_of actor ts = find (taken_by actor) ts

abbrev pub other_claims : ℕ → List Taken → List Taken
other_claims actor ts = without_first (taken_by actor) ts
