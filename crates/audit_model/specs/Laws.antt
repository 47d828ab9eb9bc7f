-- Laws of legal histories, each the contract of a function without a body.
use Rattle.std.specs.Prelude.{◌≡◌, ℕ, zero, suc, filter_map, ◌+◌, ◌<◌, ◌≤◌, Bool, true, false, ◌⊎◌, List, [], ◌∷◌, ◌++◌, map, Option, Some, None}
use Rattle.ifc_base.specs.declared.value.Instance.{Instance}
use Rattle.ifc_base.specs.declared.key.Key.{Key}
use Rattle.audit_model.specs.declared.commit.CommitRefusal.{CommitRefusal}
use Rattle.audit_model.specs.declared.commit.CommitRefusal.TheVariants.{RevisionsFull, Edit as EditRefused, Dangling}
use Rattle.audit_model.specs.declared.commit.Edit.{Edit}
use Rattle.audit_model.specs.declared.specification.Specification.{Specification}
use Rattle.audit_model.specs.declared.verdict.Pair.{Pair}
use Rattle.audit_model.specs.declared.step.Call.{Call}
use Rattle.audit_model.specs.declared.step.Call.TheVariants.{Commit, Deliver}
use Rattle.audit_model.specs.declared.step.Reply.{Reply}
use Rattle.audit_model.specs.declared.step.Reply.TheVariants.{Accepted, Refused, Used}
use Rattle.audit_model.specs.declared.step.StepRec.{StepRec}
use Rattle.audit_model.specs.declared.step.Given.{Given}
use Rattle.audit_model.specs.Models.{IsModel}
use Rattle.audit_model.specs.Pairs.{is_pair, pairs, NumberedFrom}
use Rattle.audit_model.specs.Judging.{is_dangling, dangling}
use Rattle.audit_model.specs.History.{Ground, changes_in, accepted, revision, current, model_at, last_change, out, claim_numbered, settled}
use Rattle.audit_model.specs.Machine.{Answers, Legal}

-- After a history, an actor's call has at most one reply.
abbrev pub OneReply : Type 0
OneReply = (g : Ground) (h : List StepRec) (actor : ℕ) (call : Call) (reply other : Reply) → Answers g h actor call reply → Answers g h actor call other → reply ≡ other

-- who called what, entry by entry
abbrev pub calls : List StepRec → List (ℕ × Call)
calls h = map (λ e. (e.actor, e.call)) h

-- So the calls of a legal history determine its replies.
abbrev pub CallsDetermine : Type 0
CallsDetermine = (g : Ground) (h k : List StepRec) → Legal g h → Legal g k → calls h ≡ calls k → h ≡ k

-- Where the ids of the file's model ascend, so do those of the model of each revision of a legal history.
abbrev pub ModelsAscend : Type 0
ModelsAscend = (g : Ground) (h : List StepRec) (r : ℕ) → IsModel g.first → Legal g h → IsModel (model_at g h r)

-- the revision that a commit was accepted as
abbrev pub accepted_as : Reply → Option ℕ
accepted_as (Accepted r) = Some r
accepted_as _ = None

-- the numbers from n down to 1
abbrev pub down_from : ℕ → List ℕ
down_from zero = []
down_from (suc n) = suc n ∷ down_from n

-- Accepted commits form one order: the replies that accept one, the newest first, name the revisions from the current one down to 1.
abbrev pub CommitsAreNumbered : Type 0
CommitsAreNumbered = (g : Ground) (h : List StepRec) → Legal g h → filter_map (λ e. accepted_as e.reply) h ≡ down_from (revision h)

-- the entry e, made after the history h, changes no revision, no model, no settled pair and no claim out
pub record ChangesNothing (g : Ground) (h : List StepRec) (e : StepRec) : Type 0 where
  pub same_revision : revision (e ∷ h) ≡ revision h
  pub same_model : current g (e ∷ h) ≡ current g h
  pub same_models : (r : ℕ) → model_at g (e ∷ h) r ≡ model_at g h r
  pub same_changes : (k : Key) → last_change g (e ∷ h) k ≡ last_change g h k
  pub same_settled : (p : Pair) → settled g (e ∷ h) p ≡ settled g h p
  pub same_out : out (e ∷ h) ≡ out h

-- A refused commit changes nothing.
abbrev pub RefusedChangesNothing : Type 0
RefusedChangesNothing = (g : Ground) (h : List StepRec) (actor base : ℕ) (edits : List Edit) (refusal : CommitRefusal) →
    ChangesNothing g h (record { actor = actor; call = Commit base edits; reply = Refused refusal })

-- the entry e, made after the history h, is the delivery of a claim of the pair that was answered Used
pub record IsUsedDelivery (h : List StepRec) (e : StepRec) (p : Pair) : Type 0 where
  pub number : ℕ
  pub claim : Given
  pub delivers : e.call ≡ Deliver number
  pub is_used : e.reply ≡ Used
  pub was_out : claim_numbered number (out h) ≡ Some claim
  pub of_pair : claim.pair ≡ p

-- A pair that is settled after an entry that isn't an accepted commit was settled before it, or it is the delivered one.
abbrev pub SettledByDelivery : Type 0
SettledByDelivery = (g : Ground) (h : List StepRec) (e : StepRec) (p : Pair) → accepted e ≡ None → settled g (e ∷ h) p ≡ true →
    (settled g h p ≡ true) ⊎ IsUsedDelivery h e p

-- The model of a revision so far stays as it is, whatever entries come later.
abbrev pub EarlierModelsStay : Type 0
EarlierModelsStay = (g : Ground) (later h : List StepRec) (r : ℕ) → r ≤ revision h → model_at g (later ++ h) r ≡ model_at g h r

-- A settled pair is a pair of the current model.
abbrev pub SettledIsPair : Type 0
SettledIsPair = (g : Ground) (h : List StepRec) (p : Pair) → IsModel g.first → Legal g h → settled g h p ≡ true → is_pair g.specs (current g h) p ≡ true

-- the commit that made the revision r + 1 changed the key
abbrev pub changed_at : Ground → List StepRec → ℕ → Key → Bool
changed_at g h r k = changes_in g (model_at g h r) (model_at g h (r + 1)) k

-- the key was changed by the commit that made this revision, or the revision is 0; and by no commit after it
pub record IsLastChange (g : Ground) (h : List StepRec) (k : Key) (last : ℕ) : Type 0 where
  pub so_far : last ≤ revision h
  pub changed_it : (r : ℕ) → last ≡ r + 1 → changed_at g h r k ≡ true
  pub none_later : (r : ℕ) → last ≤ r → r < revision h → changed_at g h r k ≡ false

-- The last change of a key is the last revision whose commit changed it, or 0.
abbrev pub LastChangeIsLast : Type 0
LastChangeIsLast = (g : Ground) (h : List StepRec) (k : Key) → IsLastChange g h k (last_change g h k)

-- by specification, and then by element
abbrev pub ComesBefore : Pair → Pair → Type 0
ComesBefore p q = (p.spec < q.spec) ⊎ ((p.spec ≡ q.spec) × (p.elem < q.elem))

abbrev pub AllAfter : Pair → List Pair → Type 0
AllAfter p [] = Unit {0}
AllAfter p (q ∷ qs) = ComesBefore p q × AllAfter p qs

abbrev pub ArePairsAscending : List Pair → Type 0
ArePairsAscending [] = Unit {0}
ArePairsAscending (p ∷ ps) = AllAfter p ps × ArePairsAscending ps

-- The pairs of a model ascend, so that the first of them with a property is the least with it.
abbrev pub PairsAscend : Type 0
PairsAscend = (specs : List Specification) (m : List Instance) → NumberedFrom 1 specs → IsModel m → ArePairsAscending (pairs specs m)

-- after the commit from m to n the instance `from` holds a reference to the missing `to`, and this was not so before
abbrev pub DanglesNewly : List Instance → List Instance → ℕ → ℕ → Type 0
DanglesNewly m n from to = (is_dangling n from to ≡ true) × (is_dangling m from to ≡ false)

abbrev pub TellsDangling : List Instance → List Instance → Option CommitRefusal → Type 0
TellsDangling m n None = (from to : ℕ) → ¬ DanglesNewly m n from to
TellsDangling m n (Some (Dangling from to)) =
    DanglesNewly m n from to × ((f t : ℕ) → DanglesNewly m n f t → (from < f) ⊎ ((from ≡ f) × (to ≤ t)))
TellsDangling m n (Some RevisionsFull) = ⊥
TellsDangling m n (Some (EditRefused number fault)) = ⊥

-- The refusal for a missing reference names the least pair that dangles newly, by `from` and then by `to`; there is none exactly
-- where no pair does.
abbrev pub DanglingIsLeast : Type 0
DanglingIsLeast = (m n : List Instance) → IsModel n → TellsDangling m n (dangling m n)
