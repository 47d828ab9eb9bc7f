-- Which reply each call has after a history, and which histories are legal.
use Rattle.std.specs.Prelude.{◌≡◌, ℕ, ◌+◌, ◌≤◌, Bool, not, ◌&&◌, nat_lt, List, [], ◌∷◌, length, Option, Some, None, find}
use Rattle.ifc_base.specs.declared.key.Key.{Key}
use Rattle.audit_model.specs.declared.commit.Edit.{Edit}
use Rattle.audit_model.specs.declared.commit.CommitRefusal.{CommitRefusal}
use Rattle.audit_model.specs.declared.verdict.Pair.{Pair}
use Rattle.audit_model.specs.declared.step.Call.{Call}
use Rattle.audit_model.specs.declared.step.Call.TheVariants.{Begin, Commit, Claim, Deliver, GiveBack, Publish}
use Rattle.audit_model.specs.declared.step.Reply.{Reply}
use Rattle.audit_model.specs.declared.step.Reply.TheVariants.{Began, Accepted, Refused, Claimed, Idle, Used, Stale, Back, Pending, Report}
use Rattle.audit_model.specs.declared.step.StepRec.{StepRec}
use Rattle.audit_model.specs.declared.step.Given.{Given}
use Rattle.audit_model.specs.History.{Ground, pairs_in, need_in, judge_in, revision, current, model_at, changed_since, last_change, out, given, claim_numbered, is_out, settled}

-- the pairs of the current model, by specification and then by element
abbrev pub pairs_now : Ground → List StepRec → List Pair
pairs_now g h = pairs_in g (current g h)

abbrev pub least_unsettled : Ground → List StepRec → Option Pair
least_unsettled g h = find (λ p. not (settled g h p)) (pairs_now g h)

-- the least unsettled pair that isn't out
abbrev pub least_claimable : Ground → List StepRec → Option Pair
least_claimable g h = find (λ p. not (settled g h p) && not (is_out h p)) (pairs_now g h)

-- the least key that the claim's verdict needs and that was changed since the claim
abbrev pub least_changed : Ground → List StepRec → Given → Option Key
least_changed g h c = find (changed_since g h c.revision) (need_in g c.pair (model_at g h c.revision))

-- The replies.

abbrev pub claimed : Option Pair → ℕ → ℕ → Reply
claimed None number r = Idle
claimed (Some p) number r = Claimed number p r

-- Claim: the next number, the least unsettled pair that isn't out, and the current revision; Idle where there is no such pair.
abbrev pub claim_reply : Ground → List StepRec → Reply
claim_reply g h = claimed (least_claimable g h) (given h + 1) (revision h)

abbrev pub delivered : Option Key → (Key → ℕ) → Reply
delivered None last = Used
delivered (Some k) last = Stale k (last k)

-- Deliver: Used where nothing that the claim's verdict needs was changed since, else the least such key and its last change.
abbrev pub deliver_reply : Ground → List StepRec → Given → Reply
deliver_reply g h c = delivered (least_changed g h c) (last_change g h)

abbrev pub published : Option Pair → ℕ → Reply
published None r = Report r
published (Some p) r = Pending p

-- Publish: the least unsettled pair, or the report of the current revision where there is none.
abbrev pub publish_reply : Ground → List StepRec → Reply
publish_reply g h = published (least_unsettled g h) (revision h)

abbrev pub committed : Option CommitRefusal → ℕ → Reply
committed None r = Accepted r
committed (Some refusal) r = Refused refusal

-- Commit, of edits that were drafted on the revision `base`: accepted as the next revision, or the first refusal.
abbrev pub commit_reply : Ground → List StepRec → ℕ → List Edit → Reply
commit_reply g h base edits = committed (judge_in g (revision h) (last_change g h) base (current g h) edits) (revision h + 1)

-- the claim of this number is out, and was given to this actor
pub record Holds (h : List StepRec) (actor number : ℕ) (c : Given) : Type 0 where
  pub is_held : claim_numbered number (out h) ≡ Some c
  pub by : c.actor ≡ actor

-- After the history h, the call of this actor may be made and has this reply. A commit is of a revision so far; only the actor to
-- whom a claim was given ends it.
abbrev pub Answers : Ground → List StepRec → ℕ → Call → Reply → Type 0
Answers g h actor Begin reply = reply ≡ Began (revision h)
Answers g h actor (Commit base edits) reply = (base ≤ revision h) × (reply ≡ commit_reply g h base edits)
Answers g h actor Claim reply = reply ≡ claim_reply g h
Answers g h actor (Deliver n) reply = (c : Given) × Holds h actor n c × (reply ≡ deliver_reply g h c)
Answers g h actor (GiveBack n) reply = (c : Given) × Holds h actor n c × (reply ≡ Back)
Answers g h actor Publish reply = reply ≡ publish_reply g h

abbrev pub MayFollow : Ground → List StepRec → StepRec → Type 0
MayFollow g h e = Answers g h e.actor e.call e.reply

-- each entry is what the entries before it allow
abbrev pub Legal : Ground → List StepRec → Type 0
Legal g [] = Unit {0}
Legal g (e ∷ h) = MayFollow g h e × Legal g h

-- There is no room for n more entries beside one for the end of each claim that is out. The call is then answered Full and makes no
-- entry: n is 2 for a claim, which keeps room for its own end, and 1 for beginning, committing and publishing.
abbrev pub is_full : Ground → List StepRec → ℕ → Bool
is_full g h n = nat_lt g.limits.steps (length h + length (out h) + n)
