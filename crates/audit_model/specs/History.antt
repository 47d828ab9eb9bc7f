-- What a history says of revisions, models, changes and claims. A history is the list of the entries of a journal, the newest
-- first. All is said of the stored entries alone.
use Rattle.std.specs.Prelude.{ℕ, ◌+◌, Bool, true, false, not, ◌&&◌, ◌==◌, nat_lt, nat_le, if◌then◌else◌, List, [], ◌∷◌, ◌++◌, length, Option, Some, None, find, filter, filter_map, count_by}
use Rattle.std.specs.List.{list_any, list_all, cons_option}
use Rattle.ifc_base.specs.declared.value.Instance.{Instance}
use Rattle.ifc_base.specs.declared.key.Key.{Key}
use Rattle.audit_model.specs.declared.commit.Edit.{Edit}
use Rattle.audit_model.specs.declared.commit.CommitRefusal.{CommitRefusal}
use Rattle.audit_model.specs.declared.specification.Specification.{Specification}
use Rattle.audit_model.specs.declared.verdict.Pair.{Pair}
use Rattle.audit_model.specs.declared.step.Limits.{Limits}
use Rattle.audit_model.specs.declared.step.Call.{Call}
use Rattle.audit_model.specs.declared.step.Call.TheVariants.{Begin, Commit, Claim, Deliver, GiveBack, Publish}
use Rattle.audit_model.specs.declared.step.Reply.{Reply}
use Rattle.audit_model.specs.declared.step.Reply.TheVariants.{Accepted, Claimed, Used}
use Rattle.audit_model.specs.declared.step.StepRec.{StepRec}
use Rattle.audit_model.specs.declared.step.Given.{Given}
use Rattle.schema_table.specs.Schema.{Schema}
use Rattle.audit_model.specs.Models.{IsModel}
use Rattle.audit_model.specs.Edits.{apply}
use Rattle.audit_model.specs.Keys.{changes}
use Rattle.audit_model.specs.Pairs.{pairs, same_pair}
use Rattle.audit_model.specs.Needs.{need}
use Rattle.audit_model.specs.Judging.{judge}

-- what stays the same from the first entry to the last: the schema, the specifications, the model of the file, and the limits
pub record Ground : Type 0 where
  pub schema : Schema
  pub specs : List Specification
  pub first : List Instance
  pub limits : Limits

-- The words over which all that follows is written. What the machine knows of specifications, facets, keys and edits stands behind
-- them, so a further kind of facet, key or refusal changes nothing below them.

abbrev pub pairs_in : Ground → List Instance → List Pair
pairs_in g m = pairs g.specs m

-- the keys that the verdict on the pair needs in the model
abbrev pub need_in : Ground → Pair → List Instance → List Key
need_in g p m = need g.schema g.specs p m

-- the model with these edits done
abbrev pub apply_in : Ground → List Instance → List Edit → List Instance
apply_in g m edits = apply g.schema m edits

-- the commit from the one model to the other changes the key
abbrev pub changes_in : Ground → List Instance → List Instance → Key → Bool
changes_in g m n k = changes g.schema m n k

abbrev pub judge_in : Ground → ℕ → (Key → ℕ) → ℕ → List Instance → List Edit → Option CommitRefusal
judge_in g revision last base m edits = judge g.schema g.limits revision last base m edits

-- Commits. They are given as the edits of each, the newest first. Revision 0 is the file, and each commit makes the next.

-- the model after these commits
abbrev pub model_after : Ground → List (List Edit) → List Instance
model_after g [] = g.first
model_after g (edits ∷ cs) = apply_in g (model_after g cs) edits

-- the model of the revision r
abbrev pub model_of : Ground → List (List Edit) → ℕ → List Instance
model_of g [] r = g.first
model_of g (edits ∷ cs) r = if nat_le r (length cs) then model_of g cs r else apply_in g (model_after g cs) edits

-- The last revision that changed the key, or 0. A change back is a change again.
abbrev pub last_of : Ground → List (List Edit) → Key → ℕ
last_of g [] k = 0
last_of g (edits ∷ cs) k = if changes_in g (model_after g cs) (apply_in g (model_after g cs) edits) k then length cs + 1 else last_of g cs k

-- the model of the file and those after each commit are models: their ids ascend
abbrev pub AllModels : Ground → List (List Edit) → Type 0
AllModels g [] = IsModel g.first
AllModels g (edits ∷ cs) = IsModel (apply_in g (model_after g cs) edits) × AllModels g cs

-- Revisions and models of a history.

abbrev pub edits_of : Call → Option (List Edit)
edits_of (Commit base edits) = Some edits
edits_of _ = None

abbrev pub accepted_by : Call → Reply → Option (List Edit)
accepted_by call (Accepted r) = edits_of call
accepted_by call _ = None

-- the edits of an entry that is an accepted commit
abbrev pub accepted : StepRec → Option (List Edit)
accepted e = accepted_by e.call e.reply

-- the accepted commits, the newest first
abbrev pub commits : List StepRec → List (List Edit)
commits h = filter_map accepted h

-- the number of accepted commits
abbrev pub revision : List StepRec → ℕ
revision h = length (commits h)

-- the model of the current revision
abbrev pub current : Ground → List StepRec → List Instance
current g h = model_after g (commits h)

-- the model of the revision r
abbrev pub model_at : Ground → List StepRec → ℕ → List Instance
model_at g h r = model_of g (commits h) r

-- the last revision that changed the key, or 0
abbrev pub last_change : Ground → List StepRec → Key → ℕ
last_change g h k = last_of g (commits h) k

-- some commit with a revision above r changed the key
abbrev pub changed_since : Ground → List StepRec → ℕ → Key → Bool
changed_since g h r k = nat_lt r (last_change g h k)

-- Claims.

abbrev pub claim_numbered : ℕ → List Given → Option Given
claim_numbered n cs = find (λ c. c.number == n) cs

abbrev pub without_claim : ℕ → List Given → List Given
without_claim n cs = filter (λ c. not (c.number == n)) cs

abbrev pub with_claim : ℕ → Reply → List Given → List Given
with_claim actor (Claimed n p r) cs = cs ++ record { number = n; actor = actor; pair = p; revision = r } ∷ []
with_claim actor _ cs = cs

-- A claim comes out where it is given, and is out until its number is delivered or given back.
abbrev pub out_after : ℕ → Call → Reply → List Given → List Given
out_after actor Begin reply cs = cs
out_after actor (Commit base edits) reply cs = cs
out_after actor Claim reply cs = with_claim actor reply cs
out_after actor (Deliver n) reply cs = without_claim n cs
out_after actor (GiveBack n) reply cs = without_claim n cs
out_after actor Publish reply cs = cs

-- the claims that are out, the oldest first
abbrev pub out : List StepRec → List Given
out [] = []
out (e ∷ h) = out_after e.actor e.call e.reply (out h)

abbrev pub is_claimed : Reply → Bool
is_claimed (Claimed n p r) = true
is_claimed _ = false

-- how many claims were given
abbrev pub given : List StepRec → ℕ
given h = count_by (λ e. is_claimed e.reply) h

abbrev pub used_by : Call → Reply → List Given → Option Given
used_by (Deliver n) Used cs = claim_numbered n cs
used_by _ _ cs = None

-- the claims whose delivery was answered Used, the newest first
abbrev pub used : List StepRec → List Given
used [] = []
used (e ∷ h) = cons_option (used_by e.call e.reply (out h)) (used h)

-- a claim of the pair is out
abbrev pub is_out : List StepRec → Pair → Bool
is_out h p = list_any (λ c. same_pair c.pair p) (out h)

-- Settled pairs.

-- after these commits, nothing that the claim's verdict needed was changed since the claim's revision
abbrev pub stands_by : Ground → List (List Edit) → Given → Bool
stands_by g cs c = list_all (λ k. not (nat_lt c.revision (last_of g cs k))) (need_in g c.pair (model_of g cs c.revision))

abbrev pub stands : Ground → List StepRec → Given → Bool
stands g h c = stands_by g (commits h) c

-- after these commits, one of these used claims is of the pair and still stands
abbrev pub settled_by : Ground → List (List Edit) → List Given → Pair → Bool
settled_by g cs us p = list_any (λ c. same_pair c.pair p && stands_by g cs c) us

-- The pair is settled: a delivery of a claim of it was used, and nothing that its verdict needed was changed since that claim. In a
-- legal history whose first model is one, a settled pair is a pair of the current model. A pair of the current model that isn't
-- settled is unsettled.
abbrev pub settled : Ground → List StepRec → Pair → Bool
settled g h p = settled_by g (commits h) (used h) p
