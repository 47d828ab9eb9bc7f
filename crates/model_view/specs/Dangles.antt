-- Where a commit may let a reference dangle: at the ids that its edits name, and at the holders of the removed ones.
use Rattle.std.specs.Prelude.{◌≡◌, ℕ, false, min, if◌then◌else◌, ◌==◌, List, [], ◌∷◌, filter_map, Option, Some, None, is_some}
use Rattle.std.specs.List.{list_any}
use Rattle.std.specs.Option.{option_and_then, option_map, option_map_or}
use Rattle.ifc_base.specs.declared.value.Instance.{Instance}
use Rattle.audit_model.specs.declared.commit.Edit.{Edit}
use Rattle.audit_model.specs.declared.commit.CommitRefusal.{CommitRefusal}
use Rattle.audit_model.specs.declared.commit.CommitRefusal.TheVariants.{Dangling}
use Rattle.audit_model.specs.Models.{instance_at}
use Rattle.audit_model.specs.Edits.{edit_id}
use Rattle.audit_model.specs.Judging.{least, newly_missing}
use Rattle.audit_model.specs.Keys.{holders}

abbrev pub head_of : List ℕ → Option ℕ
head_of [] = None
head_of (i ∷ is) = Some i

-- by what stood and what stands at the id i
abbrev pub candidate_given : List Instance → ℕ → Option Instance → Option Instance → Option ℕ
candidate_given n i o (Some x) = Some i
candidate_given n i None None = None
candidate_given n i (Some y) None = head_of (holders n i)

-- In a commit from m to n, the least id of an instance whose references may come to dangle by what was done at the id i: i itself, where an
-- instance stands there now; its first holder, where one stood there and none does now; none, where none stood there and none does.
abbrev pub candidate : List Instance → List Instance → ℕ → Option ℕ
candidate m n i = candidate_given n i (instance_at i m) (instance_at i n)

-- the least id that is missing newly to the instance of this id in n, if there is one
abbrev pub missing_at : List Instance → List Instance → ℕ → Option ℕ
missing_at m n i = option_and_then (newly_missing m n) (instance_at i n)

-- the candidate of an id, if something is missing newly to it
abbrev pub missing_by : List Instance → List Instance → ℕ → Option ℕ
missing_by m n i = option_and_then (λ c. if is_some (missing_at m n c) then Some c else None) (candidate m n i)

-- the least of these, for the ids that the edits name
abbrev pub least_from : List Instance → List Instance → List Edit → Option ℕ
least_from m n es = least (filter_map (λ e. missing_by m n (edit_id e)) es)

-- the lesser of two, if there are such
abbrev pub lesser_of : Option ℕ → Option ℕ → Option ℕ
lesser_of o None = o
lesser_of o (Some i) = Some (option_map_or (λ k. min k i) o i)

abbrev pub refusal_at : List Instance → List Instance → ℕ → Option CommitRefusal
refusal_at m n f = option_map (λ to. Dangling f to) (missing_at m n f)

-- at an id that no edit names the same instance stands in n as in m, or none does in both
abbrev pub KeepsOthers : List Edit → List Instance → List Instance → Type 0
KeepsOthers es m n = (i : ℕ) → list_any (λ e. edit_id e == i) es ≡ false → instance_at i n ≡ instance_at i m
