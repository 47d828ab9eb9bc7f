-- Where a commit may let a reference dangle: at the ids that its edits name, and at the holders of the removed ones that they don't name.
-- Here `below` is what stood at each id before the commit, and what stands there after it is that with what was put over it.
use Rattle.std.specs.Prelude.{ℕ, Bool, false, min, not, ◌&&◌, ◌==◌, if◌then◌else◌, List, find, filter, filter_map, Option, Some, None, is_some}
use Rattle.std.specs.List.{list_any}
use Rattle.std.specs.Option.{option_and_then, option_map_or}
use Rattle.std.specs.BTreeMap.{BTreeMap}
use Rattle.ifc_base.specs.declared.value.Instance.{Instance}
use Rattle.audit_model.specs.declared.commit.Edit.{Edit}
use Rattle.audit_model.specs.Edits.{edit_id}
use Rattle.audit_model.specs.Judging.{least, references}
use Rattle.audit_model.specs.Keys.{holders}
use Rattle.commit_rules.specs.Overlays.{over, put_at}

-- One instance.

-- the instance with the id `from` held a reference to `to`
abbrev pub held : (ℕ → Option Instance) → ℕ → ℕ → Bool
held below from to = option_map_or (λ x. list_any (λ id. id == to) (references x)) (below from) false

-- the reference from the instance `from` to `to` dangles after the commit and did not before
abbrev pub is_newly_missing : BTreeMap ℕ (Option Instance) → (ℕ → Option Instance) → ℕ → ℕ → Bool
is_newly_missing t below from to = not (is_some (over t below to)) && not (held below from to && not (is_some (below to)))

-- the least id to which x holds a reference that does
abbrev pub missing_to : BTreeMap ℕ (Option Instance) → (ℕ → Option Instance) → Instance → Option ℕ
missing_to t below x = least (filter (is_newly_missing t below x.id) (references x))

-- and the least such id of the instance that stands at this id after the commit
abbrev pub missing_at : BTreeMap ℕ (Option Instance) → (ℕ → Option Instance) → ℕ → Option ℕ
missing_at t below i = option_and_then (missing_to t below) (over t below i)

-- The candidates.

-- the first of these ids at which nothing was put
abbrev pub first_unput : BTreeMap ℕ (Option Instance) → List ℕ → Option ℕ
first_unput t ids = find (λ i. not (is_some (put_at t i))) ids

-- by what stood and what stands at the id i, and by the first holder of it at which nothing was put
abbrev pub candidate_given : ℕ → Option ℕ → Option Instance → Option Instance → Option ℕ
candidate_given i holder old (Some x) = Some i
candidate_given i holder None None = None
candidate_given i holder (Some y) None = holder

-- The least id of an instance whose references may come to dangle by what was done at the id i: i itself, where an instance stands there now;
-- its first holder at which nothing was put, where one stood there and none does now; none, where none stood there and none does. Each
-- holder at which something was put is the candidate of its own id, or gone.
abbrev pub candidate : List Instance → BTreeMap ℕ (Option Instance) → (ℕ → Option Instance) → ℕ → Option ℕ
candidate m t below i = candidate_given i (first_unput t (holders m i)) (below i) (over t below i)

-- the candidate of an id, if something is missing newly to it
abbrev pub missing_by : List Instance → BTreeMap ℕ (Option Instance) → (ℕ → Option Instance) → ℕ → Option ℕ
missing_by m t below i = option_and_then (λ c. if is_some (missing_at t below c) then Some c else None) (candidate m t below i)

-- the least of these, for the ids that the edits name
abbrev pub least_from : List Instance → BTreeMap ℕ (Option Instance) → (ℕ → Option Instance) → List Edit → Option ℕ
least_from m t below es = least (filter_map (λ e. missing_by m t below (edit_id e)) es)

-- the lesser of two, if there are such
abbrev pub lesser_of : Option ℕ → Option ℕ → Option ℕ
lesser_of o None = o
lesser_of o (Some i) = Some (option_map_or (λ k. min k i) o i)
