-- Whether the edits of a commit are accepted, or the first reason why not.
use Rattle.std.specs.Prelude.{ℕ, ◌+◌, min, Bool, false, not, ◌&&◌, ◌==◌, nat_lt, if◌then◌else◌, List, [], ◌∷◌, length, Option, Some, None, is_some, filter, flat_map}
use Rattle.std.specs.List.{list_any}
use Rattle.std.specs.Option.{option_or, option_map, option_map_or, option_and_then}
use Rattle.ifc_base.specs.declared.value.Instance.{Instance}
use Rattle.ifc_base.specs.declared.key.Key.{Key}
use Rattle.ifc_base.specs.declared.key.Key.TheVariants.{Inst}
use Rattle.ifc_base.specs.Refs.{refs_of}
use Rattle.audit_model.specs.declared.commit.Edit.{Edit}
use Rattle.audit_model.specs.declared.commit.Edit.TheVariants.{Add, Set, Remove}
use Rattle.audit_model.specs.declared.commit.EditFault.{EditFault}
use Rattle.audit_model.specs.declared.commit.EditFault.TheVariants.{Conflict, IdTaken, NoInstance, NoAttribute, Schema, TooManyInstances}
use Rattle.audit_model.specs.declared.commit.CommitRefusal.{CommitRefusal}
use Rattle.audit_model.specs.declared.commit.CommitRefusal.TheVariants.{RevisionsFull, Edit as EditRefused, Dangling}
use Rattle.audit_model.specs.declared.step.Limits.{Limits}
use Rattle.schema_table.specs.Schema as schema
use Rattle.schema_table.specs.Schema.{place_of}
use Rattle.schema_table.specs.Faults.{instance_fault}
use Rattle.audit_model.specs.Models.{is_present, instance_at}
use Rattle.audit_model.specs.Edits.{edit_id, with_attribute, edited, apply}

-- One edit. `last` gives the last revision that changed a key (0: none did), `base` is the revision on which the edits were
-- drafted, and m is the model with the edits before this one done. The first of the five faults that follow is the edit's fault.

-- a commit after the draft's base changed the instance that the edit names
abbrev pub conflict_of : (Key → ℕ) → ℕ → Edit → Option EditFault
conflict_of last base e = if nat_lt base (last (Inst (edit_id e))) then Some (Conflict (edit_id e) (last (Inst (edit_id e)))) else None

-- The id to add is there, or there is no instance of the id to set or remove; by the instance that is there.
abbrev pub id_fault_given : Option Instance → Edit → Option EditFault
id_fault_given held (Add x) = if is_some held then Some (IdTaken x.id) else None
id_fault_given held (Set id attr value) = if is_some held then None else Some (NoInstance id)
id_fault_given held (Remove id) = if is_some held then None else Some (NoInstance id)

abbrev pub id_fault_of : List Instance → Edit → Option EditFault
id_fault_of m e = id_fault_given (instance_at (edit_id e) m) e

-- the entity of the instance has no attribute of this name
abbrev pub attribute_fault_given : schema.Schema → Option Instance → Edit → Option EditFault
attribute_fault_given s held (Add x) = None
attribute_fault_given s held (Set id attr value) = option_and_then (λ x. if is_some (place_of s x.entity attr) then None else Some (NoAttribute id attr)) held
attribute_fault_given s held (Remove id) = None

-- the added or the changed instance doesn't fit the schema
abbrev pub schema_fault_given : schema.Schema → Option Instance → Edit → Option EditFault
schema_fault_given s held (Add x) = option_map (Schema x.id) (instance_fault s x)
schema_fault_given s held (Set id attr value) = option_and_then (λ x. option_map (Schema id) (instance_fault s (with_attribute s attr value x))) held
schema_fault_given s held (Remove id) = None

-- One more instance would be more than the limit allows; by how many there are.
abbrev pub room_fault_given : Limits → ℕ → Edit → Option EditFault
room_fault_given limits count (Add x) = if nat_lt count limits.instances then None else Some TooManyInstances
room_fault_given limits count (Set id attr value) = None
room_fault_given limits count (Remove id) = None

abbrev pub room_fault_of : Limits → List Instance → Edit → Option EditFault
room_fault_of limits m e = room_fault_given limits (length m) e

-- the fault of an edit that has no conflict, by the instance of its id that is there and by how many instances there are
abbrev pub edit_fault : schema.Schema → Limits → Option Instance → ℕ → Edit → Option EditFault
edit_fault s limits held count e =
    option_or (id_fault_given held e) (option_or (attribute_fault_given s held e) (option_or (schema_fault_given s held e) (room_fault_given limits count e)))

abbrev pub fault_given : schema.Schema → Limits → (Key → ℕ) → ℕ → Option Instance → ℕ → Edit → Option EditFault
fault_given s limits last base held count e = option_or (conflict_of last base e) (edit_fault s limits held count e)

abbrev pub fault_of : schema.Schema → Limits → (Key → ℕ) → ℕ → List Instance → Edit → Option EditFault
fault_of s limits last base m e = fault_given s limits last base (instance_at (edit_id e) m) (length m) e

-- A refusal carries the number of the edit as a u32: the true one, or 4,294,967,295 where the true one is greater.
abbrev pub carried_number : ℕ → ℕ
carried_number number = min number 4294967295

abbrev pub refused_or : Option EditFault → ℕ → Option CommitRefusal → Option CommitRefusal
refused_or None number rest = rest
refused_or (Some fault) number rest = Some (EditRefused (carried_number number) fault)

-- each edit is judged on the model with the edits before it done; number is that of the first of these
abbrev pub judge_from : schema.Schema → Limits → (Key → ℕ) → ℕ → ℕ → List Instance → List Edit → Option CommitRefusal
judge_from s limits last base number m [] = None
judge_from s limits last base number m (e ∷ es) =
    refused_or (fault_of s limits last base m e) number (judge_from s limits last base (number + 1) (edited s m e) es)

-- References to missing instances.

-- the ids to which the instance holds a reference, anywhere within its parameters
abbrev pub references : Instance → List ℕ
references x = flat_map refs_of x.params

-- in the model m, the instance with the id `from` is there and holds a reference to `to`, which is missing
abbrev pub is_dangling : List Instance → ℕ → ℕ → Bool
is_dangling m from to = option_map_or (λ x. list_any (λ id. id == to) (references x)) (instance_at from m) false && not (is_present to m)

-- the least of these numbers, or none
abbrev pub least : List ℕ → Option ℕ
least [] = None
least (n ∷ ns) = Some (option_map_or (min n) (least ns) n)

-- the least id to which x, an instance of n, holds a reference that dangles in n and did not in m
abbrev pub newly_missing : List Instance → List Instance → Instance → Option ℕ
newly_missing m n x = least (filter (λ to. not (is_present to n) && not (is_dangling m x.id to)) (references x))

-- The least such pair, by `from` and then by `to`, for these instances of n in ascending id.
abbrev pub dangling_from : List Instance → List Instance → List Instance → Option CommitRefusal
dangling_from m n [] = None
dangling_from m n (x ∷ xs) = option_or (option_map (λ to. Dangling x.id to) (newly_missing m n x)) (dangling_from m n xs)

-- The least pair of ids, by `from` and then by `to`, where after the commit from m to n the instance `from` holds a reference to the
-- missing `to`, and this was not so before it.
abbrev pub dangling : List Instance → List Instance → Option CommitRefusal
dangling m n = dangling_from m n n

-- Whole commits: the limit of revisions first, then the edits in turn, then the references of the model that they make. A commit
-- without edits is accepted.
unfoldable pub judge : schema.Schema → Limits → ℕ → (Key → ℕ) → ℕ → List Instance → List Edit → Option CommitRefusal
judge s limits revision last base m edits =
    if nat_lt revision limits.revisions then option_or (judge_from s limits last base 1 m edits) (dangling m (apply s m edits)) else Some RevisionsFull
