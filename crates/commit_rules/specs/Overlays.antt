-- What edits have put over a model: at each id that they name, the instance that stands there now, or none.
use Rattle.std.specs.Prelude.{◌≡◌, ℕ, ◌+◌, ◌-◌, ◌==◌, Bool, List, if◌then◌else◌, length, Option, Some, None, is_some, unwrap_or}
use Rattle.std.specs.List.{list_any}
use Rattle.std.specs.Option.{option_map}
use Rattle.std.specs.Ordering.{nat_cmp}
use Rattle.std.specs.BTreeMap as tree
use Rattle.std.specs.BTreeMap.{BTreeMap}
use Rattle.ifc_base.specs.declared.value.Instance.{Instance}
use Rattle.ifc_base.specs.declared.key.Key.{Key}
use Rattle.schema_table.specs.Schema.{Schema}
use Rattle.audit_model.specs.declared.commit.Edit.{Edit}
use Rattle.audit_model.specs.declared.commit.Edit.TheVariants.{Add, Set, Remove}
use Rattle.audit_model.specs.declared.step.Limits.{Limits}
use Rattle.audit_model.specs.Models.{IsModel, instance_at}
use Rattle.audit_model.specs.Edits.{apply, edit_id, with_attribute}
use Rattle.audit_model.specs.Judging.{edit_fault, fault_given}
use Rattle.commit_rules.specs.declared.outcome.Left.{Left}
use Rattle.commit_rules.specs.declared.overlay.Overlay.{Overlay}

-- One edit.

-- what stands at the id of the edit once it is done, by what stood there
abbrev pub left_by : Schema → Option Instance → Edit → Option Instance
left_by s held (Add x) = Some x
left_by s held (Set id attr value) = option_map (with_attribute s attr value) held
left_by s held (Remove id) = None

-- how many instances there are then, by how many there were
abbrev pub counted : ℕ → Edit → ℕ
counted n (Add x) = n + 1
counted n (Set id attr value) = n
counted n (Remove id) = n - 1

-- The edit has no fault but a conflict, and leaves this.
pub record IsLeft (s : Schema) (limits : Limits) (held : Option Instance) (count : ℕ) (e : Edit) (left : Left) : Type 0 where
  pub faultless : edit_fault s limits held count e ≡ None
  pub now : left.now ≡ left_by s held e
  pub count_is : left.count ≡ counted count e

-- Several edits.

-- what was put at the id
unfoldable pub put_at : BTreeMap ℕ (Option Instance) → ℕ → Option (Option Instance)
put_at t i = tree.get nat_cmp t i

-- what stands at the id: what was put there, or else what stood there before
abbrev pub over : BTreeMap ℕ (Option Instance) → (ℕ → Option Instance) → ℕ → Option Instance
over t below i = unwrap_or (put_at t i) (below i)

-- The edit has no fault, and what it leaves was put over what was there.
pub record IsLaid (s : Schema) (limits : Limits) (last : Key → ℕ) (base : ℕ) (below : ℕ → Option Instance) (old : Overlay) (e : Edit) (new : Overlay) : Type 0 where
  pub faultless : fault_given s limits last base (over old.put below (edit_id e)) old.count e ≡ None
  pub put_is : (i : ℕ) → put_at new.put i ≡ (if edit_id e == i then Some (left_by s (over old.put below (edit_id e)) e) else put_at old.put i)
  pub count_is : new.count ≡ counted old.count e

-- Over the model m, where `below` stands at each id, the overlay shows the model with these edits done: it has put something at the ids
-- that they name.
pub record Shows (s : Schema) (m : List Instance) (below : ℕ → Option Instance) (edits : List Edit) (overlay : Overlay) : Type 0 where
  pub ascending : IsModel (apply s m edits)
  pub at : (i : ℕ) → over overlay.put below i ≡ instance_at i (apply s m edits)
  pub named : (i : ℕ) → is_some (put_at overlay.put i) ≡ list_any (λ e. edit_id e == i) edits
  pub count_is : overlay.count ≡ length (apply s m edits)
