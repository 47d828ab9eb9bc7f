-- Why an instance doesn't fit a schema (ISO 10303-21, mapping of simple entity instances).
use Rattle.std.specs.Prelude.{ℕ, ◌+◌, min, Bool, true, false, not, ◌||◌, ◌==◌, is_none, if◌then◌else◌, List, [], ◌∷◌, length, position, zip, Option, Some, None}
use Rattle.std.specs.Option.{option_or, option_map, option_and_then}
use Rattle.ifc_base.specs.declared.value.Instance.{Instance}
use Rattle.ifc_base.specs.declared.value.Value.{Value}
use Rattle.ifc_base.specs.declared.value.ValueNode.{ValueNode}
use Rattle.ifc_base.specs.declared.value.ValueNode.TheVariants as node
use Rattle.schema_table.specs.declared.slot.AttrSlot.{AttrSlot}
use Rattle.schema_table.specs.declared.fault.InstanceFault.{InstanceFault}
use Rattle.schema_table.specs.declared.fault.InstanceFault.TheVariants.{UnknownEntity, AbstractEntity, ParamCount, MisplacedDerived}
use Rattle.schema_table.specs.Schema.{Schema, declaration, attributes}

-- A number that a fault carries is the true one, or 4,294,967,295 where the true one is greater.
abbrev pub carried : ℕ → ℕ
carried n = min n 4294967295

abbrev pub is_asterisk : ValueNode → Bool
is_asterisk node.Derived = true
is_asterisk _ = false

abbrev pub is_dollar : ValueNode → Bool
is_dollar node.Absent = true
is_dollar _ = false

-- `*` stands for an attribute that isn't derived, or neither `*` nor `$` for one that is
abbrev pub is_misplaced : Bool → ValueNode → Bool
is_misplaced derived v = if derived then not (is_asterisk v || is_dollar v) else is_asterisk v

-- The first of the four that holds.

abbrev pub unknown_fault : Schema → Instance → Option InstanceFault
unknown_fault s x = if is_none (declaration s x.entity) then Some (UnknownEntity x.entity) else None

abbrev pub abstract_fault : Schema → Instance → Option InstanceFault
abstract_fault s x = option_and_then (λ d. if d.is_abstract then Some (AbstractEntity x.entity) else None) (declaration s x.entity)

abbrev pub count_fault : List AttrSlot → List Value → Option InstanceFault
count_fault slots params = if length params == length slots then None else Some (ParamCount (carried (length params)) (carried (length slots)))

-- the least place, from 1, at which `*` stands wrongly or is missing
abbrev pub derived_fault : List AttrSlot → List Value → Option InstanceFault
derived_fault slots params = option_map (λ k. MisplacedDerived (carried (k + 1))) (position (λ p. is_misplaced p.0.derived p.1.node) (zip slots params))

-- these parameters don't fit the attributes of an entity: they are another number, or `*` is misplaced
abbrev pub params_fault : List AttrSlot → List Value → Option InstanceFault
params_fault slots params = option_or (count_fault slots params) (derived_fault slots params)

-- The fault of an instance, if it has one: its entity isn't declared, or is abstract, or its parameters don't fit.
unfoldable pub instance_fault : Schema → Instance → Option InstanceFault
instance_fault s x = option_or (unknown_fault s x) (option_or (abstract_fault s x) (params_fault (attributes s x.entity) x.params))

-- the first instance of the list that doesn't fit, by its id, and its fault
abbrev pub first_misfit : Schema → List Instance → Option (ℕ × InstanceFault)
first_misfit s [] = None
first_misfit s (x ∷ xs) = option_or (option_map (λ fault. (x.id, fault)) (instance_fault s x)) (first_misfit s xs)
