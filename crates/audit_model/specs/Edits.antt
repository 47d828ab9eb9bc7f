-- What edits make of a model.
use Rattle.std.specs.Prelude.{ℕ, not, ◌==◌, if◌then◌else◌, List, [], ◌∷◌, filter, map, set}
use Rattle.std.specs.Option.{option_map_or}
use Rattle.ifc_base.specs.declared.value.Instance.{Instance}
use Rattle.ifc_base.specs.declared.value.Value.{Value}
use Rattle.schema_table.specs.Schema.{Schema, place_of}
use Rattle.audit_model.specs.declared.commit.Edit.{Edit}
use Rattle.audit_model.specs.declared.commit.Edit.TheVariants.{Add, Set, Remove}
use Rattle.audit_model.specs.Models.{with_instance}

-- the id of the instance that the edit adds, sets or removes
abbrev pub edit_id : Edit → ℕ
edit_id (Add x) = x.id
edit_id (Set id attr value) = id
edit_id (Remove id) = id

-- the model without the instance of this id
abbrev pub without_instance : ℕ → List Instance → List Instance
without_instance id m = filter (λ x. not (x.id == id)) m

-- the instance with this value as its attribute of this name; as it is where its entity has none
abbrev pub with_attribute : Schema → List ℕ → Value → Instance → Instance
with_attribute s attr value x = option_map_or (λ k. record x { params = set x.params k value }) (place_of s x.entity attr) x

-- the model with the edit done
abbrev pub edited : Schema → List Instance → Edit → List Instance
edited s m (Add x) = with_instance x m
edited s m (Set id attr value) = map (λ x. if x.id == id then with_attribute s attr value x else x) m
edited s m (Remove id) = without_instance id m

-- the model with the edits done in turn
abbrev pub apply : Schema → List Instance → List Edit → List Instance
apply s m [] = m
apply s m (e ∷ es) = apply s (edited s m e) es
