-- What the calls of this crate say of one instance, and of one list of references.
use Rattle.std.specs.Prelude.{ℕ, Bool, false, ◌&&◌, List, Option, length, nat_lt}
use Rattle.std.specs.List.{list_any}
use Rattle.std.specs.Option.{option_map_or}
use Rattle.ifc_base.specs.declared.value.Instance.{Instance}
use Rattle.schema_table.specs.Schema.{Schema, is_kind_of}
use Rattle.audit_model.specs.declared.facet.ClassificationFacet.{ClassificationFacet}
use Rattle.audit_model.specs.declared.facet.MaterialFacet.{MaterialFacet}
use Rattle.audit_model.specs.declared.verdict.Weighed.{Weighed}
use Rattle.audit_model.specs.Keys.{Sight}
use Rattle.restrictions.specs.declared.condition.Condition.{Condition}
use Rattle.audit_model.specs.Relations.{text_admitted, is_of_system, is_identified, is_material_named, is_made_of}

-- the instance is a kind of the entity and has an admitted text in the attribute
abbrev pub kind_admitted : Schema → List ℕ → Condition → List ℕ → Instance → Bool
kind_admitted s kind c attr x = is_kind_of s x.entity kind && text_admitted s c attr x

-- there is an instance of this id, and it is so
abbrev pub kind_admitted_at : Schema → Sight → List ℕ → Condition → List ℕ → ℕ → Bool
kind_admitted_at s v kind c attr id = option_map_or (kind_admitted s kind c attr) (v.instance id) false

-- what is said of one reference, seen as the members of its closure
abbrev pub reference_weighed : Schema → ClassificationFacet → List (Option Instance) → Weighed
reference_weighed s f seen = record { holds = is_of_system s f seen && is_identified s f seen; subject = is_of_system s f seen }

-- what is said of references, any one of them
abbrev pub references_weighed : Schema → ClassificationFacet → List (List (Option Instance)) → Weighed
references_weighed s f rs = record { holds = list_any (λ r. is_of_system s f r && is_identified s f r) rs; subject = list_any (is_of_system s f) rs }

-- there is a material definition of this id, and it is named so
abbrev pub material_named_at : Schema → Sight → Condition → ℕ → Bool
material_named_at s v c id = option_map_or (is_material_named s c) (v.instance id) false

-- what is said of the members of the closure of materials
abbrev pub members_weighed : Schema → MaterialFacet → List (Option Instance) → Weighed
members_weighed s f seen = record { holds = is_made_of s f seen; subject = nat_lt 0 (length seen) }
