-- Whether an entity facet and an attribute facet hold, as functions of what their paths see (IDS 1.0, entity and attribute facet).
use Rattle.std.specs.Prelude.{ℕ, Bool, true, false, ◌&&◌, List, [], ◌∷◌, map, Option, Some, None, codes, bytes_eq, if◌then◌else◌}
use Rattle.std.specs.List.{list_any}
use Rattle.std.specs.Option.{option_or, option_map_or, option_and_then, unwrap_or}
use Rattle.ifc_base.specs.declared.value.Instance.{Instance}
use Rattle.ifc_base.specs.declared.value.Value.{Value}
use Rattle.schema_table.specs.declared.slot.AttrSlot.{AttrSlot}
use Rattle.schema_table.specs.Schema.{Schema}
use Rattle.schema_table.specs.Values.{enumeration, is_set}
use Rattle.schema_table.specs.Attributes.{attribute, text, parameters}
use Rattle.audit_model.specs.declared.facet.EntityFacet.{EntityFacet}
use Rattle.audit_model.specs.declared.facet.AttributeFacet.{AttributeFacet}
use Rattle.audit_model.specs.declared.facet.Facet.{Facet}
use Rattle.audit_model.specs.declared.facet.Facet.TheVariants.{Entity}
use Rattle.audit_model.specs.declared.verdict.Weighed.{Weighed}
use Rattle.restrictions.specs.Admitting.{admits_text}
use Rattle.audit_model.specs.Asked.{admits_if_asked, admits_text_if_asked}
use Rattle.audit_model.specs.Paths.{SeenKind}

-- a facet whose subject is there exactly where it holds
abbrev pub holds_alike : Bool → Weighed
holds_alike b = record { holds = b; subject = b }

-- the first of these that is there
abbrev pub first_there : {A : Type 0} → List (Option A) → Option A
first_there [] = None
first_there (o ∷ os) = option_or o (first_there os)

module _ (s : Schema) where
  -- The name of a user-defined type (ISO 16739-1, PredefinedType): the first of these texts that is there, or else the word itself.
  abbrev pub user_defined : Instance → List ℕ
  user_defined x = unwrap_or (first_there (text s x (codes "ObjectType") ∷ text s x (codes "ElementType") ∷ text s x (codes "ProcessType") ∷ [])) (codes "USERDEFINED")

  abbrev pub predefined_named : Instance → List ℕ → Option (List ℕ)
  predefined_named x name = if bytes_eq name (codes "NOTDEFINED") then None else (if bytes_eq name (codes "USERDEFINED") then Some (user_defined x) else Some name)

  -- The predefined type of an instance by itself: the enumeration value of its attribute PredefinedType, but that NOTDEFINED is none
  -- and USERDEFINED stands for a text.
  abbrev pub own_predefined : Instance → Option (List ℕ)
  own_predefined x = option_and_then (predefined_named x) (option_and_then enumeration (attribute s x (codes "PredefinedType")))

  -- The predefined type of an element: its own, else that of the first of its types that has one by itself.
  abbrev pub predefined_of : SeenKind → Option (List ℕ)
  predefined_of seen = first_there (map (option_and_then own_predefined) (seen.itself ∷ seen.types))

  -- Entity (IDS 1.0, entity facet): the name condition admits the name of the element's entity, which is in upper case, and the
  -- predefined type is admitted if one is asked for. A subclass doesn't match its superclass's name.
  abbrev pub entity_holds : EntityFacet → SeenKind → Bool
  entity_holds f seen = option_map_or (λ x. admits_text f.name x.entity) seen.itself false && admits_text_if_asked f.predefined (predefined_of seen)

  -- the attribute's name is admitted, and its value is set
  abbrev pub is_asked_attribute : AttributeFacet → AttrSlot × Value → Bool
  is_asked_attribute f p = admits_text f.name p.0.name && is_set p.1

  -- Attribute (IDS 1.0, attribute facet): some attribute of the element has an admitted name, is set, and has an admitted value, if one is asked for. Inverse
  -- attributes aren't looked at. The subject is an attribute of an admitted name that is set.
  abbrev pub attribute_weighed : AttributeFacet → Option Instance → Weighed
  attribute_weighed f None = holds_alike false
  attribute_weighed f (Some x) = record {
    holds = list_any (λ p. is_asked_attribute f p && admits_if_asked f.value p.1) (parameters s x);
    subject = list_any (is_asked_attribute f) (parameters s x);
  }

-- the facet, if it is an entity facet, admits an entity of this name
abbrev pub admits_entity : List ℕ → Facet → Bool
admits_entity name (Entity facet) = admits_text facet.name name
admits_entity name _ = true
