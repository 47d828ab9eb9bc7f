-- Whether a classification, a material and a partOf facet hold, as functions of what their paths see (IDS 1.0).
use Rattle.std.specs.Prelude.{ℕ, Bool, true, false, ◌&&◌, ◌||◌, List, [], ◌∷◌, length, nat_lt, Option, is_some, codes}
use Rattle.std.specs.List.{list_any}
use Rattle.std.specs.Option.{option_map_or}
use Rattle.ifc_base.specs.declared.value.Instance.{Instance}
use Rattle.ifc_base.specs.declared.key.Role.{Role}
use Rattle.ifc_base.specs.declared.key.Role.TheVariants as role
use Rattle.schema_table.specs.Schema.{Schema, is_kind_of}
use Rattle.schema_table.specs.Attributes.{text}
use Rattle.audit_model.specs.declared.facet.EntityFacet.{EntityFacet}
use Rattle.audit_model.specs.declared.facet.ClassificationFacet.{ClassificationFacet}
use Rattle.audit_model.specs.declared.facet.MaterialFacet.{MaterialFacet}
use Rattle.audit_model.specs.declared.facet.Relation.{Relation}
use Rattle.audit_model.specs.declared.facet.Relation.TheVariants.{Any, Aggregates, Nests, Contained, Group, VoidsFills}
use Rattle.audit_model.specs.declared.verdict.Weighed.{Weighed}
use Rattle.restrictions.specs.declared.condition.Condition.{Condition}
use Rattle.restrictions.specs.Admitting.{admits_text}
use Rattle.audit_model.specs.Paths.{SeenKind, SeenReferences, SeenMaterials}
use Rattle.audit_model.specs.Facets.{entity_holds}

-- the element's own, or where there are none those of its types
abbrev pub own_or : {A : Type 0} → List A → List A → List A
own_or [] of_types = of_types
own_or (x ∷ xs) of_types = x ∷ xs

-- The roles by which an element is a part of another. Where no relation is chosen all of them count.
abbrev pub roles_of : Relation → List Role
roles_of Any = role.Aggregates ∷ role.Nests ∷ role.Contained ∷ role.Group ∷ role.Voids ∷ role.Fills ∷ []
roles_of Aggregates = role.Aggregates ∷ []
roles_of Nests = role.Nests ∷ []
roles_of Contained = role.Contained ∷ []
roles_of Group = role.Group ∷ []
roles_of VoidsFills = role.Voids ∷ role.Fills ∷ []

module _ (s : Schema) where
  -- the instance's text in this attribute is there and is admitted
  abbrev pub text_admitted : Condition → List ℕ → Instance → Bool
  text_admitted c attr x = option_map_or (admits_text c) (text s x attr) false

  -- some of these instances is a kind of the entity and has an admitted text in the attribute
  abbrev pub some_kind_admitted : List ℕ → Condition → List ℕ → List (Option Instance) → Bool
  some_kind_admitted kind c attr seen = list_any (λ o. option_map_or (λ x. is_kind_of s x.entity kind && text_admitted c attr x) o false) seen

  -- The reference, seen as the members of its closure, is of the system, if one is asked for.
  abbrev pub is_of_system : ClassificationFacet → List (Option Instance) → Bool
  is_of_system f seen = option_map_or (λ c. some_kind_admitted (codes "IFCCLASSIFICATION") c (codes "Name") seen) f.system true

  -- some member of its closure has an admitted identification, if one is asked for
  abbrev pub is_identified : ClassificationFacet → List (Option Instance) → Bool
  is_identified f seen = option_map_or (λ c. some_kind_admitted (codes "IFCCLASSIFICATIONREFERENCE") c (codes "Identification") seen) f.value true

  -- Classification (IDS 1.0, classification facet): some reference of the element, or of its types where it has none, is of the system and has the identification. The
  -- subject is a reference that is of the system.
  abbrev pub classification_weighed : ClassificationFacet → SeenReferences → Weighed
  classification_weighed f seen = record {
    holds = list_any (λ r. is_of_system f r && is_identified f r) (own_or seen.own seen.of_types);
    subject = list_any (is_of_system f) (own_or seen.own seen.of_types);
  }

  -- the name, the category or the name of the layer set of a material definition is admitted
  abbrev pub is_material_named : Condition → Instance → Bool
  is_material_named c x = text_admitted c (codes "Name") x || text_admitted c (codes "Category") x || text_admitted c (codes "LayerSetName") x

  -- some member of the closure is named so, if a name is asked for
  abbrev pub is_made_of : MaterialFacet → List (Option Instance) → Bool
  is_made_of f seen = nat_lt 0 (length seen) && option_map_or (λ c. list_any (λ o. option_map_or (is_material_named c) o false) seen) f.value true

  -- Material (IDS 1.0, material facet): the element, or its types where it has none, has a material, and some member of their closure is named as asked. The
  -- subject is any material.
  abbrev pub material_weighed : MaterialFacet → SeenMaterials → Weighed
  material_weighed f seen = record {
    holds = is_made_of f (own_or seen.own seen.of_types);
    subject = nat_lt 0 (length (own_or seen.own seen.of_types));
  }

  -- PartOf (IDS 1.0, partOf facet): some ancestor is there and, if an entity is asked for, matches it.

  abbrev pub part_of_any : List (Option Instance) → Bool
  part_of_any seen = list_any is_some seen

  abbrev pub part_of_kind : EntityFacet → List SeenKind → Bool
  part_of_kind f seen = list_any (λ k. is_some k.itself && entity_holds s f k) seen
