-- Which rows of the table of paths each facet looks along.
use Rattle.std.specs.Prelude.{ℕ, List, [], ◌∷◌, Option, Some, None, map}
use Rattle.ifc_base.specs.declared.key.Role.{Role}
use Rattle.ifc_base.specs.declared.key.Role.TheVariants as role
use Rattle.audit_model.specs.declared.facet.Facet.{Facet}
use Rattle.audit_model.specs.declared.facet.Facet.TheVariants.{Entity, Attribute, Property, Classification, Material, PartOf}
use Rattle.audit_model.specs.declared.facet.EntityFacet.{EntityFacet}
use Rattle.restrictions.specs.declared.condition.Condition.{Condition}
use Rattle.audit_model.specs.Relations.{roles_of}
use Rattle.audit_model.specs.Verdicts.{weigh}
use Rattle.audit_model.specs.Keys.{Sight}
use Rattle.schema_table.specs.Schema.{Schema}
use Rattle.closure_walk.specs.Walking.{SameKeys}
use Rattle.closure_walk.specs.Ties.{property_row}
use Rattle.closure_walk.specs.Table.{Leg, by_role, table_keys, classification_rows, material_rows, part_of_rows}
use Rattle.closure_walk.specs.Table.Leg.{Hops, Up, MoreUp}

abbrev pub own_rows : List (List Leg)
own_rows = [] ∷ []

abbrev pub kind_rows : List (List Leg)
kind_rows = (Hops (by_role role.Kind) ∷ []) ∷ []

abbrev pub property_rows : List (List Leg)
property_rows = map (λ hs. Hops hs ∷ []) property_row

abbrev pub part_of_kind_rows : List Role → List (List Leg)
part_of_kind_rows roles = (Up roles ∷ MoreUp roles ∷ Hops (by_role role.Kind) ∷ []) ∷ []

-- types are looked at for a predefined type alone
abbrev pub entity_rows : Option Condition → List (List Leg)
entity_rows None = own_rows
entity_rows (Some c) = kind_rows

abbrev pub ancestor_rows : List Role → Option Condition → List (List Leg)
ancestor_rows roles None = part_of_rows roles
ancestor_rows roles (Some c) = part_of_kind_rows roles

abbrev pub relation_rows : List Role → Option EntityFacet → List (List Leg)
relation_rows roles None = part_of_rows roles
relation_rows roles (Some entity) = ancestor_rows roles entity.predefined

abbrev pub facet_rows : Facet → List (List Leg)
facet_rows (Entity f) = entity_rows f.predefined
facet_rows (Attribute f) = own_rows
facet_rows (Property f) = property_rows
facet_rows (Classification f) = classification_rows
facet_rows (Material f) = material_rows
facet_rows (PartOf f) = relation_rows (roles_of f.relation) f.entity

-- A facet looks at the keys of its rows, whatever it finds.
abbrev pub FacetLooksAlongRows : Type 0
FacetLooksAlongRows = (s : Schema) (v : Sight) (f : Facet) (e : ℕ) → SameKeys ((weigh s f e).keys v) (table_keys s v (facet_rows f) e)
