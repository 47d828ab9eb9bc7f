-- The relationships that are looked at (ISO 16739-1, IFC4), and which instances refer to another one by them.
use Rattle.std.specs.Prelude.{ℕ, Bool, ◌&&◌, ◌==◌, List, [], ◌∷◌, map, filter, filter_map, codes, slice_get, Option}
use Rattle.std.specs.List.{list_any}
use Rattle.std.specs.Option.{option_map, option_map_or}
use Rattle.ifc_base.specs.declared.value.Instance.{Instance}
use Rattle.ifc_base.specs.declared.value.Value.{Value}
use Rattle.ifc_base.specs.Refs.{refs_of}
use Rattle.ifc_base.specs.declared.key.Role.{Role}
use Rattle.ifc_base.specs.declared.key.Role.TheVariants.{Properties, Kind, Classification, Material, Aggregates, Nests, Contained, Group, Voids, Fills}
use Rattle.schema_table.specs.declared.relation.Relation.{Relation}
use Rattle.schema_table.specs.Schema.{Schema, is_kind_of, place_of}

-- A relationship entity, its attribute for what is related, and its attribute for what that is related to.
pub record Relationship : Type 0 where
  pub entity : List ℕ
  pub related : List ℕ
  pub relating : List ℕ

abbrev pub relationship : Role → Relationship
relationship Properties = record { entity = codes "IFCRELDEFINESBYPROPERTIES"; related = codes "RelatedObjects"; relating = codes "RelatingPropertyDefinition" }
relationship Kind = record { entity = codes "IFCRELDEFINESBYTYPE"; related = codes "RelatedObjects"; relating = codes "RelatingType" }
relationship Classification = record { entity = codes "IFCRELASSOCIATESCLASSIFICATION"; related = codes "RelatedObjects"; relating = codes "RelatingClassification" }
relationship Material = record { entity = codes "IFCRELASSOCIATESMATERIAL"; related = codes "RelatedObjects"; relating = codes "RelatingMaterial" }
relationship Aggregates = record { entity = codes "IFCRELAGGREGATES"; related = codes "RelatedObjects"; relating = codes "RelatingObject" }
relationship Nests = record { entity = codes "IFCRELNESTS"; related = codes "RelatedObjects"; relating = codes "RelatingObject" }
relationship Contained = record { entity = codes "IFCRELCONTAINEDINSPATIALSTRUCTURE"; related = codes "RelatedElements"; relating = codes "RelatingStructure" }
relationship Group = record { entity = codes "IFCRELASSIGNSTOGROUP"; related = codes "RelatedObjects"; relating = codes "RelatingGroup" }
relationship Voids = record { entity = codes "IFCRELVOIDSELEMENT"; related = codes "RelatedOpeningElement"; relating = codes "RelatingBuildingElement" }
relationship Fills = record { entity = codes "IFCRELFILLSELEMENT"; related = codes "RelatedBuildingElement"; relating = codes "RelatingOpeningElement" }

-- The place of the related attribute among those of the relationship entity, where the schema has both. A subtype's attributes begin
-- with its supertype's, so it is the place in each instance of a kind of that entity.
abbrev pub related_place : Schema → Role → Option ℕ
related_place s role = place_of s (relationship role).entity (relationship role).related

-- the references that stand anywhere within the parameter at this place
abbrev pub references_at : List Value → ℕ → List ℕ
references_at params place = option_map_or refs_of (slice_get params place) []

-- The instance refers to the id by the role: its entity is a kind of the role's relationship entity, and its related attribute holds
-- a reference to the id, anywhere within. Where the schema doesn't have the entity or its attribute, nothing refers by the role.
abbrev pub refers : Schema → Role → ℕ → Instance → Bool
refers s role id x =
    is_kind_of s x.entity (relationship role).entity && list_any (λ to. to == id) (option_map_or (references_at x.params) (related_place s role) [])

-- The ids of the instances that refer to the id by the role, in the order of the list. There need be no instance of that id.
abbrev pub referrers : Schema → List Instance → ℕ → Role → List ℕ
referrers s m id role = map (λ x. x.id) (filter (refers s role id) m)

-- all roles, in their order
abbrev pub roles : List Role
roles = Properties ∷ Kind ∷ Classification ∷ Material ∷ Aggregates ∷ Nests ∷ Contained ∷ Group ∷ Voids ∷ Fills ∷ []

-- a role as the schema has it, if it does
abbrev pub relation : Schema → Role → Option Relation
relation s role = option_map (λ place. record { role = role; entity = (relationship role).entity; place = place }) (related_place s role)

-- the roles that the schema has, in their order
unfoldable pub relations : Schema → List Relation
relations s = filter_map (relation s) roles
