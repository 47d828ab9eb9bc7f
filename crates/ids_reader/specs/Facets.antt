-- What a facet says, once its form is known (IDS 1.0, facets).
use Rattle.std.specs.Prelude.{ℕ, Bool, false, List, map, Option, None, Ok, codes, option_map, option_and_then, unwrap_or, is_none}
use Rattle.std.specs.Char.{to_ascii_uppercase}
use Rattle.std.specs.Option.{option_map_or}
use Rattle.std.specs.Str.{chars}
use Rattle.serde_json.specs.Data.{Data}
use Rattle.serde_json.specs.Find.{get}
use Rattle.schema_table.specs.Schema.{Schema, declaration}
use Rattle.audit_model.specs.declared.facet.AttributeFacet.{AttributeFacet}
use Rattle.audit_model.specs.declared.facet.ClassificationFacet.{ClassificationFacet}
use Rattle.audit_model.specs.declared.facet.EntityFacet.{EntityFacet}
use Rattle.audit_model.specs.declared.facet.Facet.{Facet}
use Rattle.audit_model.specs.declared.facet.Facet.TheVariants as facet
use Rattle.audit_model.specs.declared.facet.MaterialFacet.{MaterialFacet}
use Rattle.audit_model.specs.declared.facet.PartOfFacet.{PartOfFacet}
use Rattle.audit_model.specs.declared.facet.PropertyFacet.{PropertyFacet}
use Rattle.audit_model.specs.declared.facet.Relation.{Relation}
use Rattle.audit_model.specs.declared.facet.Relation.TheVariants.{Any}
use Rattle.ids_reader.specs.declared.tables.FacetKind.{FacetKind}
use Rattle.ids_reader.specs.declared.tables.FacetKind.TheVariants as kind
use Rattle.ids_reader.specs.Members.{text_at, relation_named}
use Rattle.ids_reader.specs.Reads.{Read, ◌>>=◌}
use Rattle.ids_reader.specs.Values.{optional, restriction_at, restriction_wanted}

-- ---- what each facet says

-- An entity facet, and the entity of a partOf facet.
unfoldable pub entity_of : Data → Read EntityFacet
entity_of d = do
  name ← restriction_wanted (codes "name") d
  predefined ← restriction_at (codes "predefinedType") d
  Ok (record { name = name; predefined = predefined })

unfoldable pub attribute_of : Data → Read AttributeFacet
attribute_of d = do
  name ← restriction_wanted (codes "name") d
  value ← restriction_at (codes "value") d
  Ok (record { name = name; value = value })

-- A text, given in UTF-8, with the letters of ASCII in upper case.
abbrev pub upper : List ℕ → List ℕ
upper text = chars (map to_ascii_uppercase text)

abbrev pub upper_at : List ℕ → Data → Option (List ℕ)
upper_at name d = option_map upper (text_at name d)

-- The data type of a property is kept in upper case.
unfoldable pub property_of : Data → Read PropertyFacet
property_of d = do
  set ← restriction_wanted (codes "propertySet") d
  base_name ← restriction_wanted (codes "baseName") d
  value ← restriction_at (codes "value") d
  Ok (record { set = set; base_name = base_name; kind = upper_at (codes "dataType") d; value = value })

unfoldable pub classification_of : Data → Read ClassificationFacet
classification_of d = do
  system ← restriction_at (codes "system") d
  value ← restriction_at (codes "value") d
  Ok (record { system = system; value = value })

unfoldable pub material_of : Data → Read MaterialFacet
material_of d = do
  value ← restriction_at (codes "value") d
  Ok (record { value = value })

-- Any relation where none is named.
unfoldable pub relation_of : Data → Relation
relation_of d = unwrap_or (option_and_then relation_named (text_at (codes "relation") d)) Any

-- The entity at a member, if one stands there.
unfoldable pub entity_at : List ℕ → Data → Read (Option EntityFacet)
entity_at name d = optional (option_map entity_of (get name d))

unfoldable pub part_of_of : Data → Read PartOfFacet
part_of_of d = do
  entity ← entity_at (codes "entity") d
  Ok (record { relation = relation_of d; entity = entity })

-- What a facet of a kind says.
unfoldable pub value_of : FacetKind → Data → Read Facet
value_of kind.Entity d = entity_of d >>= λ f. Ok (facet.Entity f)
value_of kind.Attribute d = attribute_of d >>= λ f. Ok (facet.Attribute f)
value_of kind.Property d = property_of d >>= λ f. Ok (facet.Property f)
value_of kind.Classification d = classification_of d >>= λ f. Ok (facet.Classification f)
value_of kind.Material d = material_of d >>= λ f. Ok (facet.Material f)
value_of kind.PartOf d = part_of_of d >>= λ f. Ok (facet.PartOf f)

-- ---- the entity that it names

-- The simple name of an entity, if it has one.
abbrev pub simple_name : Data → Option (List ℕ)
simple_name d = option_and_then (text_at (codes "simpleValue")) (get (codes "name") d)

-- The simple name of the entity that a facet of a kind asks for: of an entity facet, and of a partOf facet's entity.
unfoldable pub named_entity : FacetKind → Data → Option (List ℕ)
named_entity kind.Entity d = simple_name d
named_entity kind.PartOf d = option_and_then simple_name (get (codes "entity") d)
named_entity kind.Attribute d = None
named_entity kind.Property d = None
named_entity kind.Classification d = None
named_entity kind.Material d = None

-- The schema declares no entity of this name. Its names are in upper case, and the name is compared as written.
abbrev pub is_undeclared : Schema → List ℕ → Bool
is_undeclared s text = is_none (declaration s (chars text))

-- The facet names an entity that the schema doesn't declare.
abbrev pub names_unknown : Schema → FacetKind → Data → Bool
names_unknown s kind d = option_map_or (is_undeclared s) (named_entity kind d) false
