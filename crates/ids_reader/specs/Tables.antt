-- Which members each object of the mapping has, as data. The mapping is this project's own; most names are those of the IDS 1.0 schema
-- and of XML Schema.
use Rattle.std.specs.Prelude.{ℕ, Bool, true, false, List, [], ◌∷◌, map, codes}
use Rattle.ids_reader.specs.declared.tables.Member.{Member}
use Rattle.ids_reader.specs.declared.tables.Kind.{Kind}
use Rattle.ids_reader.specs.declared.tables.Kind.TheVariants as kind
use Rattle.ids_reader.specs.declared.tables.Object.{Object}
use Rattle.ids_reader.specs.declared.tables.Object.TheVariants as object

-- A member: its name, the kind of what stands there, and whether it may not be missing.
pub record Row : Type 0 where
  pub name : List ℕ
  pub kind : Kind
  pub required : Bool

-- The object needs this member, or may have it.
abbrev pub needs : List ℕ → Kind → Row
needs name k = record { name = name; kind = k; required = true }

abbrev pub may : List ℕ → Kind → Row
may name k = record { name = name; kind = k; required = false }

-- A row as the code writes it.
abbrev pub row : Member → Row
row m = record { name = m.name.now; kind = m.kind; required = m.required }

abbrev pub rows : List Member → List Row
rows ms = map row ms

-- The members that each object needs, and behind them those that it may have besides.
unfoldable pub table : Object → List Row
table object.Document =
    needs (codes "specifications") kind.List
    ∷ may (codes "info") kind.Any
    ∷ []
table object.Specification =
    needs (codes "name") kind.Text
    ∷ needs (codes "ifcVersion") kind.Texts
    ∷ needs (codes "applicability") kind.Applicability
    ∷ needs (codes "requirements") kind.List
    ∷ may (codes "identifier") kind.Text
    ∷ may (codes "description") kind.Text
    ∷ may (codes "instructions") kind.Text
    ∷ []
table object.Applicability =
    needs (codes "minOccurs") kind.Text
    ∷ needs (codes "maxOccurs") kind.Text
    ∷ needs (codes "facets") kind.List
    ∷ []
table object.EntityFacet =
    needs (codes "facet") kind.Text
    ∷ needs (codes "name") kind.Condition
    ∷ may (codes "predefinedType") kind.Condition
    ∷ may (codes "instructions") kind.Text
    ∷ []
table object.Attribute =
    needs (codes "facet") kind.Text
    ∷ needs (codes "name") kind.Condition
    ∷ may (codes "value") kind.Condition
    ∷ may (codes "cardinality") kind.Text
    ∷ may (codes "instructions") kind.Text
    ∷ []
table object.Property =
    needs (codes "facet") kind.Text
    ∷ needs (codes "propertySet") kind.Condition
    ∷ needs (codes "baseName") kind.Condition
    ∷ may (codes "dataType") kind.Text
    ∷ may (codes "value") kind.Condition
    ∷ may (codes "cardinality") kind.Text
    ∷ may (codes "uri") kind.Text
    ∷ may (codes "instructions") kind.Text
    ∷ []
table object.Classification =
    needs (codes "facet") kind.Text
    ∷ may (codes "system") kind.Condition
    ∷ may (codes "value") kind.Condition
    ∷ may (codes "cardinality") kind.Text
    ∷ may (codes "uri") kind.Text
    ∷ may (codes "instructions") kind.Text
    ∷ []
table object.Material =
    needs (codes "facet") kind.Text
    ∷ may (codes "value") kind.Condition
    ∷ may (codes "cardinality") kind.Text
    ∷ may (codes "uri") kind.Text
    ∷ may (codes "instructions") kind.Text
    ∷ []
table object.PartOf =
    needs (codes "facet") kind.Text
    ∷ may (codes "relation") kind.Relation
    ∷ may (codes "entity") kind.Entity
    ∷ may (codes "cardinality") kind.Text
    ∷ may (codes "instructions") kind.Text
    ∷ []
table object.Entity =
    needs (codes "name") kind.Condition
    ∷ may (codes "predefinedType") kind.Condition
    ∷ []
table object.Condition =
    may (codes "simpleValue") kind.Text
    ∷ may (codes "restriction") kind.Restriction
    ∷ []
table object.Restriction =
    needs (codes "base") kind.Text
    ∷ may (codes "enumeration") kind.Texts
    ∷ may (codes "pattern") kind.Texts
    ∷ may (codes "minInclusive") kind.Text
    ∷ may (codes "maxInclusive") kind.Text
    ∷ may (codes "minExclusive") kind.Text
    ∷ may (codes "maxExclusive") kind.Text
    ∷ may (codes "length") kind.Text
    ∷ may (codes "minLength") kind.Text
    ∷ may (codes "maxLength") kind.Text
    ∷ []
