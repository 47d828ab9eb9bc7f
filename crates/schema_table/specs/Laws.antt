-- Laws of schemas.
use Rattle.std.specs.Prelude.{◌≡◌, ℕ, true, List, [], ◌∷◌, ◌++◌, map, length, Some, None}
use Rattle.ifc_base.specs.declared.decl.EntityDecl.{EntityDecl}
use Rattle.ifc_base.specs.declared.decl.TypeDecl.{TypeDecl}
use Rattle.ifc_base.specs.declared.value.Instance.{Instance}
use Rattle.ifc_base.specs.Histories.{StartsWith}
use Rattle.schema_table.specs.Schema.{Schema, declaration, ancestry, is_kind_of, attributes, place_of}
use Rattle.schema_table.specs.Declarations.{schema_fault}
use Rattle.schema_table.specs.Faults.{instance_fault}

-- An entity is a kind of itself.
abbrev pub KindOfItself : Type 0
KindOfItself = (s : Schema) (name : List ℕ) → is_kind_of s name name ≡ true

-- What follows is said of schemas without a fault.

-- A kind of a kind of an entity is a kind of it.
abbrev pub KindOfKind : Type 0
KindOfKind = (s : Schema) (types : List TypeDecl) (a b c : List ℕ) → schema_fault s types ≡ None
    → is_kind_of s a b ≡ true → is_kind_of s b c ≡ true → is_kind_of s a c ≡ true

-- An entity is a kind of the supertype that its declaration names.
abbrev pub KindOfSupertype : Type 0
KindOfSupertype = (s : Schema) (types : List TypeDecl) (name parent : List ℕ) (d : EntityDecl) → schema_fault s types ≡ None
    → declaration s name ≡ Some d → d.parent ≡ Some parent → is_kind_of s name parent ≡ true

-- the last of the entities has no supertype
abbrev pub EndsAtTop : List EntityDecl → Type 0
EndsAtTop ds = (below : List EntityDecl) × (top : EntityDecl) × (ds ≡ below ++ top ∷ []) × (top.parent ≡ None)

-- The way from an entity to its supertypes ends at one that has none.
abbrev pub AncestryEnds : Type 0
AncestryEnds = (s : Schema) (types : List TypeDecl) (name : List ℕ) (d : EntityDecl) → schema_fault s types ≡ None
    → declaration s name ≡ Some d → EndsAtTop (ancestry s name)

-- the names of an entity's attributes
abbrev pub attribute_names : Schema → List ℕ → List (List ℕ)
attribute_names s name = map (λ a. a.name) (attributes s name)

-- An entity's attributes are its supertype's and then its own.
abbrev pub OwnAttributesLast : Type 0
OwnAttributesLast = (s : Schema) (types : List TypeDecl) (name parent : List ℕ) (d : EntityDecl) → schema_fault s types ≡ None
    → declaration s name ≡ Some d → d.parent ≡ Some parent → attribute_names s name ≡ attribute_names s parent ++ d.own

-- A subtype's attributes begin with its supertype's.
abbrev pub InheritedFirst : Type 0
InheritedFirst = (s : Schema) (types : List TypeDecl) (a b : List ℕ) → schema_fault s types ≡ None
    → is_kind_of s a b ≡ true → StartsWith (attribute_names s a) (attribute_names s b)

-- So an attribute that the supertype has stands at the same place in the subtype.
abbrev pub PlacesAreInherited : Type 0
PlacesAreInherited = (s : Schema) (types : List TypeDecl) (a b attr : List ℕ) (k : ℕ) → schema_fault s types ≡ None
    → is_kind_of s a b ≡ true → place_of s b attr ≡ Some k → place_of s a attr ≡ Some k

-- And of every schema again: an instance that fits has as many parameters as its entity has attributes.
abbrev pub FittingHasItsParameters : Type 0
FittingHasItsParameters = (s : Schema) (x : Instance) → instance_fault s x ≡ None → length x.params ≡ length (attributes s x.entity)
