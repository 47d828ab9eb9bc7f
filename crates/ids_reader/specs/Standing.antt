-- Whether a facet may stand where it stands: the causes that come before what it says, in their order.
use Rattle.std.specs.Prelude.{ℕ, ◌&&◌, Bool, true, false, not, List, Option, Some, None, Ok, Err, codes, option_and_then, if◌then◌else◌, ⊤}
use Rattle.std.specs.Str.{bytes_eq}
use Rattle.serde_json.specs.Data.{Data}
use Rattle.audit_model.specs.declared.specification.Cardinality.{Cardinality}
use Rattle.audit_model.specs.declared.specification.Cardinality.TheVariants.{Required, Optional, Prohibited}
use Rattle.audit_model.specs.Specifications.{is_required, is_optional}
use Rattle.ids_reader.specs.declared.fault.IdsCause.TheVariants as cause
use Rattle.ids_reader.specs.declared.standing.Side.{Side}
use Rattle.ids_reader.specs.declared.standing.Side.TheVariants as side
use Rattle.ids_reader.specs.declared.tables.FacetKind.{FacetKind}
use Rattle.ids_reader.specs.declared.tables.FacetKind.TheVariants as kind
use Rattle.ids_reader.specs.declared.tables.Object.{Object}
use Rattle.ids_reader.specs.declared.tables.Object.TheVariants as object
use Rattle.ids_reader.specs.Members.{text_at, is_of}
use Rattle.ids_reader.specs.Conditions.{has_known, fits, is_small}
use Rattle.ids_reader.specs.Reads.{Read, ◌>>=◌, refuse_if}

-- ---- its kind

-- The kind of facet that a word names.
unfoldable pub facet_named : List ℕ → Option FacetKind
facet_named t =
    if bytes_eq t (codes "entity") then Some kind.Entity
    else (if bytes_eq t (codes "attribute") then Some kind.Attribute
    else (if bytes_eq t (codes "property") then Some kind.Property
    else (if bytes_eq t (codes "classification") then Some kind.Classification
    else (if bytes_eq t (codes "material") then Some kind.Material
    else (if bytes_eq t (codes "partOf") then Some kind.PartOf else None)))))

-- The kind of facet that a value says it is.
abbrev pub kind_said : Data → Option FacetKind
kind_said d = option_and_then facet_named (text_at (codes "facet") d)

unfoldable pub is_entity_kind : FacetKind → Bool
is_entity_kind kind.Entity = true
is_entity_kind kind.Attribute = false
is_entity_kind kind.Property = false
is_entity_kind kind.Classification = false
is_entity_kind kind.Material = false
is_entity_kind kind.PartOf = false

abbrev pub word_from : Bool → Option FacetKind → Read FacetKind
word_from closed None = Err cause.Shape
word_from closed (Some kind) = refuse_if (closed && is_entity_kind kind) cause.Shape (Ok kind)

-- Its kind. Where the side is closed for entity facets, none may stand there.
unfoldable pub word_of : Bool → Data → Read FacetKind
word_of closed d = word_from closed (kind_said d)

-- ---- its form

-- The object that a facet of a kind is.
unfoldable pub object_of : FacetKind → Object
object_of kind.Entity = object.EntityFacet
object_of kind.Attribute = object.Attribute
object_of kind.Property = object.Property
object_of kind.Classification = object.Classification
object_of kind.Material = object.Material
object_of kind.PartOf = object.PartOf

-- The form of a value: no members besides those of its table, and then those of its table, each of its kind.
unfoldable pub form_of : Object → Data → Read ⊤
form_of o d = refuse_if (not (has_known o d)) cause.UnknownMember (refuse_if (not (is_of fits o d)) cause.Shape (Ok tt))

-- ---- its cardinality

unfoldable pub cardinality_named : List ℕ → Option Cardinality
cardinality_named t = if bytes_eq t (codes "required") then Some Required
    else (if bytes_eq t (codes "optional") then Some Optional
    else (if bytes_eq t (codes "prohibited") then Some Prohibited else None))

abbrev pub cardinality_from : Option (List ℕ) → Option Cardinality
cardinality_from None = Some Required
cardinality_from (Some t) = cardinality_named t

-- The cardinality that it says: required where it says none.
unfoldable pub cardinality_said : Data → Option Cardinality
cardinality_said d = cardinality_from (text_at (codes "cardinality") d)

-- A requirement of a kind may have the cardinality: an entity facet is required, and a partOf facet isn't optional.
unfoldable pub may_require : FacetKind → Cardinality → Bool
may_require kind.Entity c = is_required c
may_require kind.PartOf c = not (is_optional c)
may_require kind.Attribute c = true
may_require kind.Property c = true
may_require kind.Classification c = true
may_require kind.Material c = true

-- A facet of a kind may have the cardinality on its side: each facet of an applicability is required.
unfoldable pub is_allowed : Side → FacetKind → Cardinality → Bool
is_allowed side.Applicability kind c = is_required c
is_allowed side.Requirements kind c = may_require kind c

abbrev pub allowed_from : Side → FacetKind → Option Cardinality → Read Cardinality
allowed_from side kind None = Err cause.Cardinality
allowed_from side kind (Some c) = refuse_if (not (is_allowed side kind c)) cause.Cardinality (Ok c)

unfoldable pub cardinality_of : Side → FacetKind → Data → Read Cardinality
cardinality_of side kind d = allowed_from side kind (cardinality_said d)

-- ---- together

-- No restriction within it has too many texts.
unfoldable pub size_of : Object → Data → Read ⊤
size_of o d = refuse_if (not (is_small o d)) cause.TooMany (Ok tt)

-- Its kind and its cardinality, or the first cause for which it may not stand there.
unfoldable pub head_of : Side → Bool → Data → Read (FacetKind × Cardinality)
head_of side closed d = do
  kind ← word_of closed d
  form ← form_of (object_of kind) d
  cardinality ← cardinality_of side kind d
  size ← size_of (object_of kind) d
  Ok (kind, cardinality)
