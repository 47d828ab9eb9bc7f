-- What a specification says, or its first fault (IDS 1.0, specification).
use Rattle.std.specs.Prelude.{ℕ, ◌+◌, ◌||◌, Bool, false, List, [], ◌∷◌, length, Option, Some, None, Ok, Err, codes, encode_utf8_all, nat_lt, if◌then◌else◌}
use Rattle.std.specs.List.{list_any}
use Rattle.std.specs.Option.{option_map_or}
use Rattle.std.specs.Str.{bytes_eq}
use Rattle.serde_json.specs.Data.{Data}
use Rattle.serde_json.specs.Find.{get, as_str}
use Rattle.schema_table.specs.Schema.{Schema}
use Rattle.audit_model.specs.declared.specification.Occurs.{Occurs}
use Rattle.audit_model.specs.declared.specification.Occurs.TheVariants.{Optional, Required, Prohibited}
use Rattle.audit_model.specs.declared.specification.Specification.{Specification}
use Rattle.ids_reader.specs.declared.fault.IdsCause.TheVariants as cause
use Rattle.ids_reader.specs.declared.standing.Setting.{Setting}
use Rattle.ids_reader.specs.declared.standing.Side.TheVariants as side
use Rattle.ids_reader.specs.declared.tables.Object.TheVariants as object
use Rattle.ids_reader.specs.Members.{text_at, items_at}
use Rattle.ids_reader.specs.Reads.{Read, refuse_if, Placed, placed, ◌>>>◌}
use Rattle.ids_reader.specs.Sides.{facets_from, alone}
use Rattle.ids_reader.specs.Standing.{form_of}

-- ---- for the model

-- The value is a text, the id of the schema.
abbrev pub says_schema : List ℕ → Data → Bool
says_schema schema_id d = option_map_or (λ t. bytes_eq t (encode_utf8_all schema_id)) (as_str d) false

-- The specification is for the model: its `ifcVersion` has the id of the schema.
unfoldable pub is_for : List ℕ → Data → Bool
is_for schema_id d = list_any (says_schema schema_id) (items_at (codes "ifcVersion") d)

-- ---- how often elements may be there

-- The member is this text.
abbrev pub says : List ℕ → List ℕ → Data → Bool
says name text d = option_map_or (λ t. bytes_eq t text) (text_at name d) false

-- Of `minOccurs` and `maxOccurs` of an applicability there are three pairs: 0 and unbounded, 1 and unbounded, 0 and 0.
unfoldable pub occurs_of : Data → Option Occurs
occurs_of a = if says (codes "maxOccurs") (codes "unbounded") a
    then (if says (codes "minOccurs") (codes "0") a then Some Optional else (if says (codes "minOccurs") (codes "1") a then Some Required else None))
    else (if says (codes "maxOccurs") (codes "0") a then (if says (codes "minOccurs") (codes "0") a then Some Prohibited else None) else None)

abbrev pub occurs_from : Option Occurs → Read Occurs
occurs_from None = Err cause.Occurs
occurs_from (Some o) = Ok o

-- ---- not too many facets

abbrev pub most_facets : ℕ
most_facets = 64

-- There are too many facets of one side: of the applicability `a` or of the requirements of `d`.
abbrev pub has_many_facets : Data → Data → Bool
has_many_facets a d = nat_lt most_facets (length (items_at (codes "facets") a)) || nat_lt most_facets (length (items_at (codes "requirements") d))

-- ---- together

-- The causes for the specification itself, in their order, where its applicability is `a`: TooMany behind UnknownMember and Shape, and
-- Occurs last. Else how often elements may be there.
unfoldable pub limited : Data → Data → Read Occurs
limited a d = refuse_if (has_many_facets a d) cause.TooMany (occurs_from (occurs_of a))

-- What facets of one side have to know of their specification.
abbrev pub in_applicability : ℕ → Bool → Setting
in_applicability number for_model = record { spec = number; side = side.Applicability; for_model = for_model }

abbrev pub in_requirements : ℕ → Bool → Setting
in_requirements number for_model = record { spec = number; side = side.Requirements; for_model = for_model }

-- What a specification of the form says, where its applicability is `a`. The facets of the applicability stand from place 1, and those of
-- the requirements behind them.
unfoldable pub stated_by : Schema → ℕ → Bool → Data → Data → Placed Specification
stated_by s number for_model a d =
    placed number 0 (limited a d)
    >>> λ occurs. (facets_from s (in_applicability number for_model) 1 false (items_at (codes "facets") a)
    >>> λ applicable. (facets_from s (in_requirements number for_model) (1 + length (items_at (codes "facets") a)) false (items_at (codes "requirements") d)
    >>> λ required. Ok (record { number = number; for_model = for_model; occurs = occurs; applicability = alone applicable; requirements = required })))

abbrev pub stated_from : Schema → ℕ → Bool → Option Data → Data → Placed Specification
stated_from s number for_model None d = Err (record { spec = number; place = 0; why = cause.Shape })
stated_from s number for_model (Some a) d = stated_by s number for_model a d

-- What the specification of a number says: it has its form, and then what it says of its facets.
unfoldable pub specification_of : Schema → List ℕ → ℕ → Data → Placed Specification
specification_of s schema_id number d =
    placed number 0 (form_of object.Specification d) >>> λ form. stated_from s number (is_for schema_id d) (get (codes "applicability") d) d

-- The specifications of a list, numbered from a number on; or the fault of the first that has one.
unfoldable pub specifications_from : Schema → List ℕ → ℕ → List Data → Placed (List Specification)
specifications_from s schema_id number [] = Ok []
specifications_from s schema_id number (d ∷ ds) =
    specification_of s schema_id number d
    >>> λ q. (specifications_from s schema_id (number + 1) ds
    >>> λ qs. Ok (q ∷ qs))
