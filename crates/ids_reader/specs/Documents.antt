-- What a document of specifications says, or its first fault with its place; and what bytes say as one.
use Rattle.std.specs.Prelude.{◌≡◌, ℕ, List, length, Option, Some, None, Ok, Err, codes, nat_lt, if◌then◌else◌, not}
use Rattle.std.specs.Str.{is_utf8}
use Rattle.serde_json.specs.Data.{Data}
use Rattle.serde_json.specs.Read.{read}
use Rattle.schema_table.specs.Schema.{Schema}
use Rattle.audit_model.specs.declared.specification.Specification.{Specification}
use Rattle.ids_reader.specs.declared.fault.IdsCause.TheVariants as cause
use Rattle.ids_reader.specs.declared.tables.Object.TheVariants as object
use Rattle.ids_reader.specs.Conditions.{fits}
use Rattle.ids_reader.specs.Members.{has_only, is_of, items_at}
use Rattle.ids_reader.specs.Reads.{Read, refuse_if, Placed, placed, ◌>>>◌}
use Rattle.ids_reader.specs.Specifications.{specifications_from}

abbrev pub most_specifications : ℕ
most_specifications = 1000

-- The list of a document's specifications; or the first cause for the document, in the order Shape, UnknownMember, TooMany.
unfoldable pub document_form : Data → Read (List Data)
document_form d = refuse_if (not (is_of fits object.Document d)) cause.Shape
    (refuse_if (not (has_only object.Document d)) cause.UnknownMember
    (refuse_if (nat_lt most_specifications (length (items_at (codes "specifications") d))) cause.TooMany
    (Ok (items_at (codes "specifications") d))))

-- What a document says under a schema: the document first, at specification 0 and place 0, and then each specification from number 1.
unfoldable pub document_of : Schema → List ℕ → Data → Placed (List Specification)
document_of s schema_id d = placed 0 0 (document_form d) >>> specifications_from s schema_id 1

abbrev pub value_from : Option Data → Placed Data
value_from None = Err (record { spec = 0; place = 0; why = cause.Json })
value_from (Some d) = Ok d

-- The value that `serde_json` reads of the bytes, if they are text in UTF-8. Of an object it keeps the last member of each name, and it
-- reads no more than 127 arrays and objects within one another.
unfoldable pub value_reading : List ℕ → Placed Data
value_reading bytes = value_from (if is_utf8 bytes then read bytes else None)

-- What the bytes say, or the first fault.
unfoldable pub ids_reading : Schema → List ℕ → List ℕ → Placed (List Specification)
ids_reading s schema_id bytes = value_reading bytes >>> document_of s schema_id

-- The bytes are read as a value, and these are the specifications that it says. There is one list at most of which this holds.
abbrev pub Says : Schema → List ℕ → List ℕ → List Specification → Type 0
Says s schema_id bytes specs = (d : Data) × (value_reading bytes ≡ Ok d) × (document_of s schema_id d ≡ Ok specs)
