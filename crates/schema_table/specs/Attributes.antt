-- The attributes of an instance (ISO 10303-21, mapping of simple entity instances).
use Rattle.std.specs.Prelude.{ℕ, List, [], Option, zip, slice_get}
use Rattle.std.specs.Option.{option_and_then, option_map_or}
use Rattle.ifc_base.specs.declared.value.Instance.{Instance}
use Rattle.ifc_base.specs.declared.value.Value.{Value}
use Rattle.ifc_base.specs.Refs.{refs_of}
use Rattle.schema_table.specs.declared.slot.AttrSlot.{AttrSlot}
use Rattle.schema_table.specs.Schema.{Schema, attributes, place_of}
use Rattle.schema_table.specs.Values.{text_of}

-- each attribute of the entity beside its parameter
abbrev pub parameters : Schema → Instance → List (AttrSlot × Value)
parameters s x = zip (attributes s x.entity) x.params

-- the parameter at the first place whose attribute has this name, if there is one
abbrev pub attribute : Schema → Instance → List ℕ → Option Value
attribute s x attr = option_and_then (slice_get x.params) (place_of s x.entity attr)

-- The text of an attribute: its string, typed parameters taken off, where it is one and isn't empty.
abbrev pub text : Schema → Instance → List ℕ → Option (List ℕ)
text s x attr = option_and_then text_of (attribute s x attr)

-- the references of an attribute, anywhere within its parameter, in reading order
abbrev pub references : Schema → Instance → List ℕ → List ℕ
references s x attr = option_map_or refs_of (attribute s x attr) []
