-- What a parameter holds (ISO 10303-21, parameter).
use Rattle.std.specs.Prelude.{ℕ, Bool, true, false, not, List, [], ◌∷◌, Option, Some, None, codes, bytes_eq}
use Rattle.ifc_base.specs.declared.value.Value.{Value}
use Rattle.ifc_base.specs.declared.value.ValueNode.{ValueNode, out-ValueNode}
use Rattle.ifc_base.specs.declared.value.ValueNode.TheVariants as node
use Rattle.ifc_base.specs.declared.value.ValueNode.TheOpen.{ValueNode-F}
use Rattle.ifc_base.specs.Tree.{Level, fold_value}

-- Of a value as it stands, typed parameters not taken off.

abbrev pub enumeration_in : ValueNode → Option (List ℕ)
enumeration_in (node.Enumer name) = Some name
enumeration_in _ = None

-- the name of the enumeration value that stands there, not within a typed parameter
abbrev pub enumeration : Value → Option (List ℕ)
enumeration v = enumeration_in v.node

abbrev pub keyword_in : ValueNode-F ValueNode Value → Option (List ℕ)
keyword_in (ValueNode-F.Typed name inner) = Some name
keyword_in _ = None

-- The data type of a value: the keyword of the typed parameter; a value that is none has no data type.
abbrev pub data_type : Value → Option (List ℕ)
data_type v = keyword_in (out-ValueNode v.node)

abbrev pub members_in : ValueNode-F ValueNode Value → List Value
members_in (ValueNode-F.List items) = items
members_in _ = []

-- the members of a list; of a value that is none, no members
abbrev pub members : Value → List Value
members v = members_in (out-ValueNode v.node)

-- Of a value with its typed parameters taken off.

abbrev pub text_at : Level (Option (List ℕ)) → Option (List ℕ)
text_at (ValueNode-F.Text (c ∷ cs)) = Some (c ∷ cs)
text_at (ValueNode-F.Typed name inner) = inner
text_at _ = None

-- the characters of a string that isn't empty
abbrev pub text_of : Value → Option (List ℕ)
text_of = fold_value text_at

abbrev pub is_set_at : Level Bool → Bool
is_set_at ValueNode-F.Absent = false
is_set_at ValueNode-F.Derived = false
is_set_at (ValueNode-F.Text []) = false
is_set_at (ValueNode-F.List []) = false
is_set_at (ValueNode-F.Enumer name) = not (bytes_eq name (codes "U"))
is_set_at (ValueNode-F.Typed name inner) = inner
is_set_at _ = true

-- A value is set where, typed parameters taken off, it is none of `$`, `*`, the empty string, the empty list and `.U.`.
abbrev pub is_set : Value → Bool
is_set = fold_value is_set_at
