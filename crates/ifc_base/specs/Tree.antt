-- Values as trees (the parameters of ISO 10303-21): one level of a value, functions of a whole value, and
-- values of the kinds that hold a text, an id or other values.
use Rattle.std.specs.Prelude.{ℕ, List}
use Rattle.ifc_base.specs.declared.value.Value.{Value}
use Rattle.ifc_base.specs.declared.value.ValueNode.TheOpen.{ValueNode-F}
use Rattle.ifc_base.specs.declared.value.ValueNode.TheVariants as node
use Rattle.ifc_base.specs.declared.value.ValueNode.TheFolds.{fold-Value}

-- One level, with an A in the place of each inner value. Its variants are ValueNode-F.Text and so on.
abbrev pub Level : Type 0 → Type 0
Level A = ValueNode-F A A

-- The function of values whose answer comes by this step from the answers at the inner values.
abbrev pub fold_value : {A : Type 0} → (Level A → A) → Value → A
fold_value {A} step v = fold-Value A A step (λ w. w.node) v

-- the string of these characters
abbrev pub text_value : List ℕ → Value
text_value text = record { node = node.Text text }

-- the reference to this id
abbrev pub ref_value : ℕ → Value
ref_value id = record { node = node.Ref id }

-- the list of these values
abbrev pub list_value : List Value → Value
list_value items = record { node = node.List items }

-- the typed parameter of this keyword
abbrev pub typed_value : List ℕ → Value → Value
typed_value name inner = record { node = node.Typed name inner }
