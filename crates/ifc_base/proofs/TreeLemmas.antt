-- The equations of a function on values, by the kind of the value. Crates above import them.
use Rattle.std.proofs.Common.{◌≡◌, ℕ, List, map, rules}
use Rattle.ifc_base.specs.declared.value.Value.{Value}
use Rattle.ifc_base.specs.declared.value.ValueNode.{the_lemmas}
use Rattle.ifc_base.specs.declared.value.ValueNode.TheOpen.{ValueNode-F}
use Rattle.ifc_base.specs.Tree.{Level, fold_value, text_value, list_value, typed_value}

-- at a string
pub fold_text : {A : Type 0} (step : Level A → A) (text : List ℕ) → fold_value step (text_value text) ≡ step (ValueNode-F.Text text)
fold_text step text = search (rules, the_lemmas)

-- at a list: the step at the answers of the items
pub fold_list : {A : Type 0} (step : Level A → A) (items : List Value) → fold_value step (list_value items) ≡ step (ValueNode-F.List (map (fold_value step) items))
fold_list step items = search (rules, the_lemmas)

-- at a typed parameter: the step at the answer of the value within
pub fold_typed : {A : Type 0} (step : Level A → A) (name : List ℕ) (inner : Value) → fold_value step (typed_value name inner) ≡ step (ValueNode-F.Typed name (fold_value step inner))
fold_typed step name inner = search (rules, the_lemmas)
