-- The references within a value, in reading order (the entity instance names of ISO 10303-21).
use Rattle.std.specs.Prelude.{ℕ, List, [], ◌∷◌}
use Rattle.std.specs.List.{concat}
use Rattle.ifc_base.specs.declared.value.Value.{Value}
use Rattle.ifc_base.specs.declared.value.ValueNode.TheOpen.{ValueNode-F}
use Rattle.ifc_base.specs.Tree.{Level, fold_value}

-- at one level: the id of a reference; of a list those of its items, one after another; of a typed
-- parameter those of the value within; of any other value none
abbrev pub refs_at : Level (List ℕ) → List ℕ
refs_at (ValueNode-F.Ref id) = id ∷ []
refs_at (ValueNode-F.List inner) = concat inner
refs_at (ValueNode-F.Typed name inner) = inner
refs_at _ = []

-- the ids of all references that stand anywhere within the value, each as often as it stands there
abbrev pub refs_of : Value → List ℕ
refs_of = fold_value refs_at
