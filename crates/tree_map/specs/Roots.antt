-- The pairs of a map, by its topmost node.
use Rattle.std.specs.Prelude.{ℕ, List, [], Option, Some, None}
use Rattle.std.specs.Arc.{arc_value}
use Rattle.std.specs.declared.sync.Arc.{Arc}
use Rattle.std.specs.Borrow.{Bor}

-- the pairs below the topmost node: none, where there is no node
abbrev pub pairs_in : {B Z V : Type 0} → (B → List (ℕ × V)) → Option (Arc B Z) → List (ℕ × V)
pairs_in pairs None = []
pairs_in pairs (Some root) = pairs (arc_value root)

-- the topmost node is whole, if there is one
abbrev pub IsWholeRoot : {B Z : Type 0} → (B → Type 0) → Option (Arc B Z) → Type 0
IsWholeRoot IsWhole None = Unit {0}
IsWholeRoot IsWhole (Some root) = IsWhole (arc_value root)

-- a pair of a key and a value that is lent, as the pair of the two
abbrev pub seen : {V : Type 0} → ℕ × Bor V → ℕ × V
seen pair = (pair.0, pair.1.now)
