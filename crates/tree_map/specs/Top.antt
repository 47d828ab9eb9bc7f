-- What the topmost of the eight levels means: the pairs below it, and that its nodes are in order.
use Rattle.std.specs.Prelude.{ℕ, ◌+◌, ◌^◌, List}
use Rattle.tree_map.specs.declared.level.Level.{Level}
use Rattle.tree_map.specs.declared.lowest.Lowest.{Lowest}
use Rattle.tree_map.specs.Pairs.{joined, IsAscending, AreBelow, IsNode}

-- the number of a node, and its branches
abbrev pub level_parts : {B : Type 0} → ℕ × Level B → ℕ × List (ℕ × B)
level_parts node = (node.0, node.1.branches.items)

abbrev pub lowest_parts : {V : Type 0} → ℕ × Lowest V → ℕ × List (ℕ × V)
lowest_parts node = (node.0, node.1.level.branches.items)

-- how many bits the keys of a level have, its pairs, and that it is in order
pub record Meaning (B V : Type 0) : Type 1 where
  pub width : ℕ
  pub pairs : B → List (ℕ × V)
  pub IsWhole : B → Type 0

abbrev pub lowest : {V : Type 0} → Meaning (Lowest V) V
lowest = record { width = 5; pairs = λ lowest. lowest.level.branches.items; IsWhole = λ lowest. IsAscending lowest.level.branches.items × AreBelow 32 lowest.level.branches.items }

-- the level above one of this meaning
abbrev pub above : {B V : Type 0} → Meaning B V → Meaning (Level B) V
above below = record { width = below.width + 5; pairs = λ level. joined (2 ^ below.width) below.pairs level.branches.items; IsWhole = λ level. IsNode below.IsWhole below.pairs level.branches.items }

abbrev pub top : {V : Type 0} → Meaning (Level (Level (Level (Level (Level (Level (Level (Lowest V)))))))) V
top = above (above (above (above (above (above (above lowest))))))
