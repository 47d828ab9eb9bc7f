use Rattle.std.proofs.Common.{◌≡◌, ℕ, ◌<◌, true}
use Rattle.schema_table.specs.Order.{AreTaken, IsParentsFirst, has_number}
use Rattle.schema_table.proofs.order.parents_first.Given as goal

abbrev pub invariant-loop-number : goal.invariant-loop-number
invariant-loop-number l = IsParentsFirst l.parents l.order.items × AreTaken l.parents l.order.items l.taken.items × ((y : ℕ) → y < l.number → has_number l.order.items y ≡ true)
