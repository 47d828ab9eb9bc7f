use Rattle.std.proofs.Common.{◌≡◌, ◌++◌, ℕ, List, Option, take}
use Rattle.schema_table.specs.Order.{AreTaken}
use Rattle.schema_table.proofs.order.append_line.Given as goal

abbrev pub invariant-loop-number : goal.invariant-loop-number
invariant-loop-number l = (l.order.items ≡ l.fn.order.items ++ take l.number-index l.line) × ((ps : List (Option ℕ)) → AreTaken ps l.fn.order.items l.fn.taken.items → AreTaken ps l.order.items l.taken.items)
