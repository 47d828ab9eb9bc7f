-- what the items from this one on answer, the lists answer
use Rattle.std.proofs.Common.{◌≡◌, ◌≤◌, length, min}
use Rattle.std.specs.Cmp.Lexicographic.{slice_cmp}
use Rattle.ifc_base.proofs.Alongside.{Rest}
use Rattle.ifc_base.specs.ValueOrder.{value_cmp}
use Rattle.ifc_base.proofs.+order.Given as goal

abbrev pub invariant-order::order_of_lists-loop-at : goal.invariant-order::order_of_lists-loop-at
invariant-order::order_of_lists-loop-at l = (l.at-end ≡ min (length l.items) (length l.others)) × (l.at ≤ l.at-end) × Rest (slice_cmp value_cmp) l.items l.others l.at
