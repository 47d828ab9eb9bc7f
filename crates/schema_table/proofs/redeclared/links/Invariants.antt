use Rattle.std.proofs.Common.{◌≡◌, ℕ, ◌<◌, true, length, take}
use Rattle.schema_table.specs.Climbing.{step}
use Rattle.schema_table.specs.Order.{has_number}
use Rattle.schema_table.specs.Redeclared.{nearest}
use Rattle.schema_table.proofs.redeclared.links.Given as goal

abbrev pub invariant-loop-number : goal.invariant-loop-number
invariant-loop-number l = (length l.links.items ≡ length l.entities) × ((x : ℕ) → x < length l.entities → has_number (take l.number-index l.order) x ≡ true → step l.links.items x ≡ nearest l.entities x)
