use Rattle.std.proofs.Common.{◌≡◌, ℕ, ◌<◌, false, take, length, get_or}
use Rattle.std.specs.List.{list_any}
use Rattle.schema_table.specs.Climbing.{is_number}
use Rattle.schema_table.proofs.climbs.reached.Given as goal

abbrev pub invariant-loop-at : goal.invariant-loop-at
invariant-loop-at l = (length l.marks.items ≡ length l.far) × ((y : ℕ) → y < length l.far → get_or l.marks.items y false ≡ list_any (λ o. is_number o y) (take l.at-index l.far))
