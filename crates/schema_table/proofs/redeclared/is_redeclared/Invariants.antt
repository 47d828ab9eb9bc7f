use Rattle.std.proofs.Common.{◌≡◌, ℕ, ◌<◌, false, length, Some}
use Rattle.std.specs.Option.{option_map_or}
use Rattle.schema_table.specs.Climbing.{chain}
use Rattle.schema_table.proofs.Redeclaring.{has_redeclared}
use Rattle.schema_table.proofs.redeclared.is_redeclared.Given as goal

abbrev pub invariant-loop-at : goal.invariant-loop-at
invariant-loop-at l = (has_redeclared l.entities l.attr (Some l.number) ≡ option_map_or (λ y. has_redeclared l.entities l.attr (Some y)) l.at false) × ((y : ℕ) → l.at ≡ Some y → y < length l.entities)

abbrev pub decreases-loop-at : goal.decreases-loop-at
decreases-loop-at l = option_map_or (λ y. length (chain l.parents (length l.entities) (Some y))) l.at 0
