use Rattle.std.proofs.Common.{◌≡◌, ◌-◌, ◌==◌, length, Some}
use Rattle.std.specs.List.{list_any}
use Rattle.schema_table.specs.Climbing.{chain}
use Rattle.schema_table.proofs.lookup.is_above.Given as goal

abbrev pub invariant-loop-step : goal.invariant-loop-step
invariant-loop-step l = list_any (λ x. x == l.of) (chain l.parents (length l.parents) (Some l.from)) ≡ list_any (λ x. x == l.of) (chain l.parents (length l.parents - l._step) l.at)
