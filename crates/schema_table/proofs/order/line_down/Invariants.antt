use Rattle.std.proofs.Common.{◌≡◌, Some}
use Rattle.schema_table.specs.Climbing.{lift, chain}
use Rattle.schema_table.proofs.order.line_down.Given as goal

abbrev pub invariant-loop-step : goal.invariant-loop-step
invariant-loop-step l = (l.line.items ≡ chain l.parents l._step (Some l.from)) × (l.at ≡ lift l.parents l._step (Some l.from))
