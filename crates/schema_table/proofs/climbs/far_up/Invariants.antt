use Rattle.std.proofs.Common.{◌≡◌, ◌^◌}
use Rattle.schema_table.specs.Climbing.{lifts}
use Rattle.schema_table.proofs.climbs.far_up.Given as goal

abbrev pub invariant-loop-round : goal.invariant-loop-round
invariant-loop-round l = l.far.items ≡ lifts l.parents (2 ^ l._round)
