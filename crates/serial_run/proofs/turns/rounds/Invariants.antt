use Rattle.std.proofs.Common.{◌-◌}
use Rattle.serial_run.proofs.Turning.{AreTurning}
use Rattle.serial_run.proofs.turns.rounds.Given as goal

abbrev pub invariant-loop : goal.invariant-loop
invariant-loop g l = AreTurning l.fn.core l.core l.fn.who l.fn.most (l.fn.most - l.counter)
