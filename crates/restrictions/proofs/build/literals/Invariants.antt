use Rattle.std.proofs.Common.{◌≡◌}
use Rattle.restrictions.proofs.build.literals.Given as goal

abbrev pub invariant-loop-text : goal.invariant-loop-text
invariant-loop-text l = l.literals.items ≡ l.yielded
