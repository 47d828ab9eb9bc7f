-- so many copies were added
use Rattle.std.proofs.Common.{◌≡◌, ◌++◌}
use Rattle.pattern_tree.specs.Programs.{power}
use Rattle.pattern_tree.proofs.program.push_copies.Given as goal

abbrev pub invariant-loop : goal.invariant-loop
invariant-loop l = l.ops ≡ l.fn.ops ++ power l.counter l.part
