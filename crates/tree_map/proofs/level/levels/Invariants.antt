use Rattle.std.proofs.Common.{◌≡◌, map}
use Rattle.tree_map.specs.Top.{level_parts}
use Rattle.tree_map.proofs.level.levels.Given as goal

abbrev pub invariant-loop-group : goal.invariant-loop-group
invariant-loop-group g l = map level_parts l.nodes.items ≡ l.yielded
