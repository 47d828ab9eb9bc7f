use Rattle.std.proofs.Common.{◌≡◌, map}
use Rattle.tree_map.specs.Top.{lowest_parts}
use Rattle.tree_map.proofs.lowest.lowest_levels.Given as goal

abbrev pub invariant-loop-group : goal.invariant-loop-group
invariant-loop-group g l = map lowest_parts l.nodes.items ≡ l.yielded
