use Rattle.std.proofs.Common.{◌≡◌, ◌++◌}
use Rattle.std.specs.Vec.Iter.{into_iter_items}
use Rattle.tree_map.specs.Pairs.{IsAscending}
use Rattle.tree_map.proofs.group.grouped.Given as goal

abbrev pub invariant-loop-key : goal.invariant-loop-key
invariant-loop-key g l = record {
  ascending : IsAscending (l.yielded ++ into_iter_items l.key-iterator);
  same : l.all ≡ l.yielded;
}
