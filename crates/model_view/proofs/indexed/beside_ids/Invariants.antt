use Rattle.std.proofs.Common.{◌≡◌, ◌^◌}
use Rattle.tree_map.specs.Pairs.{AreBelow}
use Rattle.model_view.specs.Trees.{beside_ids}
use Rattle.model_view.proofs.indexed.beside_ids.Given as goal

abbrev pub invariant-loop-instance : goal.invariant-loop-instance
invariant-loop-instance l = record {
  value : l.pairs.items ≡ beside_ids l.yielded;
  keys : AreBelow (2 ^ 40) l.pairs.items;
}
