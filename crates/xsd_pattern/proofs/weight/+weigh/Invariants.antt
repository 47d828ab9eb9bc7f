use Rattle.std.proofs.Common.{◌≡◌, min, map, sum, take}
use Rattle.pattern_tree.specs.Trees.{weight}
use Rattle.xsd_pattern.proofs.weight.+weigh.Given as goal

abbrev pub invariant-weights-loop-tree : goal.invariant-weights-loop-tree
invariant-weights-loop-tree l = l.all ≡ min (sum (map weight (take l.tree-index l.trees))) 100001
