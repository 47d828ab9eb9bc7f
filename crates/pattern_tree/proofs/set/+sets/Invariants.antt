-- the sets of the patterns before this one are there
use Rattle.std.proofs.Common.{◌≡◌, ◌++◌, map, take}
use Rattle.pattern_tree.specs.Trees.{values, sets_of, one_after_another}
use Rattle.pattern_tree.proofs.set.+sets.Given as goal

abbrev pub invariant-push_all_sets-loop-tree : goal.invariant-push_all_sets-loop-tree
invariant-push_all_sets-loop-tree l =
    values l.sets.items ≡ values l.initial.sets.items ++ one_after_another (map sets_of (take l.tree-index l.trees))
