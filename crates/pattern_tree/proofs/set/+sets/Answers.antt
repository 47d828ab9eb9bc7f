use Rattle.pattern_tree.specs.Trees.{values}
use Rattle.pattern_tree.proofs.CodeLemmas.{sets_step}
use Rattle.pattern_tree.proofs.set.+sets.Goals as goal

pub push_all_sets-loop-tree-preserved : goal.push_all_sets-loop-tree-preserved
push_all_sets-loop-tree-preserved t c =
    sets_step c.args.trees.now c.loop-tree.tree-index c.tree-item.result (values c.args.sets.now.items) (values c.loop-tree.sets.items) (values c.push_sets.new.sets.items)
    c.loop-tree-test.true c.tree-item.is c.loop-tree.invariant c.in_ok-push_sets.ensures
