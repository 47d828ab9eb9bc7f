use Rattle.pattern_tree.specs.Programs.{beside, nothing, gathered, no_sides}
use Rattle.pattern_tree.proofs.CodeLemmas.{programs_step}
use Rattle.pattern_tree.proofs.program.+compile.Goals as goal

pub compile_sequence-loop-tree-preserved : goal.compile_sequence-loop-tree-preserved
compile_sequence-loop-tree-preserved t c =
    programs_step beside nothing c.args.trees.now c.loop-tree.tree-index c.tree-item.result c.args.sets.now c.loop-tree.whole c.loop-tree.sets c.in_ok-part.part c.compile.new.sets c.add.new.whole
    c.loop-tree-test.true c.tree-item.is c.loop-tree.invariant c.in_ok-part.ensures c.in_ok-add.ensures

pub compile_choice-loop-tree-preserved : goal.compile_choice-loop-tree-preserved
compile_choice-loop-tree-preserved t c =
    programs_step gathered no_sides c.args.trees.now c.loop-tree.tree-index c.tree-item.result c.args.sets.now c.loop-tree.sides c.loop-tree.sets c.in_ok-side.side c.compile.new.sets c.gather.new.sides
    c.loop-tree-test.true c.tree-item.is c.loop-tree.invariant c.in_ok-side.ensures c.in_ok-gather.ensures
