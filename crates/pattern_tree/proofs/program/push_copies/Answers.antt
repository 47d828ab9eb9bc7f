use Rattle.pattern_tree.proofs.CodeLemmas.{copies_step}
use Rattle.pattern_tree.proofs.program.push_copies.Goals as goal

pub loop-preserved : goal.loop-preserved
loop-preserved c = copies_step c.loop.counter c.args.part.now c.args.ops.now c.loop.ops c.extend.new.ops c.loop.invariant c.in_ok-extend.ensures
