use Rattle.std.proofs.Common.{◌∙◌, sym, arith, length-set}
use Rattle.pattern_tree.proofs.RunLemmas.{run_turn, run_end}
use Rattle.pattern_tree.proofs.machine.pass.Goals as goal

pub loop-at-preserved : goal.loop-at-preserved
loop-at-preserved c = record {
  size = simp length-set c.loop-at.invariant.size;
  whole = c.loop-at.invariant.whole
      ∙ run_turn c.args.hits.now c.args.ops.now c.loop-at.marks c.loop-at.at c.loop-at.wire _ _ c.hit_of.result c.in_ok-done.done _
      (omega (arith, c.requires)) (c.requires ∙ sym c.loop-at.invariant.size) c.hit_of.ensures c.in_ok-done.ensures;
}

pub returns : goal.returns
returns c =
    c.loop-at.invariant.whole
    ∙ run_end c.args.hits.now c.args.ops.now c.loop-at.marks c.loop-at.at c.loop-at.wire _ (omega (arith, c.requires)) (c.requires ∙ sym c.loop-at.invariant.size)
