use Rattle.std.proofs.Common.{◌∙◌, arith}
use Rattle.dirty_board.proofs.Blocks.{told_more, told_all}
use Rattle.dirty_board.proofs.flags.renew.Goals as goal

pub loop-block-preserved : goal.loop-block-preserved
loop-block-preserved c = record {
  done = told_more c.args.flags.now c.args.blocks.now.items c.loop-block.blocks.items c.renew_block.new.blocks.items c.loop-block.block c.requires.moved.edges c.loop-block.invariant.done c.loop-block.invariant.rest c.renew_block.ensures.others c.renew_block.ensures.shown;
  rest = λ b l. c.renew_block.ensures.later b (omega (arith, l)) ∙ c.loop-block.invariant.rest b (omega (arith, l));
  same = c.renew_block.ensures.length ∙ c.loop-block.invariant.same;
  room = c.renew_block.ensures.capacity ∙ c.loop-block.invariant.room;
}

pub returns-else-block-flags-clause-blocks : goal.returns-else-block-flags-clause-blocks
returns-else-block-flags-clause-blocks c = record {
  long = omega (arith, c.requires.long, c.loop-block.invariant.same);
  shown = told_all c.args.flags.now c.loop-block.blocks.items c.loop-block.block c.loop-block.invariant.done (omega (arith, c.if-block-flags.false));
}

pub returns-after-loop-block-clause-blocks : goal.returns-after-loop-block-clause-blocks
returns-after-loop-block-clause-blocks c = record {
  long = omega (arith, c.requires.long, c.loop-block.invariant.same);
  shown = told_all c.args.flags.now c.loop-block.blocks.items c.loop-block.block c.loop-block.invariant.done (omega (arith, c.requires.long, c.loop-block.invariant.same, c.loop-block-test.false, c.len.ensures, c.loop-block.blocks.ok.0));
}
