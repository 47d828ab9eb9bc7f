use Rattle.std.proofs.Common.{arith}
use Rattle.dirty_board.proofs.MoreLess.{added_more, new_here, new_more}
use Rattle.dirty_board.proofs.adding.add_rows.Goals as goal

pub add_row-requires-clause-fresh : goal.add_row-requires-clause-fresh
add_row-requires-clause-fresh c = new_here c.args.come.now c.loop-pair.pair-index c.pair-item.result c.loop-pair-test.true c.pair-item.is c.loop-pair.rows.items c.loop-pair.invariant.fresh

pub loop-pair-preserved : goal.loop-pair-preserved
loop-pair-preserved c = record {
  table = c.add_row.ensures.table;
  rows_are = added_more c.args.come.now c.loop-pair.pair-index c.pair-item.result c.loop-pair-test.true c.pair-item.is c.args.rows.now.items c.loop-pair.rows.items c.add_row.new.rows.items c.loop-pair.invariant.rows_are c.add_row.ensures.rows;
  fresh = new_more c.args.come.now c.loop-pair.pair-index c.pair-item.result c.loop-pair-test.true c.pair-item.is c.loop-pair.rows.items c.add_row.new.rows.items c.loop-pair.invariant.table.ascending c.add_row.ensures.rows c.loop-pair.invariant.fresh;
  count = omega (arith, c.add_row.ensures.length, c.loop-pair.invariant.count);
  memory = omega (arith, c.add_row.ensures.capacity, c.loop-pair.invariant.memory);
  first_memory = omega (arith, c.add_row.ensures.first_places, c.loop-pair.invariant.first_memory);
  second_memory = omega (arith, c.add_row.ensures.second_places, c.loop-pair.invariant.second_memory);
}
