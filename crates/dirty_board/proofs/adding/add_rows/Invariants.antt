use Rattle.std.proofs.Common.{◌≡◌, ◌+◌, ◌≤◌, length, take, drop, fold, vec_capacity}
use Rattle.dirty_board.specs.Rows.{IsTable}
use Rattle.dirty_board.specs.Rooms.{pairs_of, with_pair, AreNew}
use Rattle.dirty_board.proofs.adding.add_rows.Given as goal

abbrev pub invariant-loop-pair : goal.invariant-loop-pair
invariant-loop-pair l = record {
  table : IsTable l.rows.items l.unsettled.flags l.claimable.flags;
  rows_are : l.rows.items ≡ fold with_pair l.fn.rows.items (take l.pair-index l.come);
  fresh : AreNew (pairs_of l.rows.items) (drop l.pair-index l.come);
  count : length l.rows.items ≡ length l.fn.rows.items + l.pair-index;
  memory : vec_capacity l.fn.rows ≤ vec_capacity l.rows;
  first_memory : l.fn.unsettled.places ≤ l.unsettled.places;
  second_memory : l.fn.claimable.places ≤ l.claimable.places;
}
