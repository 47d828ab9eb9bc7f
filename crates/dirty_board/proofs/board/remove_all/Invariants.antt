use Rattle.std.proofs.Common.{◌≡◌, take}
use Rattle.dirty_board.specs.Rooms.{without_pairs}
use Rattle.dirty_board.specs.Tallying.{having}
use Rattle.dirty_board.proofs.board.remove_all.Given as goal

abbrev pub invariant-loop-pair : goal.invariant-loop-pair
invariant-loop-pair l = l.ledger ≡ having (without_pairs (take l.pair-index l.gone) l.fn.ledger.rows) l.fn.ledger
