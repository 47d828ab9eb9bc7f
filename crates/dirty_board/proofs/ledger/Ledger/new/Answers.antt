use Rattle.std.proofs.Common.{refl}
use Rattle.dirty_board.proofs.Tallied.{headings_empty}
use Rattle.dirty_board.proofs.Told.{empty_told}
use Rattle.dirty_board.proofs.ledger.Ledger.new.Goals as goal

pub returns : goal.returns
returns c = rw (c.in_ok-table.ensures, c.in_ok-tallies.ensures, headings_empty c.args.specs.now) refl

pub invariant_of-result : goal.invariant_of-result
invariant_of-result c = rw (c.in_ok-table.ensures, c.in_ok-tallies.ensures) (empty_told c.args.specs.now c.args.pairs.now)
