use Rattle.dirty_board.proofs.Told.{marked_told}
use Rattle.dirty_board.proofs.ledger.Ledger.mark_out.Goals as goal

pub invariant_of-self : goal.invariant_of-self
invariant_of-self c = rw c.mark_out.ensures (marked_told c.args.pair c.args.out c.self.inside.table c.self.inside.tallies c.self.invariant)
