use Rattle.dirty_board.specs.Rooms.{pairs_of, AreNew}
use Rattle.dirty_board.proofs.Told.{added_told}
use Rattle.dirty_board.proofs.ledger.Ledger.add_all.Goals as goal

pub invariant_of-self : goal.invariant_of-self
invariant_of-self c =
    let fresh : AreNew (pairs_of c.self.inside.table) c.args.come.now = rw (← c.self.view_is) at c.requires.fresh in
    rw c.add_all.ensures.rows (added_told c.args.come.now c.self.inside.table c.self.inside.tallies c.add_all.ensures.ascending fresh c.self.invariant)
