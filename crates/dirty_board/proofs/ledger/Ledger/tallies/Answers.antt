use Rattle.std.proofs.Common.{◌∙◌}
use Rattle.dirty_board.proofs.ledger.Ledger.tallies.Goals as goal

pub returns : goal.returns
returns c = rw (← c.self.view_is) (c.as_slice.ensures ∙ c.self.invariant)
