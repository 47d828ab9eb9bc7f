use Rattle.dirty_board.proofs.Blocks.{moved_remove}
use Rattle.dirty_board.proofs.flags.Flags.remove.Goals as goal

pub renew-requires-clause-moved : goal.renew-requires-clause-moved
renew-requires-clause-moved c = rw (c.deref.ensures.value, c.remove.ensures.items) (moved_remove c.self.inside.flags.items c.self.inside.blocks.items c.args.place c.self.invariant (rw (← c.self.view_is) at c.requires))
