use Rattle.std.proofs.Common.{sym, ap}
use Rattle.dirty_board.specs.Rows.{keeping, with_row}
use Rattle.dirty_board.proofs.Told.{board_of, kept_told, not_counted, rising_told, same_board, Follow}
use Rattle.dirty_board.proofs.ledger.Ledger.keep.Goals as goal

pub returns-in_default-clause-rows : goal.returns-in_default-clause-rows
returns-in_default-clause-rows c = rw (← c.self.view_is) (ap (board_of c.self.inside.tallies) (not_counted c.args.pair (keeping c.args.kept) c.self.inside.table (sym c.in_default.ensures.value)))

pub take_in-requires : goal.take_in-requires
take_in-requires c = rising_told c.self.inside.tallies c.self.inside.table c.counts.ensures.ascending c.self.invariant

pub invariant_of-self-in-Ok : goal.invariant_of-self-in-Ok
invariant_of-self-in-Ok c =
    let follow : Follow c.self.inside.tallies (with_row c.args.pair (keeping c.args.kept) c.self.inside.table) c.take_in.new.self = kept_told c.args.pair c.args.kept c.in-Some.was c.self.inside.table c.self.inside.tallies c.take_in.new.self c.counts.ensures.ascending (sym c.in-Some.ensures.value) c.self.invariant (rw (← c.get.ensures) c.in-Ok.ensures.done) in
    rw c.keep.ensures follow.1

pub returns-in-Ok-clause-rows : goal.returns-in-Ok-clause-rows
returns-in-Ok-clause-rows c =
    let follow : Follow c.self.inside.tallies (with_row c.args.pair (keeping c.args.kept) c.self.inside.table) c.take_in.new.self = kept_told c.args.pair c.args.kept c.in-Some.was c.self.inside.table c.self.inside.tallies c.take_in.new.self c.counts.ensures.ascending (sym c.in-Some.ensures.value) c.self.invariant (rw (← c.get.ensures) c.in-Ok.ensures.done) in
    rw (← c.self.view_is, c.keep.ensures) (same_board c.self.inside.tallies c.take_in.new.self (with_row c.args.pair (keeping c.args.kept) c.self.inside.table) follow.0)
