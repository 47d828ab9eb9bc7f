use Rattle.std.proofs.Common.{◌≡◌, ◌∙◌, ◌≤◌, ap, sym, arith, length, not}
use Rattle.dirty_board.specs.declared.rows.Row.{Row}
use Rattle.dirty_board.specs.Needing.{is_among}
use Rattle.dirty_board.specs.Rooms.{pairs_of, without_pairs, AreNew}
use Rattle.dirty_board.specs.Tallying.{BoardView}
use Rattle.dirty_board.proofs.MoreLess.{new_without, some_more, without_fewer}
use Rattle.dirty_board.proofs.Unders.{under_added, under_filter}
use Rattle.dirty_board.proofs.board.Board.replace_pairs.Goals as goal

pub add_all-requires-clause-fresh : goal.add_all-requires-clause-fresh
add_all-requires-clause-fresh c =
    let fresh : AreNew (pairs_of c.self.inside.ledger.rows) c.room.inside.come.items = rw (← c.self.view_is, ← c.room.view_is) at c.requires.fresh in
    rw (c.deref-then-not-is_empty.ensures.value, c.remove_all.ensures.rows, c.deref.ensures.value) (new_without c.room.inside.gone.items c.room.inside.come.items c.self.inside.ledger.rows fresh)

pub add_all-requires-clause-memory : goal.add_all-requires-clause-memory
add_all-requires-clause-memory c =
    let rest : c.remove_all.new.ledger.rows ≡ without_pairs c.room.inside.gone.items c.self.inside.ledger.rows = rw (← c.deref.ensures.value) (ap (λ (b : BoardView). b.rows) c.remove_all.ensures.rows) in
    let few : length c.remove_all.new.ledger.rows ≤ length c.self.inside.ledger.rows = rw rest (without_fewer c.room.inside.gone.items c.self.inside.ledger.rows) in
    let size : length c.self.inside.ledger.rows ≤ c.room.inside.size = rw (← c.self.view_is, ← c.room.view_is) at c.requires.size in
    let some = some_more _ (sym c.is_empty.ensures ∙ c.if-not-is_empty.true) in
    let enough = c.room.invariant (omega (arith, some, c.room.inside.come.ok.0)) in
    rw c.deref-then-not-is_empty.ensures.value (omega (arith, few, size, enough))

pub invariant_of-self : goal.invariant_of-self
invariant_of-self c =
    rw (c.add_all.ensures, c.remove_all.ensures.rows)
    (under_added c.self.inside.index.entries c.deref-then-not-is_empty.result.now (without_pairs c.deref.result.now c.self.inside.ledger.rows)
    (under_filter c.self.inside.index.entries (λ (r : Row). not (is_among c.deref.result.now r.pair)) c.self.inside.ledger.rows c.self.invariant))

pub invariant_of-self-else-not-is_empty : goal.invariant_of-self-else-not-is_empty
invariant_of-self-else-not-is_empty c =
    rw c.remove_all.ensures.rows (under_filter c.self.inside.index.entries (λ (r : Row). not (is_among c.deref.result.now r.pair)) c.self.inside.ledger.rows c.self.invariant)
