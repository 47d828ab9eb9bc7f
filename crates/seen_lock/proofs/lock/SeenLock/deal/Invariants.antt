use Rattle.std.proofs.Common.{◌≡◌, ◌≤◌, ◌+◌, [], vec_len, vec_capacity}
use Rattle.seen_lock.specs.Steps.{dealer}
use Rattle.seen_lock.specs.Lists.{new_seats}
use Rattle.seen_lock.proofs.lock.SeenLock.deal.Given as goal

abbrev pub invariant-loop-number : goal.invariant-loop-number
invariant-loop-number g l =
    let origin = l.fn.self.table.shared.key.state.value in
    (l.first.table_id ≡ l.fn.self.table.shared.table_id)
    × (l.first.me ≡ (dealer (g.S.Journaled.entries origin) l.seats l.number, []))
    × (vec_len l.made + 1 ≡ l.number)
    × (l.seats ≤ vec_capacity l.made)
    × (l.number ≤ l.seats)
    × (l.made.items ≡ new_seats l.fn.self.table.shared.table_id (g.S.Journaled.entries origin) 1 (vec_len l.made))
