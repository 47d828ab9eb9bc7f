use Rattle.std.proofs.Common.{◌≡◌, List, [], ◌++◌, length}
use Rattle.seen_lock.specs.Views.{SeatView}
use Rattle.seen_lock.specs.Taken.{AreTaken, IsSame}
use Rattle.seen_lock.proofs.lock.SeenLock.gather.Given as goal

abbrev pub invariant-loop-seat : goal.invariant-loop-seat
invariant-loop-seat g l =
    (l.first.table_id ≡ l.fn.first.table_id)
    × (l.first.id ≡ l.fn.first.id)
    × IsSame l.fn.first.me.0 l.first.me.0
    × (l.first.me.1 ≡ [])
    × ((rest : List (SeatView g.row.S-Entry.Denot)) × (l.fn.seats.items ≡ l.seats.items ++ rest) × AreTaken l.first.me.0 rest)

abbrev pub decreases-loop-seat : goal.decreases-loop-seat
decreases-loop-seat g l = length l.seats.items
