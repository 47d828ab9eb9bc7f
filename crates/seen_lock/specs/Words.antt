-- What a contract names of a lock and of a turn.
use Rattle.std.specs.Prelude.{ℕ, true}
use Rattle.seen_lock.specs.declared.held.Held.{Held}
use Rattle.seen_lock.specs.declared.lock.SeenLock.{SeenLock}
use Rattle.seen_lock.specs.Views.{LockId, SeatView}

module _ {S E : Type 0} where
  -- which lock it is
  abbrev pub id_of : SeenLock S E → LockId
  id_of l = l.table.shared.table_id

  -- the state at the start
  abbrev pub origin_of : SeenLock S E → S
  origin_of l = l.table.shared.key.state.value

  -- how many seats it has
  abbrev pub seats_of : SeenLock S E → ℕ
  seats_of l = l.table.shared.key.seats

  -- the state that is out
  abbrev pub state_of : Held S E → S
  state_of h = h.state

  -- the same turn with another state
  abbrev pub with_state : Held S E → S → Held S E
  with_state h w = record h { state = w }

  -- the seat that has the turn, as it was when the turn began
  abbrev pub turn_of : Held S E → SeatView E
  turn_of h = record {
    lock = h.turn.place.table_id;
    number = h.turn.place.me.0.number;
    held = true;
    seen = h.turn.place.me.0.seen;
    own = h.turn.place.me.0.own;
  }
