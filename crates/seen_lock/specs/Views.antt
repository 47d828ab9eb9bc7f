-- What contracts see of a seat.
use Rattle.std.specs.Prelude.{ℕ, Bool, true, false, List, [], ◌∷◌}
use Rattle.atomic_table.specs.Seated.{TableId}
use Rattle.seen_lock.specs.declared.known.Known.{Known}

-- which lock it is: no two locks have the same
abbrev pub LockId : Type 0
LockId = TableId

-- A seat, or the turn of a seat. While a seat is held, its turn says what it has seen and made.
pub record SeatView (E : Type 0) : Type 0 where
  -- the lock that it is of
  pub lock : LockId
  -- its number, by which no other seat of the lock goes
  pub number : ℕ
  -- from its `enter` to its `leave`
  pub held : Bool
  -- the history as far as it has seen it
  pub seen : List E
  -- the entries that it made
  pub own : List E

module _ {E : Type 0} where
  -- it is held where what it knows is with its turn
  abbrev pub is_held : List (Known E) → Bool
  is_held [] = true
  is_held (v ∷ []) = false
  is_held (v ∷ w ∷ vs) = true

  -- what it has seen, where it isn't held
  abbrev pub seen_in : List (Known E) → List E
  seen_in [] = []
  seen_in (v ∷ vs) = v.seen

  -- what it made, where it isn't held
  abbrev pub own_in : List (Known E) → List E
  own_in [] = []
  own_in (v ∷ vs) = v.own

  -- the seat of this lock and this number that knows this
  abbrev pub seat_view : LockId → ℕ → List (Known E) → SeatView E
  seat_view lock number views =
      record { lock = lock; number = number; held = is_held views; seen = seen_in views; own = own_in views }
