-- The seats of a lock, in the order of their numbers.
use Rattle.std.specs.Prelude.{◌≡◌, ℕ, zero, suc, ◌+◌, List, [], ◌∷◌, length, false}
use Rattle.std.specs.List.{All}
use Rattle.ifc_base.specs.Histories.{StartsWith, entries_since, entries_of, AreMadeBelow}
use Rattle.seen_lock.specs.Views.{LockId, SeatView}

module _ {E : Type 0} where
  -- the seat of this lock and this number that has seen this history and made nothing
  abbrev pub new_seat : LockId → List E → ℕ → SeatView E
  new_seat lock seen number = record { lock = lock; number = number; held = false; seen = seen; own = [] }

  -- so many new seats, numbered from `from`
  abbrev pub new_seats : LockId → List E → ℕ → ℕ → List (SeatView E)
  new_seats lock seen from zero = []
  new_seats lock seen from (suc n) = new_seat lock seen from ∷ new_seats lock seen (from + 1) n

  -- a seat of this lock and this number, which isn't held
  abbrev pub IsFree : LockId → ℕ → SeatView E → Type 0
  IsFree lock number s = (s.lock ≡ lock) × (s.number ≡ number) × (s.held ≡ false)

  -- seats of this lock, numbered from `from`, none of which is held
  abbrev pub AreFree : LockId → ℕ → List (SeatView E) → Type 0
  AreFree lock from [] = Unit {0}
  AreFree lock from (s ∷ seats) = IsFree lock from s × AreFree lock (from + 1) seats

module _ {E : Type 0} (maker : E → ℕ) where
  -- The history begins with that of the start and with all that each seat has seen. Since the start, the entries of each
  -- seat are its own list, and every entry is of one of the seats.
  pub record HasAll (first log : List E) (seats : List (SeatView E)) : Type 0 where
    pub begun : StartsWith log first
    pub each : All (λ s. StartsWith log s.seen × (entries_of maker s.number (entries_since (length first) log) ≡ s.own)) seats
    pub below : AreMadeBelow maker (length seats) (entries_since (length first) log)
