-- What a turn makes of a seat.
use Rattle.std.specs.Prelude.{◌≡◌, ℕ, List, [], ◌∷◌, ◌++◌, Result, MatchResult}
use Rattle.ifc_base.specs.declared.memory.Memory.{Memory}
use Rattle.ifc_base.specs.Histories.{StartsWith}
use Rattle.seen_lock.specs.Views.{SeatView}
use Rattle.lock_tests.specs.declared.log.Note.{Note}
use Rattle.lock_tests.specs.Logs.{note}

-- the note ends a history that begins with all that the seat had seen, and the seat's own list
abbrev pub Adds : SeatView Note → ℕ → SeatView Note → Type 0
Adds old value new =
    (log : List Note) × StartsWith log old.seen × (new.seen ≡ log ++ note old.number value ∷ [])
    × (new.own ≡ old.own ++ note old.number value ∷ [])

-- the seat has seen more, and made nothing
abbrev pub Looks : SeatView Note → SeatView Note → Type 0
Looks old new = StartsWith new.seen old.seen × (new.own ≡ old.own)

-- what a turn that is to add a note does
abbrev pub Turns : SeatView Note → ℕ → Result (Unit {0}) Memory → SeatView Note → Type 0
Turns old value reply new = MatchResult reply (λ _. Adds old value new) (λ _. Looks old new)
