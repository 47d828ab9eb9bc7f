-- The seats that the first seat has taken in.
use Rattle.std.specs.Prelude.{◌≡◌, ℕ, List, [], ◌∷◌}
use mathlib.Core.Option.{some}
use lib.ListN.{get_elem?}
use Rattle.seen_lock.specs.declared.known.Known.{Known}
use Rattle.seen_lock.specs.declared.known.Ended.{Ended}
use Rattle.seen_lock.specs.Views.{SeatView}

module _ {E : Type 0} where
  -- what is kept of a seat that has ended
  abbrev pub ended_seat : SeatView E → Ended E
  ended_seat s = record { number = s.number; seen = s.seen; own = s.own }

  -- this seat is among them
  abbrev pub IsTaken : Known E → SeatView E → Type 0
  IsTaken v s = (j : ℕ) × (get_elem? v.gone j ≡ some (ended_seat s))

  -- each of the seats is among them
  abbrev pub AreTaken : Known E → List (SeatView E) → Type 0
  AreTaken v [] = Unit {0}
  AreTaken v (s ∷ seats) = IsTaken v s × AreTaken v seats

  -- the same seat, but for those that it has taken in
  abbrev pub IsSame : Known E → Known E → Type 0
  IsSame v w = w ≡ record v { gone = w.gone }
