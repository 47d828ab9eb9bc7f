-- What a seat knows between its turns and within one, and what a turn may do.
use Rattle.std.specs.Prelude.{◌≡◌, ◌⊎◌, ℕ, List, [], ◌∷◌, ◌++◌, length, true, false, Option, None}
use Rattle.atomic_table.specs.Table.{Me}
use Rattle.seen_lock.specs.declared.known.Known.{Known}

module _ {E : Type 0} where
  -- no seat has taken it in, and it has taken in none; the first seat has made all
  abbrev pub IsWhole : Known E → Type 0
  IsWhole v = (v.live ≡ true) × (v.gone ≡ []) × (v.number ≡ 0 → (v.makes ≡ true) × (v.made ≡ v.count))

  -- a seat that isn't held waits for nothing, and its number is the one that it tells
  abbrev pub IsReady : List (Known E) → ℕ → Type 0
  IsReady views number =
      (v : Known E) → views ≡ v ∷ [] → (v.waits ≡ false) × (v.holds ≡ false) × IsWhole v × (v.number ≡ number)

  -- a seat between its turns
  abbrev pub IsIdle : Known E → Type 0
  IsIdle v = (v.waits ≡ false) × (v.holds ≡ false) × (v.live ≡ true)

  -- a turn adds one entry of the seat, or none
  abbrev pub IsTurn : (E → ℕ) → ℕ → List E → List E → Type 0
  IsTurn maker number seen log = (log ≡ seen) ⊎ ((e : E) × (log ≡ seen ++ e ∷ []) × (maker e ≡ number))

module _ {S E : Type 0} where
  -- a seat that has drawn a number, and has not found it on the board
  abbrev pub IsWaiting : Me (Option S) (Known E) → Type 0
  IsWaiting me = (me.0.waits ≡ true) × (me.0.holds ≡ false) × (me.0.live ≡ true) × (me.1 ≡ [])

  -- a seat whose state is out: it holds the slot, which is empty, and has seen a history of this length
  abbrev pub IsHolding : Me (Option S) (Known E) → ℕ → Type 0
  IsHolding me before = (me.1 ≡ (0, None) ∷ []) × (me.0.holds ≡ true) × IsWhole me.0 × (before ≡ length me.0.seen)
