-- Orders in which supertypes come first.
use Rattle.std.specs.Prelude.{◌≡◌, ℕ, ◌<◌, ◌==◌, Bool, true, false, List, length, take, reverse, slice_get, slice_index_or, Option, Some}
use Rattle.std.specs.List.{list_any}
use Rattle.schema_table.specs.Climbing.{step, lift, chain}

-- the number stands there
abbrev pub has_number : List ℕ → ℕ → Bool
has_number order number = list_any (λ x. x == number) order

-- Each is the number of an entity, and its parent stands before it.
abbrev pub IsParentsFirst : List (Option ℕ) → List ℕ → Type 0
IsParentsFirst ps order =
    (r x : ℕ) → slice_get order r ≡ Some x → (x < length ps) × ((p : ℕ) → step ps x ≡ Some p → has_number (take r order) p ≡ true)

-- Each entity stands there.
abbrev pub HasAll : List (Option ℕ) → List ℕ → Type 0
HasAll ps order = (y : ℕ) → y < length ps → has_number order y ≡ true

-- The marks of the numbers that stand there.
abbrev pub AreTaken : List (Option ℕ) → List ℕ → List Bool → Type 0
AreTaken ps order taken = (length taken ≡ length ps) × ((y : ℕ) → y < length ps → slice_index_or taken y false ≡ has_number order y)

-- The way up from a number, the topmost first, as far as none is taken.
abbrev pub IsLineDown : List (Option ℕ) → List Bool → ℕ → List ℕ → Type 0
IsLineDown ps taken from line =
    (k : ℕ) × (line ≡ reverse (chain ps k (Some from))) × ((x : ℕ) → lift ps k (Some from) ≡ Some x → slice_index_or taken x false ≡ true)
