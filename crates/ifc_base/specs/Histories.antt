-- Histories: lists of entries, the oldest first, each made by someone who has a number. The type of the entries is the caller's, and
-- `maker` says whose an entry is.
use Rattle.std.specs.Prelude.{◌≡◌, ℕ, ◌<◌, ◌==◌, List, ◌++◌, drop}
use Rattle.std.specs.List.{All, filter}

-- the history begins with all of the other one
abbrev pub StartsWith : {E : Type 0} → List E → List E → Type 0
StartsWith {E} log front = (more : List E) × (log ≡ front ++ more)

-- the entries behind the first so many
abbrev pub entries_since : {E : Type 0} → ℕ → List E → List E
entries_since place log = drop place log

module _ {E : Type 0} (maker : E → ℕ) where
  -- the entries of this number, in their order
  abbrev pub entries_of : ℕ → List E → List E
  entries_of number log = filter (λ e. maker e == number) log

  -- each entry is of a number below this one
  abbrev pub AreMadeBelow : ℕ → List E → Type 0
  AreMadeBelow count log = All (λ e. maker e < count) log
