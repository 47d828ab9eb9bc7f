-- How far a walk has come that steps from each id once.
use Rattle.std.specs.Prelude.{◌≡◌, ℕ, List, [], ◌∷◌, ◌⊎◌}
use Rattle.ifc_base.specs.declared.key.Key.{Key}
use Rattle.audit_model.specs.Keys.{Sight}
use Rattle.audit_model.specs.Reading.{Reading}
use Rattle.audit_model.specs.Closures.{reached}

abbrev pub In : {X : Type 0} → X → List X → Type 0
In x [] = ⊥
In x (y ∷ ys) = (x ≡ y) ⊎ In x ys

-- the same keys, in whatever order and however often
abbrev pub SameKeys : List Key → List Key → Type 0
SameKeys ks ls = (k : Key) → (In k ks → In k ls) × (In k ls → In k ks)

-- the step from x was made: its ends are members, and its keys were read
pub record Covers (step : ℕ → Reading (List ℕ)) (v : Sight) (members : List ℕ) (reads : List Key) (x : ℕ) : Type 0 where
  pub ends : (y : ℕ) → In y ((step x).answer v) → In y members
  pub looks : (k : Key) → In k ((step x).keys v) → In k reads

-- n rounds were made; the step from each member but the fresh ones was made
pub record Walking (step : ℕ → Reading (List ℕ)) (v : Sight) (starts : List ℕ) (n : ℕ) (members fresh : List ℕ) (before reads : List Key) : Type 0 where
  pub is_reached : members ≡ (reached step n starts).answer v
  pub fresh_in : (x : ℕ) → In x fresh → In x members
  pub done : (x : ℕ) → In x members → In x fresh ⊎ Covers step v members reads x
  pub kept : (k : Key) → In k before → In k reads
  pub only : (k : Key) → In k reads → In k before ⊎ In k ((reached step n starts).keys v)
  pub all : (k : Key) → In k ((reached step n starts).keys v) → In k reads

-- what was added to the members is in the list
pub record IsFresh (before after fresh : List ℕ) : Type 0 where
  pub in_after : (x : ℕ) → In x fresh → In x after
  pub is_new : (x : ℕ) → In x after → In x before ⊎ In x fresh
