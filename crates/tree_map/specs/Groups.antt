-- Branches in groups, each of those that belong to one node: they have the number of the group in front of their digits.
use Rattle.std.specs.Prelude.{◌≡◌, ◌≢◌, ℕ, List, [], ◌∷◌, ◌++◌, ◌*◌}
use Rattle.tree_map.specs.Pairs.{raised, joined, IsAscending, AreBelow, AllBranches}

-- the branches of all groups, by their whole keys
abbrev pub parted : {B : Type 0} → List (ℕ × List (ℕ × B)) → List (ℕ × B)
parted gs = joined 32 (λ bs. bs) gs

-- the branches of one node: their digits rise and are below 32, and there is one
abbrev pub IsGroup : {B : Type 0} → List (ℕ × B) → Type 0
IsGroup bs = IsAscending bs × AreBelow 32 bs × (bs ≢ [])

-- groups by their numbers, which rise
abbrev pub AreGroups : {B : Type 0} → List (ℕ × List (ℕ × B)) → Type 0
AreGroups gs = IsAscending gs × AllBranches IsGroup gs

-- groups, and behind them the branches of one that may grow
abbrev pub opened : {B : Type 0} → List (ℕ × List (ℕ × B)) → ℕ → List (ℕ × B) → List (ℕ × B)
opened gs high bs = parted gs ++ raised (high * 32) bs

pub record IsOpened {B : Type 0} (gs : List (ℕ × List (ℕ × B))) (high : ℕ) (bs : List (ℕ × B)) : Type 0 where
  pub groups : AreGroups gs
  pub behind : AreBelow high gs
  pub rises : IsAscending bs
  pub digits : AreBelow 32 bs
  pub begun : bs ≡ [] → gs ≡ []

-- the groups with that one, if it has branches
abbrev pub closed : {B : Type 0} → List (ℕ × List (ℕ × B)) → ℕ → List (ℕ × B) → List (ℕ × List (ℕ × B))
closed gs high [] = gs
closed gs high (b ∷ bs) = gs ++ (high, b ∷ bs) ∷ []
