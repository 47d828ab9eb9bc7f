-- The pairs of keys and values that a tree of digits holds, as a list in ascending key.
use Rattle.std.specs.Prelude.{◌≡◌, ◌≢◌, ℕ, ◌+◌, ◌*◌, ◌<◌, T, cond, not, List, [], ◌∷◌, ◌++◌, Option, Some, None}
use Rattle.std.specs.Ordering.{nat_cmp, eq_by_cmp}
use Rattle.std.specs.FinMap.{find, is_sorted}
use Rattle.std.specs.FinMap.Entries.{where_key}

-- the pairs with every key greater by n
abbrev pub raised : {V : Type 0} → ℕ → List (ℕ × V) → List (ℕ × V)
raised n [] = []
raised n (p ∷ ps) = (n + p.0, p.1) ∷ raised n ps

-- the pairs below the branches of a node, one branch after another: those below the branch of digit d have
-- the keys from d * size on
abbrev pub joined : {B V : Type 0} → ℕ → (B → List (ℕ × V)) → List (ℕ × B) → List (ℕ × V)
joined size pairs [] = []
joined size pairs (b ∷ bs) = raised (b.0 * size) (pairs b.1) ++ joined size pairs bs

-- the keys, or digits, strictly rise
abbrev pub IsAscending : {V : Type 0} → List (ℕ × V) → Type 0
IsAscending ps = T (is_sorted nat_cmp ps)

-- each key, or digit, is below n
abbrev pub AreBelow : {V : Type 0} → ℕ → List (ℕ × V) → Type 0
AreBelow n [] = Unit {0}
AreBelow n (p ∷ ps) = (p.0 < n) × AreBelow n ps

-- the fact holds of what stands below each branch
abbrev pub AllBranches : {B : Type 0} → (B → Type 0) → List (ℕ × B) → Type 0
AllBranches P [] = Unit {0}
AllBranches P (b ∷ bs) = P b.1 × AllBranches P bs

-- a node: its digits rise and are below 32, and below each branch is what has to be there, with at least one pair
abbrev pub IsNode : {B V : Type 0} → (B → Type 0) → (B → List (ℕ × V)) → List (ℕ × B) → Type 0
IsNode IsWhole pairs bs = IsAscending bs × AreBelow 32 bs × AllBranches IsWhole bs × AllBranches (λ b. pairs b ≢ []) bs

-- nodes by their numbers, which rise: each is what has to be there, with at least one pair
abbrev pub AreNodes : {B V : Type 0} → (B → Type 0) → (B → List (ℕ × V)) → List (ℕ × B) → Type 0
AreNodes IsWhole pairs bs = IsAscending bs × AllBranches IsWhole bs × AllBranches (λ b. pairs b ≢ []) bs

-- the pairs of what was found below a digit: none, where nothing was found
abbrev pub pairs_of : {B V : Type 0} → (B → List (ℕ × V)) → Option B → List (ℕ × V)
pairs_of pairs None = []
pairs_of pairs (Some b) = pairs b

-- the later list has w at the key, or nothing if that is None, and is as the earlier one at every other key
abbrev pub Updates : {V : Type 0} → ℕ → Option V → List (ℕ × V) → List (ℕ × V) → Type 0
Updates key w before after = (q : ℕ) → find nat_cmp q after ≡ cond (eq_by_cmp nat_cmp q key) w (find nat_cmp q before)

-- the list without the pair, or the branch, of this key
abbrev pub cut : {V : Type 0} → ℕ → List (ℕ × V) → List (ℕ × V)
cut key ps = where_key nat_cmp (λ k. not (eq_by_cmp nat_cmp key k)) ps
