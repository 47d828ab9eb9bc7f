-- The pairs of a level are in ascending key, if those of each branch are. These are the laws of levels.
use Rattle.std.specs.Prelude.{◌≡◌, ℕ, suc, ◌+◌, ◌*◌, ◌^◌, ◌<◌, ◌≤◌, Bool, true, false, cond, T, ◌&&◌, ◌==◌, nat_lt, List, [], ◌∷◌, ◌++◌}
use Rattle.std.proofs.Common.{arith, refl, sym, subst, pow-add}
use Rattle.std.proofs.Math.Nat.{mul-le-mul_left}
use Rattle.std.proofs.lemmas.Bool.{lt-ltb, ltb-true}
use Rattle.std.specs.declared.cmp.Ordering.TheVariants.{Less, Equal, Greater}
use Rattle.std.specs.Ordering.{nat_cmp, is_lt}
use Rattle.std.specs.FinMap.Entries.{below_all}
use Rattle.tree_map.specs.Pairs.{raised, joined, IsAscending, AreBelow, AllBranches, IsNode}

less_than : (x y : ℕ) → T (is_lt (nat_cmp x y)) → x < y
less_than x y h =
    let F : Bool → Type 0 = λ b. nat_lt x y ≡ b → T (is_lt (cond b Less (cond (x == y) Equal Greater))) → x < y in
    let G : Bool → Type 0 = λ c. T (is_lt (cond c Equal Greater)) → x < y in
    let other : G (x == y) = elim (x == y) as G [ true ↦ λ z. absurd z | false ↦ λ z. absurd z ] in
    let at : F (nat_lt x y) = elim (nat_lt x y) as F [ true ↦ λ e k. ltb-true x y e | false ↦ λ e k. other k ] in
    at refl h

is_less : (x y : ℕ) → x < y → T (is_lt (nat_cmp x y))
is_less x y h = let F : Bool → Type 0 = λ b. T (is_lt (cond b Less (cond (x == y) Equal Greater))) in subst F (sym (lt-ltb x y h)) tt

-- ---- ascending, as a fact of each key
abbrev pub AreAbove : {V : Type 0} → ℕ → List (ℕ × V) → Type 0
AreAbove x [] = Unit {0}
AreAbove x (p ∷ ps) = (x < p.0) × AreAbove x ps

abbrev pub AreFrom : {V : Type 0} → ℕ → List (ℕ × V) → Type 0
AreFrom x [] = Unit {0}
AreFrom x (p ∷ ps) = (x ≤ p.0) × AreFrom x ps

abbrev pub Rises : {V : Type 0} → List (ℕ × V) → Type 0
Rises [] = Unit {0}
Rises (p ∷ ps) = AreAbove p.0 ps × Rises ps

both : (a b : Bool) → T a → T b → T (a && b)
both true b p q = q
both false b p q = p

first : (a b : Bool) → T (a && b) → T a
first true b p = tt
first false b p = p

second : (a b : Bool) → T (a && b) → T b
second true b p = p
second false b p = absurd p

module _ {V : Type 0} where
  above_of : (x : ℕ) (ps : List (ℕ × V)) → T (below_all nat_cmp x ps) → AreAbove x ps
  above_of x [] h = tt
  above_of x (p ∷ ps) h = (less_than x p.0 (first _ _ h), above_of x ps (second _ _ h))

  above_is : (x : ℕ) (ps : List (ℕ × V)) → AreAbove x ps → T (below_all nat_cmp x ps)
  above_is x [] h = tt
  above_is x (p ∷ ps) h = both _ _ (is_less x p.0 h.0) (above_is x ps h.1)

  pub rises_of : (ps : List (ℕ × V)) → IsAscending ps → Rises ps
  rises_of [] h = tt
  rises_of (p ∷ ps) h = (above_of p.0 ps (first _ _ h), rises_of ps (second _ _ h))

  pub rises_is : (ps : List (ℕ × V)) → Rises ps → IsAscending ps
  rises_is [] h = tt
  rises_is (p ∷ ps) h = both _ _ (above_is p.0 ps h.0) (rises_is ps h.1)

  pub all_weaker : (P Q : V → Type 0) → ((v : V) → P v → Q v) → (ps : List (ℕ × V)) → AllBranches P ps → AllBranches Q ps
  all_weaker P Q f [] h = tt
  all_weaker P Q f (p ∷ ps) h = (f p.1 h.0, all_weaker P Q f ps h.1)

  -- ---- bounds of raised and joined pairs
  pub below_raised : (n m : ℕ) (ps : List (ℕ × V)) → AreBelow m ps → AreBelow (n + m) (raised n ps)
  below_raised n m [] h = tt
  below_raised n m (p ∷ ps) h = (omega (arith, h.0), below_raised n m ps h.1)

  from_raised : (n : ℕ) (ps : List (ℕ × V)) → AreFrom n (raised n ps)
  from_raised n [] = tt
  from_raised n (p ∷ ps) = (omega arith, from_raised n ps)

  below_more : (m n : ℕ) (ps : List (ℕ × V)) → m ≤ n → AreBelow m ps → AreBelow n ps
  below_more m n [] l h = tt
  below_more m n (p ∷ ps) l h = (omega (arith, h.0), below_more m n ps l h.1)

  from_less : (m n : ℕ) (ps : List (ℕ × V)) → m ≤ n → AreFrom n ps → AreFrom m ps
  from_less m n [] l h = tt
  from_less m n (p ∷ ps) l h = (omega (arith, h.0), from_less m n ps l h.1)

  below_append : (n : ℕ) (xs ys : List (ℕ × V)) → AreBelow n xs → AreBelow n ys → AreBelow n (xs ++ ys)
  below_append n [] ys h k = k
  below_append n (x ∷ xs) ys h k = (h.0, below_append n xs ys h.1 k)

  from_append : (n : ℕ) (xs ys : List (ℕ × V)) → AreFrom n xs → AreFrom n ys → AreFrom n (xs ++ ys)
  from_append n [] ys h k = k
  from_append n (x ∷ xs) ys h k = (h.0, from_append n xs ys h.1 k)

  above_from : (x n : ℕ) (ps : List (ℕ × V)) → x < n → AreFrom n ps → AreAbove x ps
  above_from x n [] l h = tt
  above_from x n (p ∷ ps) l h = (omega (arith, h.0), above_from x n ps l h.1)

  above_append : (x : ℕ) (xs ys : List (ℕ × V)) → AreAbove x xs → AreAbove x ys → AreAbove x (xs ++ ys)
  above_append x [] ys h k = k
  above_append x (y ∷ xs) ys h k = (h.0, above_append x xs ys h.1 k)

  rises_append : (n : ℕ) (xs ys : List (ℕ × V)) → Rises xs → Rises ys → AreBelow n xs → AreFrom n ys → Rises (xs ++ ys)
  rises_append n [] ys h k b f = k
  rises_append n (x ∷ xs) ys h k b f = (above_append x.0 xs ys h.0 (above_from x.0 n ys b.0 f), rises_append n xs ys h.1 k b.1 f)

  above_raised : (n x : ℕ) (ps : List (ℕ × V)) → AreAbove x ps → AreAbove (n + x) (raised n ps)
  above_raised n x [] h = tt
  above_raised n x (p ∷ ps) h = (omega (arith, h.0), above_raised n x ps h.1)

  rises_raised : (n : ℕ) (ps : List (ℕ × V)) → Rises ps → Rises (raised n ps)
  rises_raised n [] h = tt
  rises_raised n (p ∷ ps) h = (above_raised n p.0 ps h.0, rises_raised n ps h.1)

-- ---- numbers of two digits
pub times_le : (size a b : ℕ) → a ≤ b → a * size ≤ b * size
times_le size a b h = omega (arith, mul-le-mul_left size h)

pub pow_next : (w : ℕ) → 2 ^ (w + 5) ≡ 32 * 2 ^ w
pow_next w = let e : 2 ^ (w + 5) ≡ 2 ^ w * 2 ^ 5 = pow-add 2 w 5 in omega arith

module _ {B V : Type 0} (size : ℕ) (pairs : B → List (ℕ × V)) where
  -- ---- joined pairs stand from the first digit on, and below the last
  from_joined : (n : ℕ) (bs : List (ℕ × B)) → AreFrom n bs → AreFrom (n * size) (joined size pairs bs)
  from_joined n [] h = tt
  from_joined n (b ∷ bs) h =
      let low : n * size ≤ b.0 * size = times_le size n b.0 h.0 in
      from_append _ _ _ (from_less (n * size) (b.0 * size) _ low (from_raised (b.0 * size) (pairs b.1))) (from_joined n bs h.1)

  pub below_joined : (n : ℕ) (bs : List (ℕ × B)) → AreBelow n bs → AllBranches (λ b. AreBelow size (pairs b)) bs → AreBelow (n * size) (joined size pairs bs)
  below_joined n [] h k = tt
  below_joined n (b ∷ bs) h k =
      let high : suc b.0 * size ≤ n * size = times_le size (suc b.0) n (omega (arith, h.0)) in
      below_append _ _ _ (below_more (b.0 * size + size) (n * size) _ (omega arith) (below_raised (b.0 * size) size (pairs b.1) k.0)) (below_joined n bs h.1 k.1)

  next_digits : (x : ℕ) (bs : List (ℕ × B)) → AreAbove x bs → AreFrom (suc x) bs
  next_digits x [] h = tt
  next_digits x (b ∷ bs) h = (omega (arith, h.0), next_digits x bs h.1)

  pub rises_joined : (bs : List (ℕ × B)) → Rises bs → AllBranches (λ b. AreBelow size (pairs b)) bs → AllBranches (λ b. Rises (pairs b)) bs → Rises (joined size pairs bs)
  rises_joined [] h k r = tt
  rises_joined (b ∷ bs) h k r =
      let later : AreFrom (suc b.0 * size) (joined size pairs bs) = from_joined (suc b.0) bs (next_digits b.0 bs h.0) in
      rises_append (b.0 * size + size) _ _ (rises_raised (b.0 * size) (pairs b.1) r.0) (rises_joined bs h.1 k.1 r.1) (below_raised (b.0 * size) size (pairs b.1) k.0)
      (from_less (b.0 * size + size) (suc b.0 * size) _ (omega arith) later)

-- a level's pairs rise, and each key is below the power of its width, if that holds of what stands below
module _ {B V : Type 0} (w : ℕ) (pairs : B → List (ℕ × V)) (IsWhole : B → Type 0) (law : (b : B) → IsWhole b → IsAscending (pairs b) × AreBelow (2 ^ w) (pairs b)) where
  pub below_size : (bs : List (ℕ × B)) → AllBranches IsWhole bs → AllBranches (λ b. AreBelow (2 ^ w) (pairs b)) bs
  below_size bs h = all_weaker IsWhole (λ b. AreBelow (2 ^ w) (pairs b)) (λ b k. (law b k).1) bs h

  pub ordered_joined : (bs : List (ℕ × B)) → IsNode IsWhole pairs bs → IsAscending (joined (2 ^ w) pairs bs) × AreBelow (2 ^ (w + 5)) (joined (2 ^ w) pairs bs)
  ordered_joined bs h =
      let rise : AllBranches (λ b. Rises (pairs b)) bs = all_weaker IsWhole (λ b. Rises (pairs b)) (λ b k. rises_of (pairs b) (law b k).0) bs h.2 in (
        rises_is _ (rises_joined (2 ^ w) pairs bs (rises_of bs h.0) (below_size bs h.2) rise),
        subst (λ n. AreBelow n (joined (2 ^ w) pairs bs)) (sym (pow_next w)) (below_joined (2 ^ w) pairs 32 bs h.1 (below_size bs h.2)),
      )
