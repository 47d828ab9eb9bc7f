-- Finding keys in joined pairs.
use Rattle.std.proofs.Common.{◌≡◌, ◌≢◌, ℕ, suc, ◌+◌, ◌*◌, ◌/◌, ◌%◌, ◌<◌, ◌≤◌, ◌⊎◌, Bool, true, false, cond, List, [], ◌∷◌, ◌++◌, Option, Some, None, refl, arith, ap, sym, subst, ◌∙◌, inl, inr, eq-eqb}
use Rattle.std.proofs.lemmas.Bool.{cases_lt, ne_eqb}
use Rattle.std.proofs.Math.Nat.{div-add-mod}
use Rattle.std.proofs.lemmas.Nat.{mod_below}
use Rattle.std.specs.Cmp.{unsigned_tied}
use Rattle.std.specs.Ordering.{nat_cmp, eq_by_cmp}
use Rattle.std.specs.FinMap.{find}
use Rattle.tree_map.specs.Ordered.{AreAbove, Rises, times_le, below_raised}
use Rattle.tree_map.specs.Pairs.{raised, joined, AreBelow, AllBranches, pairs_of, Updates}

-- ---- tests of two keys
pub tied : (q k : ℕ) → q ≡ k → eq_by_cmp nat_cmp q k ≡ true
tied q k e = unsigned_tied q k ∙ eq-eqb q k e

pub apart : (q k : ℕ) → q ≢ k → eq_by_cmp nat_cmp q k ≡ false
apart q k n = unsigned_tied q k ∙ ne_eqb q k n

pub same_or_not : (q k : ℕ) → (q ≡ k) ⊎ (q ≢ k)
same_or_not q k =
    elim (cases_lt q k) [
      | inl h ↦ inr (let n : q ≢ k = omega arith in n)
      | inr h ↦ elim (cases_lt k q) [ inl l ↦ inr (let n : q ≢ k = omega arith in n) | inr l ↦ inl (omega arith) ]
    ]

same_test : (n q k : ℕ) → eq_by_cmp nat_cmp (n + q) (n + k) ≡ eq_by_cmp nat_cmp q k
same_test n q k =
    elim (same_or_not q k) [
      | inl e ↦ let f : n + q ≡ n + k = omega arith in tied (n + q) (n + k) f ∙ sym (tied q k e)
      | inr d ↦ let f : n + q ≢ n + k = omega arith in apart (n + q) (n + k) f ∙ sym (apart q k d)
    ]

module _ {V : Type 0} where
  -- ---- finding
  -- the first answer, or else the second
  abbrev or_else : Option V → Option V → Option V
  or_else None o = o
  or_else (Some v) o = Some v

  or_else-None : (o : Option V) → or_else o None ≡ o
  or_else-None None = refl
  or_else-None (Some v) = refl

  find_append : (q : ℕ) (xs ys : List (ℕ × V)) → find nat_cmp q (xs ++ ys) ≡ or_else (find nat_cmp q xs) (find nat_cmp q ys)
  find_append q [] ys = refl
  find_append q (x ∷ xs) ys =
      let F : Bool → Type 0 = λ b. cond b (Some x.1) (find nat_cmp q (xs ++ ys)) ≡ or_else (cond b (Some x.1) (find nat_cmp q xs)) (find nat_cmp q ys) in
      elim (eq_by_cmp nat_cmp q x.0) as F [ true ↦ refl | false ↦ find_append q xs ys ]

  -- a key that no pair has
  pub missing_above : (q x : ℕ) (ps : List (ℕ × V)) → q ≤ x → AreAbove x ps → find nat_cmp q ps ≡ None
  missing_above q x [] l h = refl
  missing_above q x (p ∷ ps) l h =
      let n : q ≢ p.0 = omega (arith, h.0) in
      ap (λ b. cond b (Some p.1) (find nat_cmp q ps)) (apart q p.0 n) ∙ missing_above q x ps l h.1

  pub missing_below : (q n : ℕ) (ps : List (ℕ × V)) → n ≤ q → AreBelow n ps → find nat_cmp q ps ≡ None
  missing_below q n [] l h = refl
  missing_below q n (p ∷ ps) l h =
      let d : q ≢ p.0 = omega (arith, h.0) in
      ap (λ b. cond b (Some p.1) (find nat_cmp q ps)) (apart q p.0 d) ∙ missing_below q n ps l h.1

  find_raised : (n q : ℕ) (ps : List (ℕ × V)) → find nat_cmp (n + q) (raised n ps) ≡ find nat_cmp q ps
  find_raised n q [] = refl
  find_raised n q (p ∷ ps) = ap (λ b. cond b (Some p.1) (find nat_cmp (n + q) (raised n ps))) (same_test n q p.0) ∙ ap (λ o. cond (eq_by_cmp nat_cmp q p.0) (Some p.1) o) (find_raised n q ps)

-- ---- numbers of two digits
below_next : (size a b r : ℕ) → a < b → r < size → a * size + r < b * size
below_next size a b r l h =
    let step : suc a * size ≤ b * size = times_le size (suc a) b (omega arith) in
    omega arith

module _ {B V : Type 0} (size : ℕ) (pairs : B → List (ℕ × V)) where
  -- ---- a key of a digit and a number below the size is found below that digit
  skipped : (d r : ℕ) (b : ℕ × B) → d ≢ b.0 → r < size → AreBelow size (pairs b.1) → find nat_cmp (d * size + r) (raised (b.0 * size) (pairs b.1)) ≡ None
  skipped d r b n h k =
      elim (cases_lt d b.0) [
        | inl l ↦
            let under : d * size + r < b.0 * size = below_next size d b.0 r l h in
            less (d * size + r) (b.0 * size) (pairs b.1) under
        | inr l ↦
            let over : b.0 * size + size ≤ d * size = (let s : suc b.0 * size ≤ d * size = times_le size (suc b.0) d (omega arith) in omega arith) in
            missing_below (d * size + r) (b.0 * size + size) _ (omega arith) (below_raised (b.0 * size) size (pairs b.1) k)
      ] where
        less : (q m : ℕ) (ps : List (ℕ × V)) → q < m → find nat_cmp q (raised m ps) ≡ None
        less q m [] l = refl
        less q m (p ∷ ps) l =
            let e : q ≢ m + p.0 = omega arith in
            ap (λ b. cond b (Some p.1) (find nat_cmp q (raised m ps))) (apart q (m + p.0) e) ∙ less q m ps l

  pub find_joined : (d r : ℕ) (bs : List (ℕ × B)) → Rises bs → AllBranches (λ b. AreBelow size (pairs b)) bs → r < size → find nat_cmp (d * size + r) (joined size pairs bs) ≡ find nat_cmp r (pairs_of pairs (find nat_cmp d bs))
  find_joined d r [] h k l = refl
  find_joined d r (b ∷ bs) h k l =
      let rest = find_joined d r bs h.1 k.1 l in
      find_append (d * size + r) (raised (b.0 * size) (pairs b.1)) (joined size pairs bs)
      ∙ elim (same_or_not d b.0) [
        | inl e ↦
            let here : find nat_cmp (d * size + r) (raised (b.0 * size) (pairs b.1)) ≡ find nat_cmp r (pairs b.1) = subst (λ n. find nat_cmp (n * size + r) (raised (b.0 * size) (pairs b.1)) ≡ find nat_cmp r (pairs b.1)) (sym e) (find_raised (b.0 * size) r (pairs b.1)) in
            let gone : find nat_cmp d bs ≡ None = missing_above d b.0 bs (omega arith) h.0 in
            let none : find nat_cmp (d * size + r) (joined size pairs bs) ≡ None = rest ∙ ap (λ o. find nat_cmp r (pairs_of pairs o)) gone in
            ap (λ o. or_else o (find nat_cmp (d * size + r) (joined size pairs bs))) here
            ∙ ap (or_else (find nat_cmp r (pairs b.1))) none ∙ or_else-None (find nat_cmp r (pairs b.1))
            ∙ ap (λ t. find nat_cmp r (pairs_of pairs (cond t (Some b.1) (find nat_cmp d bs)))) (sym (tied d b.0 e))
        | inr n ↦
            ap (λ o. or_else o (find nat_cmp (d * size + r) (joined size pairs bs))) (skipped d r b n l k.0) ∙ rest
            ∙ ap (λ t. find nat_cmp r (pairs_of pairs (cond t (Some b.1) (find nat_cmp d bs)))) (sym (apart d b.0 n))
      ]

  -- ---- a change below one digit changes the joined pairs at one key
  changed_at : (bs cs : List (ℕ × B)) (d r : ℕ) (o : Option B) (w : Option V) → Rises bs → Rises cs → AllBranches (λ b. AreBelow size (pairs b)) bs → AllBranches (λ b. AreBelow size (pairs b)) cs → r < size → Updates d o bs cs → Updates r w (pairs_of pairs (find nat_cmp d bs)) (pairs_of pairs o) → (e s : ℕ) → s < size → find nat_cmp (e * size + s) (joined size pairs cs) ≡ cond (eq_by_cmp nat_cmp (e * size + s) (d * size + r)) w (find nat_cmp (e * size + s) (joined size pairs bs))
  changed_at bs cs d r o w rb rc bb bc l up below e s m =
      find_joined e s cs rc bc m ∙ ap (λ x. find nat_cmp s (pairs_of pairs x)) (up e)
      ∙ elim (same_or_not e d) [
        | inl h ↦
            let P : ℕ → Type 0 = λ x. find nat_cmp s (pairs_of pairs (cond (eq_by_cmp nat_cmp x d) o (find nat_cmp x bs))) ≡ cond (eq_by_cmp nat_cmp (x * size + s) (d * size + r)) w (find nat_cmp (x * size + s) (joined size pairs bs)) in
            let here : P d =
            ap (λ t. find nat_cmp s (pairs_of pairs (cond t o (find nat_cmp d bs)))) (tied d d refl)
            ∙ below s
            ∙ ap (λ t. cond t w (find nat_cmp s (pairs_of pairs (find nat_cmp d bs)))) (sym (same_test (d * size) s r))
            ∙ ap (λ x. cond (eq_by_cmp nat_cmp (d * size + s) (d * size + r)) w x) (sym (find_joined d s bs rb bb m)) in
            subst P (sym h) here
        | inr n ↦
            let other : e * size + s ≢ d * size + r = (λ q. elim (cases_lt e d) [
              | inl k ↦ (let u : e * size + s < d * size = below_next size e d s k m in omega arith)
              | inr k ↦ (let u : d * size + r < e * size = below_next size d e r (omega arith) l in omega arith)
            ]) in
            ap (λ t. find nat_cmp s (pairs_of pairs (cond t o (find nat_cmp e bs)))) (apart e d n)
            ∙ sym (find_joined e s bs rb bb m)
            ∙ ap (λ t. cond t w (find nat_cmp (e * size + s) (joined size pairs bs))) (sym (apart (e * size + s) (d * size + r) other))
      ]

  pub updates_joined : (bs cs : List (ℕ × B)) (d r : ℕ) (o : Option B) (w : Option V) → Rises bs → Rises cs → AllBranches (λ b. AreBelow size (pairs b)) bs → AllBranches (λ b. AreBelow size (pairs b)) cs → r < size → Updates d o bs cs → Updates r w (pairs_of pairs (find nat_cmp d bs)) (pairs_of pairs o) → Updates (d * size + r) w (joined size pairs bs) (joined size pairs cs)
  updates_joined bs cs d r o w rb rc bb bc l up below q =
      let whole : (q / size) * size + q % size ≡ q = omega (arith, div-add-mod q size) in
      let P : ℕ → Type 0 = λ x. find nat_cmp x (joined size pairs cs) ≡ cond (eq_by_cmp nat_cmp x (d * size + r)) w (find nat_cmp x (joined size pairs bs)) in
      subst P whole (changed_at bs cs d r o w rb rc bb bc l up below (q / size) (q % size) (mod_below q size (omega arith)))
