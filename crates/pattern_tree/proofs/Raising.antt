-- Ranges in order: what it changes to end each by the greatest last character so far, and where a search ends.
use Rattle.std.proofs.Common.{◌≡◌, ◌<◌, ◌≤◌, ◌-◌, ℕ, zero, suc, max, Bool, true, false, ◌&&◌, ◌||◌, ◌⊎◌, List, [], ◌∷◌, length, get_or, nat_le, refl, sym, ap, ◌∙◌, inl, inr, ⊎_elim, arith}
use Rattle.std.proofs.Math.Bool.{or-false}
use Rattle.std.specs.List.{list_any}
use Rattle.std.specs.List.Sorted.{IsNonDecreasingBy, IsPartitionPoint, IsPermutation}
use Rattle.std.proofs.lemmas.Bool.{cases_Bool, true≢false, le-leb, lt-leb, leb-true, leb-false, and_from, and_right, and_left}
use Rattle.std.proofs.lemmas.Bool.Decides.{nat_tests}
use Rattle.std.proofs.lemmas.List.Folds.{list_any_at, list_any_none}
use Rattle.std.proofs.lemmas.List.Sorted.{list_any-IsPermutation}
use Rattle.pattern_tree.specs.declared.range.Range.{Range}
use Rattle.pattern_tree.specs.Searching.{is_in_range, AreRising, raised}

abbrev first_of : Range → ℕ
first_of range = range.first

abbrev last_of : Range → ℕ
last_of range = range.last

-- ---- the ranges rise
first_kept : (top : ℕ) (xs : List Range) (i : ℕ) (d : Range) → (get_or (raised top xs) i d).first ≡ (get_or xs i d).first
first_kept top [] i d = refl
first_kept top (x ∷ xs) zero d = refl
first_kept top (x ∷ xs) (suc i) d = first_kept (max top x.last) xs i d

as_long : (top : ℕ) (xs : List Range) → length (raised top xs) ≡ length xs
as_long top [] = refl
as_long top (x ∷ xs) = ap suc (as_long (max top x.last) xs)

above_top : (top : ℕ) (xs : List Range) (i : ℕ) (d : Range) → i < length (raised top xs) → top ≤ (get_or (raised top xs) i d).last
above_top top [] i d h = absurd (omega arith)
above_top top (x ∷ xs) zero d h = omega arith
above_top top (x ∷ xs) (suc i) d h =
    let later : max top x.last ≤ (get_or (raised (max top x.last) xs) i d).last = above_top (max top x.last) xs i d (omega arith) in omega arith

lasts_rise : (top : ℕ) (xs : List Range) → IsNonDecreasingBy last_of (raised top xs)
lasts_rise top [] i j d le h = absurd (omega arith)
lasts_rise top (x ∷ xs) zero zero d le h = omega arith
lasts_rise top (x ∷ xs) zero (suc j) d le h = above_top (max top x.last) xs j d (omega arith)
lasts_rise top (x ∷ xs) (suc i) zero d le h = absurd (omega arith)
lasts_rise top (x ∷ xs) (suc i) (suc j) d le h = lasts_rise (max top x.last) xs i j d (omega arith) (omega arith)

pub raised_rises : (top : ℕ) (xs : List Range) → IsNonDecreasingBy first_of xs → AreRising (raised top xs)
raised_rises top xs up = record {
  firsts = λ i j d le h. let long = as_long top xs in let a = first_kept top xs i d in let b = first_kept top xs j d in let c = up i j d le (omega arith) in omega arith;
  lasts = lasts_rise top xs;
}

-- ---- the characters stay
one_row : (b p q g x : Bool) → (g ≡ true → b ≡ true) → ((b && (p || q)) || (x || (g && (p || q)))) ≡ (((b && p) || x) || (b && q))
one_row true true q g x h = refl
one_row true false true g true h = refl
one_row true false true g false h = refl
one_row true false false true x h = refl
one_row true false false false x h = refl
one_row false p q true x h = absurd (true≢false (sym (h refl)))
one_row false p q false x h = refl

absorbed : (b p q x : Bool) → (q ≡ true → p ≡ true) → (((b && p) || x) || (b && q)) ≡ ((b && p) || x)
absorbed false p q x h = or-false x
absorbed true true q x h = refl
absorbed true false true x h = absurd (true≢false (sym (h refl)))
absorbed true false false x h = or-false x

below_max : (c top last : ℕ) → nat_le c (max top last) ≡ (nat_le c last || nat_le c top)
below_max c top last = grind (arith, nat_tests)

-- the first range begins at the character or below it
abbrev begins : List Range → ℕ → Bool
begins [] c = false
begins (x ∷ xs) c = nat_le x.first c

begins_later : (x : Range) (xs : List Range) (c : ℕ) → IsNonDecreasingBy first_of (x ∷ xs) → begins xs c ≡ true → nat_le x.first c ≡ true
begins_later x [] c up e = absurd (true≢false (sym e))
begins_later x (y ∷ ys) c up e =
    let a : x.first ≤ y.first = up 0 1 x (omega arith) (omega arith) in let b : y.first ≤ c = leb-true y.first c e in le-leb x.first c (omega arith)

raised_any : (top c : ℕ) (xs : List Range) → IsNonDecreasingBy first_of xs
    → list_any (is_in_range c) (raised top xs) ≡ (list_any (is_in_range c) xs || (begins xs c && nat_le c top))
raised_any top c [] up = refl
raised_any top c (x ∷ xs) up =
    let m = max top x.last in
    ap (λ l. (nat_le x.first c && nat_le c m) || l) (raised_any m c xs (λ i j d le h. up (suc i) (suc j) d (omega arith) (omega arith)))
    ∙ ap (λ b. (nat_le x.first c && b) || (list_any (is_in_range c) xs || (begins xs c && b))) (below_max c top x.last)
    ∙ one_row (nat_le x.first c) (nat_le c x.last) (nat_le c top) (begins xs c) (list_any (is_in_range c) xs) (begins_later x xs c up)

pub raised_same : (c : ℕ) (xs : List Range) → IsNonDecreasingBy first_of xs → list_any (is_in_range c) (raised 0 xs) ≡ list_any (is_in_range c) xs
raised_same c [] up = refl
raised_same c (x ∷ xs) up =
    raised_any 0 c (x ∷ xs) up
    ∙ absorbed (nat_le x.first c) (nat_le c x.last) (nat_le c 0) (list_any (is_in_range c) xs) (λ e. let l : c ≤ 0 = leb-true c 0 e in le-leb c x.last (omega arith))

-- ranges in the order of their first characters, and then raised
pub in_order_same : (c : ℕ) (xs ys zs : List Range) → IsPermutation xs ys → IsNonDecreasingBy first_of ys → zs ≡ raised 0 ys
    → list_any (is_in_range c) zs ≡ list_any (is_in_range c) xs
in_order_same c xs ys zs moved up e =
    ap (λ l. list_any (is_in_range c) l) e ∙ raised_same c ys up ∙ sym (list_any-IsPermutation (is_in_range c) xs ys moved)

-- ---- the search

abbrev IsPoint : ℕ → List Range → ℕ → Type 0
IsPoint c xs i = IsPartitionPoint (λ (x : Range). nat_le x.first c ≡ true) (λ x. nat_le x.first c ≡ false) xs i

-- no range begins early enough
pub found_none : (c : ℕ) (xs : List Range) (i : ℕ) → i ≡ 0 → IsPoint c xs i → false ≡ list_any (is_in_range c) xs
found_none c xs i e point =
    sym (list_any_none (is_in_range c) xs (λ k d l. and_left (nat_le (get_or xs k d).first c) (nat_le c (get_or xs k d).last) (point.1 k d (omega arith) l)))

-- the last one that does tells
pub found_at : (c : ℕ) (xs : List Range) (i : ℕ) (d : Range) → 0 < i → i ≤ length xs → AreRising xs → IsPoint c xs i
    → nat_le c (get_or xs (i - 1) d).last ≡ list_any (is_in_range c) xs
found_at c xs i d some within rising point =
    ⊎_elim
    (λ yes. yes ∙ sym (list_any_at (is_in_range c) xs (i - 1) d (omega arith) (and_from _ _ (point.0 (i - 1) d (omega arith) (omega arith)) yes)))
    (λ no. no ∙ sym (list_any_none (is_in_range c) xs (λ k e l. ⊎_elim
    (λ passed. and_left _ _ (point.1 k e passed l))
    (λ before. and_right _ _ (let a : (get_or xs k e).last ≤ (get_or xs (i - 1) e).last = rising.lasts k (i - 1) e (omega arith) (omega arith) in
    let same : (get_or xs (i - 1) e).last ≡ (get_or xs (i - 1) d).last = ap last_of (same_default xs (i - 1) e d (omega arith)) in
    let b : (get_or xs (i - 1) d).last < c = leb-false c (get_or xs (i - 1) d).last no in lt-leb c (get_or xs k e).last (omega arith)))
    (order i k))))
    (cases_Bool (nat_le c (get_or xs (i - 1) d).last))
  where
    same_default : (xs : List Range) (at : ℕ) (d d' : Range) → at < length xs → get_or xs at d ≡ get_or xs at d'
    same_default [] at d d' h = absurd (omega arith)
    same_default (x ∷ xs) zero d d' h = refl
    same_default (x ∷ xs) (suc at) d d' h = same_default xs at d d' (omega arith)

    order : (i k : ℕ) → (i ≤ k) ⊎ (k < i)
    order i k = elim (cases_Bool (nat_le i k)) [ inl h ↦ inl (leb-true i k h) | inr h ↦ inr (leb-false i k h) ]
