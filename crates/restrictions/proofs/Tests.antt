-- Facts on tests, and tests that decide properties of texts.
use Rattle.std.proofs.Common.{◌≡◌, ℕ, zero, suc, ◌+◌, ◌≤◌, ◌<◌, Bool, true, false, ◌&&◌, ◌||◌, List, [], ◌∷◌, ◌⊎◌, inl, inr, map, refl, ap, ◌∙◌, arith}
use Rattle.std.specs.List.{list_any, range_with_len}
use Rattle.std.proofs.lemmas.Bool.Decides.{leb_tells}
use Rattle.pattern_tree.specs.Matching.{Text}

pub or_cases : (a b : Bool) → (a || b) ≡ true → (a ≡ true) ⊎ (b ≡ true)
or_cases true b e = inl refl
or_cases false b e = inr e

pub or_first : (a b : Bool) → a ≡ true → (a || b) ≡ true
or_first true b e = refl
or_first false b e = absurd (cc)

pub or_second : (a b : Bool) → b ≡ true → (a || b) ≡ true
or_second true b e = refl
or_second false b e = e

pub and_parts : (a b : Bool) → (a && b) ≡ true → (a ≡ true) × (b ≡ true)
and_parts true b e = (refl, e)
and_parts false b e = absurd (cc)

pub and_made : (a b : Bool) → a ≡ true → b ≡ true → (a && b) ≡ true
and_made true b e h = h
and_made false b e h = absurd (cc)

pub any_map : {X Y : Type 0} (test : Y → Bool) (f : X → Y) (xs : List X) → list_any test (map f xs) ≡ list_any (λ x. test (f x)) xs
any_map test f [] = refl
any_map test f (x ∷ xs) = ap (λ b. test (f x) || b) (any_map test f xs)

-- ---- tests that decide

-- the test is true exactly where the text has the property
pub record Tests (test : Text → Bool) (P : Text → Type 0) : Type 0 where
  pub sound : (t : Text) → test t ≡ true → P t
  pub complete : (t : Text) → P t → test t ≡ true

-- ---- some number up to a bound

pub number_found : (test : ℕ → Bool) (a n : ℕ) → list_any test (range_with_len a n) ≡ true → (k : ℕ) × (test k ≡ true)
number_found test a zero e = absurd (cc)
number_found test a (suc n) e = elim (or_cases (test a) (list_any test (range_with_len (a + 1) n)) e) [
  | inl h ↦ (a, h)
  | inr h ↦ number_found test (a + 1) n h
]

pub number_tried : (test : ℕ → Bool) (a n k : ℕ) → a ≤ k → k < a + n → test k ≡ true → list_any test (range_with_len a n) ≡ true
number_tried test a zero k from below h = absurd (omega arith)
number_tried test a (suc n) k from below h = elim (leb_tells k a) [
  | inl le ↦ (let same : a ≡ k = omega (arith, le.1) in or_first (test a) (list_any test (range_with_len (a + 1) n)) (ap test same ∙ h))
  | inr more ↦ or_second (test a) (list_any test (range_with_len (a + 1) n)) (number_tried test (a + 1) n k (omega (arith, more.1)) (omega arith) h)
]
