-- A loop that goes along two lists and compares them: `Rest f xs ys i` says that f answers at the items from i
-- on what it answers at the whole lists.
use mathlib.Core.Path.{◌≡◌, refl, ◌∙◌}
use mathlib.Core.List.{List, [], ◌∷◌}
use Prim.Native.Nat.{ℕ, zero, suc, ◌+◌, ◌<◌, min}
use native.Mathlib.Nat.{not-suc-le-zero, le_of_suc-le-suc}
use native.Mathlib.Omega.{arith}
use lib.ListN.{length, get_or, drop, length-drop}
use Rattle.std.specs.declared.cmp.Ordering.{Ordering}
use Rattle.std.specs.declared.cmp.Ordering.TheVariants.{Less, Equal, Greater}
use Rattle.std.specs.Ordering.{nat_cmp, MatchOrdering}
use Rattle.std.specs.Cmp.{ranked}
use Rattle.std.specs.Cmp.Lexicographic.{slice_cmp}

-- what stands at this place begins the rest
cut : {X : Type 0} (xs : List X) (i : ℕ) (x : X) → i < length xs → x ≡ get_or xs i x → x ∷ drop (suc i) xs ≡ drop i xs
cut [] i x h e = absurd (not-suc-le-zero h)
cut (y ∷ ys) zero x h e = λ j. e j ∷ ys
cut (y ∷ ys) (suc i) x h e = cut ys i x (le_of_suc-le-suc h) e

-- the lengths of the rests are ordered as those of the lists
shifted : (a b i : ℕ) (c d : ℕ) (r : Ordering) → i ≡ min a b → c + i ≡ a → d + i ≡ b → MatchOrdering r (a < b) (a ≡ b) (b < a) → MatchOrdering r (c < d) (c ≡ d) (d < c)
shifted a b i c d Less m p q h = let l : a < b = h in omega arith
shifted a b i c d Equal m p q h = let l : a ≡ b = h in omega arith
shifted a b i c d Greater m p q h = let l : b < a = h in omega arith

module _ {A B : Type 0} where
  abbrev pub Rest : {X : Type 0} → (List A → List B → X) → List A → List B → ℕ → Type 0
  Rest f xs ys i = f (drop i xs) (drop i ys) ≡ f xs ys

  -- the parts from i on begin with x and y
  pub begun : (xs : List A) (ys : List B) (i : ℕ) (x : A) (y : B) → i < length xs → i < length ys → x ≡ get_or xs i x → y ≡ get_or ys i y
      → {X : Type 0} (f : List A → List B → X) → f (x ∷ drop (i + 1) xs) (y ∷ drop (i + 1) ys) ≡ f (drop i xs) (drop i ys)
  begun xs ys i x y h g e d f =
      let s : i + 1 ≡ suc i = omega arith in
      (λ j. f (x ∷ drop (s j) xs) (y ∷ drop (s j) ys)) ∙ (λ j. f (cut xs i x h e j) (cut ys i y g d j))

  -- where one list is empty the lengths decide
  by_lengths : (R : A → B → Ordering) (us : List A) (vs : List B) (r : Ordering) → min (length us) (length vs) ≡ 0
      → MatchOrdering r (length us < length vs) (length us ≡ length vs) (length vs < length us) → r ≡ slice_cmp R us vs
  by_lengths R [] [] Less m h = absurd (not-suc-le-zero h)
  by_lengths R [] [] Equal m h = refl
  by_lengths R [] [] Greater m h = absurd (not-suc-le-zero h)
  by_lengths R [] (v ∷ vs) Less m h = refl
  by_lengths R [] (v ∷ vs) Equal m h = let e : 0 ≡ suc (length vs) = h in absurd (omega arith)
  by_lengths R [] (v ∷ vs) Greater m h = absurd (not-suc-le-zero h)
  by_lengths R (u ∷ us) [] Less m h = absurd (not-suc-le-zero h)
  by_lengths R (u ∷ us) [] Equal m h = let e : suc (length us) ≡ 0 = h in absurd (omega arith)
  by_lengths R (u ∷ us) [] Greater m h = refl
  by_lengths R (u ∷ us) (v ∷ vs) r m h = let e : min (suc (length us)) (suc (length vs)) ≡ 0 = m in absurd (omega arith)

  module _ (xs : List A) (ys : List B) (i : ℕ) (r : Ordering) (m : i ≡ min (length xs) (length ys)) (h : r ≡ nat_cmp (length xs) (length ys)) where
    -- behind the last place of the shorter list the lengths decide
    pub ended : (R : A → B → Ordering) → r ≡ slice_cmp R (drop i xs) (drop i ys)
    ended R =
        let p = length-drop i xs in
        let q = length-drop i ys in
        by_lengths R (drop i xs) (drop i ys) r (omega arith) (shifted (length xs) (length ys) i (length (drop i xs)) (length (drop i ys)) r m (omega arith) (omega arith) (ranked _ _ r h))
