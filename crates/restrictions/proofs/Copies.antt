-- Joins of so many texts: of more texts than characters some are empty, and these may be left out.
use Rattle.std.proofs.Common.{◌≡◌, ℕ, zero, suc, ◌+◌, ◌-◌, ◌≤◌, true, ◌&&◌, [], ◌∷◌, ◌++◌, ◌⊎◌, inl, inr, length, refl, sym, ap, subst, arith, length-append}
use Rattle.std.specs.Prelude.{Option, Some, None, IfSome, nat_le}
use Rattle.std.proofs.lemmas.Bool.{leb-true, le-leb}
use Rattle.std.proofs.lemmas.Bool.Decides.{leb_tells}
use Rattle.pattern_tree.specs.Matching.{Text, Permits}
use Rattle.pattern_tree.specs.declared.tree.Times.{Times}
use Rattle.restrictions.specs.Matching.{Test, joins, repeats, permits, is_at_most}
use Rattle.restrictions.proofs.Tests.{Tests, and_parts, and_made, number_found, number_tried}
use Rattle.restrictions.proofs.Splits.{Split, splits_so, empty_so}

-- the join of so many texts
abbrev pub Power : (Text → Type 0) → ℕ → Text → Type 0
Power P zero t = t ≡ []
Power P (suc n) t = Split P (Power P n) t

pub joins_so : (f : Test) (P : Text → Type 0) → Tests f P → (n : ℕ) → Tests (joins n f) (Power P n)
joins_so f P h zero = empty_so
joins_so f P h (suc n) = splits_so f (joins n f) P (Power P n) h (joins_so f P h n)

-- the join of at most as many texts as there are characters; where some were left out, the empty text is one of them
record Shrunk (P : Text → Type 0) (n : ℕ) (t : Text) : Type 0 where
  pub number : ℕ
  pub texts : Power P number t
  pub few : number ≤ length t
  pub fits : number ≤ n
  pub rest : (number ≡ n) ⊎ P []

with_first : (P : Text → Type 0) (n : ℕ) (t front back : Text) → t ≡ front ++ back → P front → Shrunk P n back → Shrunk P (suc n) t
with_first P n t [] back e h s = record {
  number = s.number;
  texts = subst (Power P s.number) (sym e) s.texts;
  few = subst (λ u. s.number ≤ length u) (sym e) s.few;
  fits = omega (arith, s.fits);
  rest = inr h;
}
with_first P n t (c ∷ front) back e h s = record {
  number = suc s.number;
  texts = record { front = c ∷ front; back = back; parts = e; first = h; second = s.texts };
  few = subst (λ u. suc s.number ≤ length u) (sym e) (omega (arith, s.few, length-append front back));
  fits = omega (arith, s.fits);
  rest = elim s.rest [ inl same ↦ inl (ap suc same) | inr empty ↦ inr empty ];
}

shrunk : (P : Text → Type 0) (n : ℕ) (t : Text) → Power P n t → Shrunk P n t
shrunk P zero t e = record { number = zero; texts = e; few = omega arith; fits = omega arith; rest = inl refl }
shrunk P (suc n) t h = with_first P n t h.front h.back h.parts h.first (shrunk P n h.back h.second)

-- where the empty text is one of them, there may be more
padded : (P : Text → Type 0) (more m k : ℕ) (t : Text) → k ≡ more + m → P [] → Power P m t → Power P k t
padded P zero m k t e p h = let same : m ≡ k = omega arith in subst (λ n. Power P n t) same h
padded P (suc more) m zero t e p h = absurd (omega arith)
padded P (suc more) m (suc k) t e p h =
    record { front = []; back = t; parts = refl; first = p; second = padded P more m k t (omega arith) p h }

-- ---- permitted numbers

at_most_is : (most : Option ℕ) (n : ℕ) → is_at_most most n ≡ true → IfSome most (λ m. n ≤ m)
at_most_is None n e = tt
at_most_is (Some m) n e = leb-true n m e

is_at_most_so : (most : Option ℕ) (n : ℕ) → IfSome most (λ m. n ≤ m) → is_at_most most n ≡ true
is_at_most_so None n h = refl
is_at_most_so (Some m) n h = le-leb n m h

permits_is : (times : Times) (n : ℕ) → permits times n ≡ true → Permits times n
permits_is times n e =
    let both = and_parts (nat_le times.least n) (is_at_most times.most n) e in
    record { enough = leb-true times.least n both.0; few = at_most_is times.most n both.1 }

permits_so : (times : Times) (n : ℕ) → Permits times n → permits times n ≡ true
permits_so times n h = and_made (nat_le times.least n) (is_at_most times.most n) (le-leb times.least n h.enough) (is_at_most_so times.most n h.few)

fewer : (most : Option ℕ) (k n : ℕ) → k ≤ n → IfSome most (λ m. n ≤ m) → IfSome most (λ m. k ≤ m)
fewer None k n e h = tt
fewer (Some m) k n e h = omega arith

-- ---- a permitted number of texts

pub record Counted (P : Text → Type 0) (times : Times) (t : Text) : Type 0 where
  pub number : ℕ
  pub permitted : Permits times number
  pub texts : Power P number t

-- so many texts, of which not too many are empty ones beyond the least number
record Enough (P : Text → Type 0) (times : Times) (t : Text) : Type 0 where
  pub counted : Counted P times t
  pub few : counted.number ≤ times.least + length t

up_to_least : (P : Text → Type 0) (times : Times) (n : ℕ) (t : Text) → Permits times n → (s : Shrunk P n t) → P []
    → (times.least ≤ s.number) ⊎ (s.number ≤ times.least) → Enough P times t
up_to_least P times n t h s p (inl over) = record {
  counted = record { number = s.number; permitted = record { enough = over; few = fewer times.most s.number n s.fits h.few }; texts = s.texts };
  few = omega (arith, s.few);
}
up_to_least P times n t h s p (inr under) =
    let gap = times.least - s.number in
    let is_gap : times.least ≡ gap + s.number = omega arith in
    record {
      counted = record {
        number = times.least;
        permitted = record { enough = omega arith; few = fewer times.most times.least n h.enough h.few };
        texts = padded P gap s.number times.least t is_gap p s.texts;
      };
      few = omega arith;
    }

either_way : (a b : ℕ) → (a ≤ b) ⊎ (b ≤ a)
either_way a b = elim (leb_tells a b) [ inl h ↦ inl h.1 | inr h ↦ inr (omega (arith, h.1)) ]

enough : (P : Text → Type 0) (times : Times) (t : Text) → Counted P times t → Enough P times t
enough P times t h =
    let s = shrunk P h.number t h.texts in
    elim s.rest [
      | inl same ↦ record { counted = h; few = omega (arith, s.few, same) }
      | inr p ↦ up_to_least P times h.number t h.permitted s p (either_way times.least s.number)
    ]

pub repeats_so : (f : Test) (P : Text → Type 0) (times : Times) → Tests f P → Tests (repeats times f) (Counted P times)
repeats_so f P times h = record {
  sound = λ t e.
      let n = number_found (λ k. permits times k && joins k f t) 0 (times.least + length t + 1) e in
      let both = and_parts (permits times n.0) (joins n.0 f t) n.1 in
      record { number = n.0; permitted = permits_is times n.0 both.0; texts = (joins_so f P h n.0).sound t both.1 };
  complete = λ t c.
      let s = enough P times t c in
      let k = s.counted.number in
      number_tried (λ n. permits times n && joins n f t) 0 (times.least + length t + 1) k (omega arith) (omega (arith, s.few))
      (and_made (permits times k) (joins k f t) (permits_so times k s.counted.permitted) ((joins_so f P h k).complete t s.counted.texts));
}
