-- Texts that split, and joins of so many texts.
use Rattle.std.proofs.Common.{◌≡◌, ◌<◌, ℕ, zero, suc, true, false, [], ◌∷◌, ◌++◌, ◌⊎◌, inl, inr, refl, sym, subst, arith}
use Rattle.pattern_tree.specs.Matching.{Text}
use Rattle.pattern_tree.proofs.Expressions.{Split, Power}

-- the parts of the empty text
pub record NoParts (front back : Text) : Type 0 where
  pub front_is : front ≡ []
  pub back_is : back ≡ []

pub no_parts : (front back : Text) → [] ≡ front ++ back → NoParts front back
no_parts [] back e = record { front_is = refl; back_is = sym e }
no_parts (c ∷ front) back e = absurd (cc)

-- both parts of the empty text
pub nil_split : {P Q : Text → Type 0} → Split P Q [] → P [] × Q []
nil_split {P} {Q} h =
    let parts = no_parts h.front h.back h.parts in (subst P parts.front_is h.first, subst Q parts.back_is h.second)

-- the first part of a text with a first character is empty, or begins with it
pub cut : (P Q : Text → Type 0) (c : ℕ) (s front back : Text) → (c ∷ s) ≡ front ++ back → P front → Q back → (P [] × Q (c ∷ s)) ⊎ Split (λ u. P (c ∷ u)) Q s
cut P Q c s [] back e first second = inl (first, subst Q (sym e) second)
cut P Q c s (d ∷ front) back e first second =
    let head : d ≡ c = cc in
    let tail : s ≡ front ++ back = cc in
    inr (record { front = front; back = back; parts = tail; first = subst (λ x. P (x ∷ front)) head first; second = second })

pub cut_split : (P Q : Text → Type 0) (c : ℕ) (s : Text) → Split P Q (c ∷ s) → (P [] × Q (c ∷ s)) ⊎ Split (λ u. P (c ∷ u)) Q s
cut_split P Q c s h = cut P Q c s h.front h.back h.parts h.first h.second

-- the first text in a join that isn't empty
pub record Begun (P : Text → Type 0) (c : ℕ) (s : Text) : Type 0 where
  pub front : Text
  pub back : Text
  pub parts : s ≡ front ++ back
  pub first : P (c ∷ front)
  pub number : ℕ
  pub others : Power P number back

pub begun : (P : Text → Type 0) (k : ℕ) (c : ℕ) (s : Text) → Power P k (c ∷ s) → Begun P c s
begun P zero c s h = absurd (cc)
begun P (suc k) c s h =
    elim (cut_split P (Power P k) c s h) [
      | inl a ↦ begun P k c s a.1
      | inr b ↦ record { front = b.front; back = b.back; parts = b.parts; first = b.first; number = k; others = b.second }
    ]

-- a join that is empty joins empty texts
pub nil_power : (P : Text → Type 0) (k : ℕ) → 0 < k → Power P k [] → P []
nil_power P zero h p = absurd (omega arith)
nil_power P (suc k) h p = (nil_split p).0

pub any_number : (n : ℕ) → true ≡ false → 0 < n
any_number n e = absurd (cc)
