-- Exponents of any size.
use Rattle.std.proofs.Common.{◌≡◌, ℕ, zero, suc, ◌+◌, ◌-◌, ◌*◌, ◌^◌, ◌<◌, ◌≤◌, min, Bool, true, false, List, [], ◌∷◌, length, refl, sym, ap, ◌∙◌, inl, inr, ◌⊎◌, arith}
use Rattle.std.specs.Prelude.{option_map, Some, None, ℤ, pos, negsuc, neg_ℤ}
use Rattle.std.proofs.lemmas.Int.{ints}
use Rattle.std.proofs.lemmas.Bool.{cases_lt}
use Rattle.std.proofs.Math.Nat.{mul-le-mul_left}
use Rattle.decimal_fix.specs.declared.leading.Leading.{Leading}
use Rattle.decimal_fix.specs.Leading.{IsLeading, cut}
use Rattle.decimal_fix.specs.Rounding.{number, AreDigits, rounded}
use Rattle.decimal_fix.specs.Numerals.{digits, scale}
use Rattle.decimal_fix.specs.Reading.{whole_exponent}
use Rattle.decimal_fix.proofs.RoundingLaws.{nothing_kept, far_left, some_power}

-- ---- an exponent that is cut makes no difference

pub cut_same : (ds : List ℕ) (e : ℤ) (f : ℕ) → AreDigits ds → length ds < 2 ^ 65 → f < 2 ^ 64 → min (rounded (number ds) (scale (cut e) f)) (10 ^ 31) ≡ min (rounded (number ds) (scale e f)) (10 ^ 31)
cut_same ds (pos n) f are long few =
    elim (cases_lt (10 ^ 30) n) [
      | inl big ↦
          let c : min n (10 ^ 30) ≡ 10 ^ 30 = omega (arith, big) in
          let p = n + 15 - f in
          let q = 10 ^ 30 + 15 - f in
          let s1 : scale (pos n) f ≡ pos p = omega (arith, ints, big, few) in
          let s2 : scale (pos (10 ^ 30)) f ≡ pos q = omega (arith, ints, few) in
          ap (λ (z : ℤ). min (rounded (number ds) z) (10 ^ 31)) (ap (λ (k : ℕ). scale (pos k) f) c ∙ s2)
          ∙ (far_left (number ds) q (omega (arith, few)) ∙ sym (far_left (number ds) p (omega (arith, big, few))))
          ∙ ap (λ (z : ℤ). min (rounded (number ds) z) (10 ^ 31)) (sym s1)
      | inr small ↦ let c : min n (10 ^ 30) ≡ n = omega (arith, small) in ap (λ (k : ℕ). min (rounded (number ds) (scale (pos k) f)) (10 ^ 31)) c
    ]
cut_same ds (negsuc n) f are long few =
    elim (cases_lt (10 ^ 30 - 1) n) [
      | inl big ↦
          let c : min n (10 ^ 30 - 1) ≡ 10 ^ 30 - 1 = omega (arith, big) in
          let k = n + f - 15 in
          let l = 10 ^ 30 - 1 + f - 15 in
          let s1 : scale (negsuc n) f ≡ negsuc k = omega (arith, ints, big) in
          let s2 : scale (negsuc (10 ^ 30 - 1)) f ≡ negsuc l = omega (arith, ints) in
          ap (λ (z : ℤ). min (rounded (number ds) z) (10 ^ 31)) (ap (λ (m : ℕ). scale (negsuc m) f) c ∙ s2)
          ∙ ap (λ (x : ℕ). min x (10 ^ 31)) (nothing_kept ds l are (omega (arith, long)) ∙ sym (nothing_kept ds k are (omega (arith, long, big))))
          ∙ ap (λ (z : ℤ). min (rounded (number ds) z) (10 ^ 31)) (sym s1)
      | inr small ↦ let c : min n (10 ^ 30 - 1) ≡ n = omega (arith, small) in ap (λ (k : ℕ). min (rounded (number ds) (scale (negsuc k) f)) (10 ^ 31)) c
    ]

-- ---- the exponent of the digits of a run

at_most : (m n d : ℕ) → n * 10 ^ d ≤ m → m < (n + 1) * 10 ^ d → (0 < d → 10 ^ 32 ≤ n) → min n (10 ^ 30) ≡ min m (10 ^ 30)
at_most m n zero least below full = omega (arith, least, below)
at_most m n (suc d) least below full =
    let big : 10 ^ 32 ≤ n = full (omega arith) in
    let more : n * 1 ≤ n * 10 ^ suc d = mul-le-mul_left n (some_power (suc d)) in
    omega (arith, big, more, least)

-- what the leading digits say of the number is enough
pub capped : (k : Leading) (ds : List ℕ) → IsLeading k ds → min k.number (10 ^ 30) ≡ min (number ds) (10 ^ 30)
capped k ds is = at_most (number ds) k.number k.more is.least is.below k.enough

pub exponent_plus : (ds u : List ℕ) (n : ℕ) → (length ds ≡ 0 → ⊥) → length u ≡ 0 → min n (10 ^ 30) ≡ min (number (digits ds)) (10 ^ 30) → option_map cut (whole_exponent false ds u) ≡ Some (pos (min n (10 ^ 30)))
exponent_plus [] u n some end e = absurd (some refl)
exponent_plus (d ∷ ds) [] n some end e = ap (λ (k : ℕ). Some (pos k)) (sym e)
exponent_plus (d ∷ ds) (c ∷ u) n some end e = absurd cc

neg_cut : (n : ℕ) → cut (neg_ℤ (pos n)) ≡ neg_ℤ (pos (min n (10 ^ 30)))
neg_cut zero = refl
neg_cut (suc n) = let k : min (suc n) (10 ^ 30) ≡ suc (min n (10 ^ 30 - 1)) = omega arith in rw k refl

pub exponent_minus : (ds u : List ℕ) (n : ℕ) → (length ds ≡ 0 → ⊥) → length u ≡ 0 → min n (10 ^ 30) ≡ min (number (digits ds)) (10 ^ 30) → option_map cut (whole_exponent true ds u) ≡ Some (neg_ℤ (pos (min n (10 ^ 30))))
exponent_minus [] u n some end e = absurd (some refl)
exponent_minus (d ∷ ds) [] n some end e = ap (λ (z : ℤ). Some z) (neg_cut (number (digits (d ∷ ds))) ∙ ap (λ (k : ℕ). neg_ℤ (pos k)) (sym e))
exponent_minus (d ∷ ds) (c ∷ u) n some end e = absurd cc

pub exponent_none : (negative : Bool) (ds u : List ℕ) → (length ds ≡ 0) ⊎ (length u ≡ 0 → ⊥) → whole_exponent negative ds u ≡ None
exponent_none negative [] u w = refl
exponent_none negative (d ∷ ds) [] (inl e) = absurd cc
exponent_none negative (d ∷ ds) [] (inr h) = absurd (h refl)
exponent_none negative (d ∷ ds) (c ∷ u) w = refl
