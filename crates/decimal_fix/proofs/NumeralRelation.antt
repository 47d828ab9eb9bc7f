-- What is read as a numeral is spelled so, and what is spelled so is read.
use Rattle.std.proofs.Common.{◌≡◌, ℕ, suc, ◌+◌, ◌<◌, Bool, true, false, cond, eqb, List, [], ◌∷◌, ◌++◌, length, Option, Some, None, refl, sym, ap, ◌∙◌, subst, inl, inr, ◌⊎◌, arith}
use Rattle.std.specs.Prelude.{◌&&◌, ◌||◌, ℤ, pos, neg_ℤ, option_map, MatchOption}
use Rattle.std.specs.List.{prefix_len}
use Rattle.std.specs.Char.{is_ascii_digit}
use Rattle.std.proofs.lemmas.Bool.{eqb-true, cases_Bool}
use Rattle.std.proofs.lemmas.Bool.Decides.{nat_tests}
use Rattle.ifc_base.specs.declared.value.Decimal.{Decimal}
use Rattle.decimal_fix.specs.Rounding.{number}
use Rattle.decimal_fix.specs.Numerals.{Text, digit, digits, is_sign, Digits, Sign, Fraction, Exponent, Numeral, Spells, value}
use Rattle.decimal_fix.specs.Reading.{run, sign, fraction, whole_exponent, exponent_behind, exponent, with_exponent, behind_sign, numeral, reading}

chosen : {A : Type 0} (b : Bool) (x y z : A) → cond b x y ≡ z → ((b ≡ true) × (x ≡ z)) ⊎ ((b ≡ false) × (y ≡ z))
chosen true x y z e = inl (refl, e)
chosen false x y z e = inr (refl, e)

-- ---- runs

run_spelled : (t : Text) → Digits t (digits (run t).0) (run t).1
unfolding run
run_spelled [] = Digits.none [] refl
run_spelled (c ∷ t) =
    elim (cases_Bool (is_ascii_digit c)) [
      | inr h ↦ rw h (Digits.none (c ∷ t) h)
      | inl h ↦ let one : 1 + prefix_len is_ascii_digit t ≡ suc (prefix_len is_ascii_digit t) = omega arith in rw (h, one) (Digits.more c t (digits (run t).0) (run t).1 h (run_spelled t))
    ]

run_only : {t : Text} {ds : List ℕ} {u : Text} → Digits t ds u → (digits (run t).0 ≡ ds) × ((run t).1 ≡ u)
unfolding run
run_only (Digits.none [] longest) = (refl, refl)
run_only (Digits.none (c ∷ t) longest) = rw longest (refl, refl)
run_only (Digits.more c t ds u is rest) =
    let k = run_only rest in
    let one : 1 + prefix_len is_ascii_digit t ≡ suc (prefix_len is_ascii_digit t) = omega arith in
    rw (is, one) (ap (λ (xs : List ℕ). digit c ∷ xs) k.0, k.1)

-- ---- signs

sign_spelled : (t : Text) → Sign t (sign t).0 (sign t).1
unfolding sign
sign_spelled [] = Sign.none [] refl
sign_spelled (c ∷ t) =
    elim (cases_Bool (eqb c 43)) [
      | inl h ↦ rw (h, eqb-true c 43 h) (Sign.plus t)
      | inr h ↦ elim (cases_Bool (eqb c 45)) [
        | inl k ↦ rw (h, k, eqb-true c 45 k) (Sign.minus t)
        | inr k ↦ let no_sign : is_sign c ≡ false = rw (h, k) refl in rw (h, k) (Sign.none (c ∷ t) no_sign)
      ]
    ]

or_false : (a b : Bool) → (a || b) ≡ false → (a ≡ false) × (b ≡ false)
or_false true b e = absurd cc
or_false false b e = (refl, e)

sign_only : {t : Text} {negative : Bool} {u : Text} → Sign t negative u → sign t ≡ (negative, u)
unfolding sign
sign_only (Sign.none [] other) = refl
sign_only (Sign.none (c ∷ t) other) = let k = or_false (eqb c 43) (eqb c 45) other in rw (k.0, k.1) refl
sign_only (Sign.plus t) = refl
sign_only (Sign.minus t) = refl

-- ---- the part behind the point

fraction_spelled : (t : Text) → Fraction t (digits (fraction t).0) (fraction t).1
unfolding fraction
fraction_spelled [] = Fraction.none [] refl
fraction_spelled (c ∷ t) =
    elim (cases_Bool (eqb c 46)) [
      | inr h ↦ rw h (Fraction.none (c ∷ t) h)
      | inl h ↦ rw (h, eqb-true c 46 h) (Fraction.point t (digits (run t).0) (run t).1 (run_spelled t))
    ]

fraction_only : {t : Text} {ds : List ℕ} {u : Text} → Fraction t ds u → (digits (fraction t).0 ≡ ds) × ((fraction t).1 ≡ u)
unfolding fraction
fraction_only (Fraction.none [] other) = (refl, refl)
fraction_only (Fraction.none (c ∷ t) other) = rw other (refl, refl)
fraction_only (Fraction.point t ds u inside) = run_only inside

-- ---- exponents

abbrev number_of : Bool → List ℕ → ℤ
number_of negative ds = cond negative (neg_ℤ (pos (number ds))) (pos (number ds))

some_is : {A : Type 0} (x y : A) → Some x ≡ Some y → x ≡ y
some_is x y e = cc

exponent_by : (c : ℕ) (t s : Text) (negative : Bool) (cs u : Text) (e : ℤ) → (eqb c 69 || eqb c 101) ≡ true → Sign t negative s → Digits s (digits cs) u → whole_exponent negative cs u ≡ Some e → Exponent (c ∷ t) e
exponent_by c t s negative [] u e is sgn ds h = absurd cc
exponent_by c t s negative (d ∷ cs) [] e is sgn ds h =
    subst (λ (x : ℤ). Exponent (c ∷ t) x) (some_is (number_of negative (digits (d ∷ cs))) e h) (Exponent.some c t s negative (digit d) (digits cs) is sgn ds)
exponent_by c t s negative (d ∷ cs) (x ∷ u) e is sgn ds h = absurd cc

exponent_spelled : (t : Text) (e : ℤ) → exponent t ≡ Some e → Exponent t e
unfolding exponent
exponent_spelled [] e h = subst (λ (x : ℤ). Exponent [] x) (some_is (pos 0) e h) Exponent.none
exponent_spelled (c ∷ t) e h =
    elim (chosen (eqb c 69 || eqb c 101) (exponent_behind (sign t)) None (Some e) h) [
      | inl k ↦ exponent_by c t (sign t).1 (sign t).0 (run (sign t).1).0 (run (sign t).1).1 e k.0 (sign_spelled t) (run_spelled (sign t).1) k.1
      | inr k ↦ let wrong = k.1 in absurd cc
    ]

whole_by : (negative : Bool) (cs u : Text) (d : ℕ) (ds : List ℕ) → digits cs ≡ d ∷ ds → u ≡ [] → whole_exponent negative cs u ≡ Some (number_of negative (d ∷ ds))
whole_by negative [] u d ds e end = absurd cc
whole_by negative (c ∷ cs) [] d ds e end = ap (λ (xs : List ℕ). Some (number_of negative xs)) e
whole_by negative (c ∷ cs) (x ∷ u) d ds e end = absurd cc

exponent_only : {t : Text} {e : ℤ} → Exponent t e → exponent t ≡ Some e
unfolding exponent
exponent_only Exponent.none = refl
exponent_only (Exponent.some c t u negative d ds is sgn inside) =
    let k = run_only inside in
    rw (is, sign_only sgn) (whole_by negative (run u).0 (run u).1 d ds k.0 k.1)

-- ---- numerals

with_exponent_is : (negative : Bool) (whole part : Text) (o : Option ℤ) (n : Numeral) → with_exponent negative whole part o ≡ Some n
    → (e : ℤ) × (o ≡ Some e) × (record { negative = negative; whole = digits whole; fraction = digits part; exponent = e } ≡ n)
with_exponent_is negative whole part None n h = absurd cc
with_exponent_is negative whole part (Some e) n h = (e, refl, some_is (record { negative = negative; whole = digits whole; fraction = digits part; exponent = e }) n h)

some_digit : (a b : List ℕ) → (eqb (length a) 0 && eqb (length b) 0) ≡ false → 0 < length (digits a ++ digits b)
some_digit [] [] e = absurd cc
some_digit [] (x ∷ b) e = omega arith
some_digit (x ∷ a) b e = omega arith

pub numeral_spelled : (t : Text) (n : Numeral) → numeral t ≡ Some n → Spells t n
unfolding numeral
numeral_spelled t n h =
    let s = sign t in
    let w = run s.1 in
    let p = fraction w.1 in
    elim (chosen (eqb (length w.0) 0 && eqb (length p.0) 0) None (with_exponent s.0 w.0 p.0 (exponent p.1)) (Some n) h) [
      | inl k ↦ let wrong = k.1 in absurd cc
      | inr k ↦
          let e = with_exponent_is s.0 w.0 p.0 (exponent p.1) n k.1 in
          subst (λ (x : Numeral). Spells t x) e.2 (record {
            behind_sign = s.1;
            behind_whole = w.1;
            behind_fraction = p.1;
            sign = sign_spelled t;
            whole = run_spelled s.1;
            fraction = fraction_spelled w.1;
            some = some_digit w.0 p.0 k.0;
            exponent = exponent_spelled p.1 e.0 e.1;
          })
    ]

nonzero : (n : ℕ) → eqb (suc n) 0 ≡ false
nonzero n = grind (arith, nat_tests)

not_none : (a b : List ℕ) → 0 < length (digits a ++ digits b) → (eqb (length a) 0 && eqb (length b) 0) ≡ false
not_none [] [] lt = absurd (omega arith)
not_none [] (x ∷ b) lt = nonzero (length b)
not_none (x ∷ a) b lt = rw (nonzero (length a)) refl

pub numeral_only : (t : Text) (n : Numeral) → Spells t n → numeral t ≡ Some n
unfolding numeral
numeral_only t n r =
    let s = sign_only r.sign in
    let w = run_only r.whole in
    let at : fraction (run r.behind_sign).1 ≡ fraction r.behind_whole = ap fraction w.1 in
    let p = fraction_only r.fraction in
    let e = exponent_only r.exponent in
    let digits2 : digits (fraction (run r.behind_sign).1).0 ≡ n.fraction = ap (λ (x : Text × Text). digits x.0) at ∙ p.0 in
    let rest : (fraction (run r.behind_sign).1).1 ≡ r.behind_fraction = ap (λ (x : Text × Text). x.1) at ∙ p.1 in
    let some : 0 < length (digits (run r.behind_sign).0 ++ digits (fraction (run r.behind_sign).1).0) = rw (w.0, digits2) r.some in
    ap behind_sign s ∙ rw (not_none (run r.behind_sign).0 (fraction (run r.behind_sign).1).0 some, rest, e, w.0, digits2) refl

-- ---- for the contract

mapped : (o : Option Numeral) (d : Decimal) → option_map value o ≡ Some d → (n : Numeral) × (o ≡ Some n) × (value n ≡ d)
mapped None d e = absurd cc
mapped (Some n) d e = (n, refl, some_is (value n) d e)

pub found_is : (t : Text) (r : Option Decimal) → r ≡ reading t → MatchOption r ((n : Numeral) → Spells t n → ⊥) (λ d. (n : Numeral) × Spells t n × (value n ≡ d))
unfolding reading
found_is t None e = λ n s. let wrong = e ∙ ap (option_map value) (numeral_only t n s) in absurd cc
found_is t (Some d) e = let m = mapped (numeral t) d (sym e) in (m.0, numeral_spelled t m.0 m.1, m.2)
