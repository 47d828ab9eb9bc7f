-- What a text is read as.
use Rattle.std.proofs.Common.{◌≡◌, ℕ, zero, suc, ◌+◌, ◌^◌, ◌<◌, ◌≤◌, min, Bool, true, false, [], ◌∷◌, ◌++◌, length, length-append, take, refl, sym, ap, ◌∙◌, inl, inr, ◌⊎◌, eqb, arith}
use Rattle.std.specs.Prelude.{nat_le, nat_abs, option_map, Option, Some, None, IfSome, ◌&&◌, ℤ}
use Rattle.std.specs.List.{prefix_len}
use Rattle.std.specs.Char.{is_ascii_digit}
use Rattle.std.proofs.lemmas.List.{length-map}
use Rattle.std.proofs.lemmas.List.Elements.{All-append, All-nil, All-cons}
use Rattle.std.proofs.lemmas.Bool.{cases_lt, cases_Bool}
use Rattle.std.proofs.lemmas.Bool.Decides.{nat_tests}
use Rattle.ifc_base.specs.declared.value.Decimal.{Decimal}
use Rattle.decimal_fix.specs.Leading.{cut}
use Rattle.decimal_fix.specs.Rounding.{number, AreDigits, rounded}
use Rattle.decimal_fix.specs.Numerals.{Text, Numeral, digit, digits, scale, signed, decimal_of, value, magnitude}
use Rattle.decimal_fix.specs.Reading.{run, sign, fraction, exponent, numeral, reading, IsRead}
use Rattle.decimal_fix.proofs.ExponentLaws.{cut_same}

-- ---- the digits of a run are digits

digit_small : (c : ℕ) → is_ascii_digit c ≡ true → digit c ≤ 9
digit_small c is = grind (arith, nat_tests)

pub run_digits : (t : Text) → AreDigits (digits (run t).0)
unfolding run
run_digits [] = All-nil (λ d. d ≤ 9)
run_digits (c ∷ t) =
    elim (cases_Bool (is_ascii_digit c)) [
      | inr h ↦ rw h (All-nil (λ d. d ≤ 9))
      | inl h ↦ let one : 1 + prefix_len is_ascii_digit t ≡ suc (prefix_len is_ascii_digit t) = omega arith in rw (h, one) (All-cons (λ d. d ≤ 9) (digit c) (digits (take (prefix_len is_ascii_digit t) t)) (digit_small c h) (run_digits t))
    ]

pub fraction_digits : (t : Text) → AreDigits (digits (fraction t).0)
unfolding fraction
fraction_digits [] = All-nil (λ d. d ≤ 9)
fraction_digits (c ∷ t) =
    elim (cases_Bool (eqb c 46)) [
      | inr h ↦ rw h (All-nil (λ d. d ≤ 9))
      | inl h ↦ rw h (run_digits t)
    ]

-- ---- what the code reads

-- a number past the limit is beyond, whatever it is
pub decimal_cut : (negative : Bool) (u : ℕ) → decimal_of negative (min u (10 ^ 31)) ≡ decimal_of negative u
decimal_cut negative u =
    elim (cases_lt u (10 ^ 31)) [
      | inl lt ↦ let same : min u (10 ^ 31) ≡ u = omega (arith, lt) in rw same refl
      | inr le ↦ let same : min u (10 ^ 31) ≡ 10 ^ 31 = omega (arith, le) in
          let yes : nat_le (10 ^ 31) u ≡ true = grind (arith, nat_tests, le) in
          ap (decimal_of negative) same ∙ rw yes refl
    ]

is_cut : (o : Option ℤ) (e : ℤ) → option_map cut o ≡ Some e → (x : ℤ) × (o ≡ Some x) × (cut x ≡ e)
is_cut None e is = absurd cc
is_cut (Some x) e is = (x, refl, cc)

none_read : (a b : ℕ) → ((a ≡ 0) × (b ≡ 0 → ⊥)) ⊎ (a ≡ 0 → ⊥) → a ≡ 0 → b ≡ 0 → ⊥
none_read a b (inl some) h k = some.1 k
none_read a b (inr some) h k = some h

not_both : (a b : ℕ) → (a ≡ 0 → b ≡ 0 → ⊥) → (eqb a 0 && eqb b 0) ≡ false
not_both zero zero h = absurd (h refl refl)
not_both zero (suc b) h = grind (arith, nat_tests)
not_both (suc a) b h = grind (arith, nat_tests)

numeral_is : (t r1 r2 r3 : Text) (negative : Bool) (e : ℤ) → (negative, r1) ≡ sign t → r2 ≡ (run r1).1 → r3 ≡ (fraction r2).1 → (length (run r1).0 ≡ 0 → length (fraction r2).0 ≡ 0 → ⊥) → exponent r3 ≡ Some e
    → numeral t ≡ Some (record { negative = negative; whole = digits (run r1).0; fraction = digits (fraction r2).0; exponent = e })
unfolding numeral
numeral_is t r1 r2 r3 negative e e1 e2 e3 some e4 = rw (← e1, ← e2, ← e3, not_both (length (run r1).0) (length (fraction r2).0) some, e4) refl

-- the parts that the code reads one after another, with the exponent cut, are those of the numeral
pub reads : (t r1 r2 r3 : Text) (negative : Bool) (e : ℤ) (a b m : ℕ) → (negative, r1) ≡ sign t → r2 ≡ (run r1).1 → r3 ≡ (fraction r2).1
    → a ≡ length (run r1).0 → b ≡ length (fraction r2).0 → a < 2 ^ 64 → b < 2 ^ 64 → ((a ≡ 0) × (b ≡ 0 → ⊥)) ⊎ (a ≡ 0 → ⊥)
    → Some e ≡ option_map cut (exponent r3) → m ≡ min (rounded (number (digits (run r1).0 ++ digits (fraction r2).0)) (scale e b)) (10 ^ 31) → Some (decimal_of negative m) ≡ reading t
unfolding reading
reads t r1 r2 r3 negative e a b m e1 e2 e3 a-is b-is long few some e4 is =
    let w = (run r1).0 in
    let p = (fraction r2).0 in
    let x = is_cut (exponent r3) e (sym e4) in
    let n = numeral_is t r1 r2 r3 negative x.0 e1 e2 e3 (λ h k. none_read a b some (a-is ∙ h) (b-is ∙ k)) x.1 in
    let all : AreDigits (digits w ++ digits p) = All-append (λ d. d ≤ 9) (digits w) (digits p) (run_digits r1) (fraction_digits r2) in
    let size : length (digits w ++ digits p) < 2 ^ 65 = omega (arith, length-append (digits w) (digits p), length-map w digit, length-map p digit, a-is, b-is, long, few) in
    let places : b ≡ length (digits p) = b-is ∙ sym (length-map p digit) in
    let units : m ≡ min (rounded (number (digits w ++ digits p)) (scale x.0 (length (digits p)))) (10 ^ 31) =
    is ∙ ap (λ (z : ℤ). min (rounded (number (digits w ++ digits p)) (scale z b)) (10 ^ 31)) (sym x.2) ∙ cut_same (digits w ++ digits p) x.0 b all size few
    ∙ ap (λ (k : ℕ). min (rounded (number (digits w ++ digits p)) (scale x.0 k)) (10 ^ 31)) places in
    ap (λ (u : ℕ). Some (decimal_of negative u)) units ∙ ap (λ (d : Decimal). Some d) (decimal_cut negative (rounded (number (digits w ++ digits p)) (scale x.0 (length (digits p))))) ∙ ap (option_map value) (sym n)

-- ---- what is read is in range

signed_size : (negative : Bool) (u : ℕ) → nat_abs (signed negative u) ≡ u
signed_size true zero = refl
signed_size true (suc u) = refl
signed_size false u = refl

decimal_in_range : (negative : Bool) (u : ℕ) → IsRead (decimal_of negative u)
decimal_in_range negative u =
    elim (cases_lt u (10 ^ 31)) [
      | inl lt ↦ let within : nat_le (10 ^ 31) u ≡ false = grind (arith, nat_tests, lt) in rw (within, signed_size negative u) lt
      | inr le ↦ let past : nat_le (10 ^ 31) u ≡ true = grind (arith, nat_tests, le) in rw past (signed_size negative 1)
    ]

read_in_range : (o : Option Numeral) → IfSome (option_map value o) IsRead
read_in_range None = tt
read_in_range (Some n) = decimal_in_range n.negative (magnitude n)

pub in_range_is : (t : Text) (r : Option Decimal) → r ≡ reading t → IfSome r IsRead
unfolding reading
in_range_is t r e = rw e (read_in_range (numeral t))
