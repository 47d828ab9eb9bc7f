-- What is written reads as the same decimal.
use Rattle.std.proofs.Common.{◌≡◌, ℕ, zero, suc, ◌+◌, ◌-◌, ◌*◌, ◌/◌, ◌%◌, ◌^◌, ◌<◌, ◌≤◌, Bool, true, false, [], ◌∷◌, ◌++◌, length, length-append, Some, refl, sym, ap, ◌∙◌, subst, inl, inr, arith}
use Rattle.std.specs.Prelude.{nat_abs, nat_le, option_map, ℤ, pos, negsuc}
use Rattle.std.specs.Char.{is_ascii_digit}
use Rattle.std.specs.List.{AllPass}
use Rattle.std.specs.Fmt.{decimal}
use Rattle.std.specs.Str.{IsAscii}
use Rattle.std.proofs.lemmas.Bool.{cases_lt}
use Rattle.std.proofs.lemmas.Bool.Decides.{nat_tests}
use Rattle.std.proofs.lemmas.Fmt.{decimal_by_steps_wide}
use Rattle.std.proofs.lemmas.List.{append-nil, length-map, map-append}
use Rattle.std.proofs.lemmas.List.Elements.{All-nil, All-cons, All-head, All-tail, All-append, All-weaker}
use Rattle.std.proofs.lemmas.Int.{ints}
use Rattle.std.proofs.lemmas.Nat.{pow-add}
use Rattle.std.proofs.lemmas.Str.{IsAscii-append}
use Rattle.std.proofs.lemmas.Str.Ascii.{encodes-IsAscii, IsAscii-cons, IsAscii-from_all}
use Rattle.ifc_base.specs.declared.value.Decimal.{Decimal}
use Rattle.decimal_fix.specs.Rounding.{number, rounded}
use Rattle.decimal_fix.specs.Numerals.{Text, digit, digits, begins, is_sign, Digits, Sign, Fraction, Exponent, Numeral, Spells, signed, decimal_of, scale, value}
use Rattle.decimal_fix.specs.Reading.{run, sign, fraction, exponent, numeral, reading, in_range}
use Rattle.decimal_fix.specs.Writing.{places, without_zeros, minus, past, written_size, written_as, written}
use Rattle.decimal_fix.specs.Laws.{ReadsBack}
use Rattle.decimal_fix.proofs.NumeralRelation.{numeral_only}
use Rattle.decimal_fix.proofs.RoundingLaws.{some_power, number_from, number_append, number_push}
use Rattle.decimal_fix.proofs.WritingLaws.{IsAscii-minus, IsAscii-past, first_digit, one_more, no_more}

abbrev AreGlyphs : Text → Type 0
AreGlyphs t = AllPass is_ascii_digit t

glyph : (d : ℕ) → d < 10 → is_ascii_digit (48 + d) ≡ true
glyph d lt = grind (arith, nat_tests)

-- ---- the whole part

record Writes (n : ℕ) (t : Text) : Type 0 where
  glyphs : AreGlyphs t
  some : 0 < length t
  number_is : number (digits t) ≡ n

one_glyph : (n : ℕ) → n < 10 → Writes n ((48 + n) ∷ [])
one_glyph n lt = record {
  glyphs = All-cons (λ c. is_ascii_digit c ≡ true) (48 + n) [] (glyph n lt) (All-nil (λ c. is_ascii_digit c ≡ true));
  some = omega arith;
  number_is = omega arith;
}

more_glyphs : (n : ℕ) (t : Text) → 10 ≤ n → Writes (n / 10) t → Writes n (t ++ (48 + n % 10) ∷ [])
more_glyphs n t le w =
    let last = one_glyph (n % 10) (omega arith) in
    record {
      glyphs = All-append (λ c. is_ascii_digit c ≡ true) t ((48 + n % 10) ∷ []) w.glyphs last.glyphs;
      some = omega (arith, length-append t ((48 + n % 10) ∷ []));
      number_is = rw (map-append digit t ((48 + n % 10) ∷ []), number_push (digits t) (48 + n % 10 - 48), w.number_is) (omega arith);
    }

whole_written : (n : ℕ) → n < 10 ^ 64 → Writes n (decimal n)
whole_written n lt = decimal_by_steps_wide Writes one_glyph more_glyphs n lt

-- ---- the fraction

record WritesFraction (k n : ℕ) (t : Text) : Type 0 where
  glyphs : AreGlyphs t
  short : length t ≤ k
  number_is : number (digits t) * 10 ^ (k - length t) ≡ n

fraction_part : (d u v w x r n : ℕ) → u * v ≡ w → x * v ≡ r → w * d + r ≡ n → (d * u + x) * v ≡ n
fraction_part d u v w x r n a b e =
    let left : d * (u * v) ≡ d * w = ap (λ (y : ℕ). d * y) a in
    omega (arith, left, b, e)

fraction_written : (k n : ℕ) → n < 10 ^ k → WritesFraction k n (without_zeros (places k n))
fraction_written zero n lt =
    let none : n ≡ 0 = omega (arith, lt) in
    rw (none, no_more 0) (record { glyphs = All-nil (λ c. is_ascii_digit c ≡ true); short = omega arith; number_is = refl })
fraction_written (suc k) n lt =
    elim (cases_lt 0 n) [
      | inr le ↦
          let none : n ≡ 0 = omega (arith, le) in
          rw (none, no_more (suc k)) (record { glyphs = All-nil (λ c. is_ascii_digit c ≡ true); short = omega arith; number_is = omega arith })
      | inl some ↦
          let u = some_power k in
          let t = without_zeros (places k (n % 10 ^ k)) in
          let d = n / 10 ^ k in
          let rest = fraction_written k (n % 10 ^ k) (omega (arith, u)) in
          let is : 10 ^ k * d + n % 10 ^ k ≡ n = omega (arith, u) in
          let digit_is : 48 + d - 48 ≡ d = omega arith in
          let long : length (digits t) ≡ length t = length-map t digit in
          let number_of : number (digits ((48 + d) ∷ t)) ≡ d * 10 ^ length t + number (digits t) =
          let first : 10 * 0 + (48 + d - 48) ≡ d = omega arith in
          number_from (digits t) (10 * 0 + (48 + d - 48)) ∙ ap (λ (y : ℕ). y * 10 ^ length (digits t) + number (digits t)) first ∙ ap (λ (y : ℕ). d * 10 ^ y + number (digits t)) long in
          let parts : length t + (k - length t) ≡ k = omega (arith, rest.short) in
          let wide : 10 ^ length t * 10 ^ (k - length t) ≡ 10 ^ k = sym (pow-add 10 (length t) (k - length t)) ∙ ap (λ (y : ℕ). 10 ^ y) parts in
          let places_left : suc k - length ((48 + d) ∷ t) ≡ k - length t = omega arith in
          rw (one_more k n lt (λ e. omega (arith, e, some))) (record {
            glyphs = All-cons (λ c. is_ascii_digit c ≡ true) (48 + d) t (glyph d (first_digit n k lt)) rest.glyphs;
            short = omega (arith, rest.short);
            number_is = rw (number_of, places_left) (fraction_part d (10 ^ length t) (10 ^ (k - length t)) (10 ^ k) (number (digits t)) (n % 10 ^ k) n wide rest.number_is is);
          })
    ]

-- ---- the numeral that is written

run_of : (t u : Text) → AreGlyphs t → begins is_ascii_digit u ≡ false → Digits (t ++ u) (digits t) u
run_of [] u all other = Digits.none u other
run_of (c ∷ t) u all other =
    Digits.more c (t ++ u) (digits t) u (All-head (λ c. is_ascii_digit c ≡ true) c t all) (run_of t u (All-tail (λ c. is_ascii_digit c ≡ true) c t all) other)

no_sign : (c : ℕ) → is_ascii_digit c ≡ true → is_sign c ≡ false
no_sign c is = grind (arith, nat_tests)

unsigned : (t u : Text) → AreGlyphs t → 0 < length t → begins is_sign (t ++ u) ≡ false
unsigned [] u all some = absurd (omega (arith, some))
unsigned (c ∷ t) u all some = no_sign c (All-head (λ c. is_ascii_digit c ≡ true) c t all)

abbrev is_negative : ℤ → Bool
is_negative (pos n) = false
is_negative (negsuc n) = true

signed_minus : (z : ℤ) (t u : Text) → AreGlyphs t → 0 < length t → Sign (minus z ++ (t ++ u)) (is_negative z) (t ++ u)
signed_minus (pos n) t u all some = Sign.none (t ++ u) (unsigned t u all some)
signed_minus (negsuc n) t u all some = Sign.minus (t ++ u)

abbrev numeral_written : ℤ → Text → Text → Numeral
numeral_written z q f = record { negative = is_negative z; whole = digits q; fraction = digits f; exponent = pos 0 }

spelled : (z : ℤ) (q f : Text) → AreGlyphs q → 0 < length q → AreGlyphs f → Spells (minus z ++ (q ++ (46 ∷ f))) (numeral_written z q f)
spelled z q f whole some part =
    let long : length (digits q ++ digits f) ≡ length q + length f = simp (length-append, length-map) in
    let all = run_of f [] part refl in
    record {
      behind_sign = q ++ (46 ∷ f);
      behind_whole = 46 ∷ f;
      behind_fraction = [];
      sign = signed_minus z q (46 ∷ f) whole some;
      whole = run_of q (46 ∷ f) whole refl;
      fraction = Fraction.point f (digits f) [] (subst (λ (t : Text). Digits t (digits f) []) (append-nil f) all);
      some = omega (arith, long, some);
      exponent = Exponent.none;
    }

signed_back : (z : ℤ) → signed (is_negative z) (nat_abs z) ≡ z
signed_back (pos n) = refl
signed_back (negsuc n) = refl

-- the size of the numeral that is written
size_back : (n : ℕ) (q f : Text) → Writes (n / 10 ^ 15) q → WritesFraction 15 (n % 10 ^ 15) f → rounded (number (digits q ++ digits f)) (scale (pos 0) (length (digits f))) ≡ n
size_back n q f whole part =
    let long : length (digits f) ≡ length f = length-map f digit in
    let at : scale (pos 0) (length (digits f)) ≡ pos (15 - length f) = omega (arith, ints, long, part.short) in
    let all : number (digits q ++ digits f) ≡ (n / 10 ^ 15) * 10 ^ length f + number (digits f) =
    number_append (digits q) (digits f) ∙ ap (λ (y : ℕ). y * 10 ^ length (digits f) + number (digits f)) whole.number_is ∙ ap (λ (y : ℕ). (n / 10 ^ 15) * 10 ^ y + number (digits f)) long in
    let parts : length f + (15 - length f) ≡ 15 = omega (arith, part.short) in
    let wide : 10 ^ length f * 10 ^ (15 - length f) ≡ 10 ^ 15 = sym (pow-add 10 (length f) (15 - length f)) ∙ ap (λ (y : ℕ). 10 ^ y) parts in
    rw (at, all) (fraction_part (n / 10 ^ 15) (10 ^ length f) (10 ^ (15 - length f)) (10 ^ 15) (number (digits f)) (n % 10 ^ 15) n wide part.number_is (omega arith))

known : (z : ℤ) → nat_abs z < 10 ^ 31 → decimal_of (is_negative z) (nat_abs z) ≡ record { units = z; beyond = false }
known z lt =
    let within : nat_le (10 ^ 31) (nat_abs z) ≡ false = grind (arith, nat_tests, lt) in
    rw within (ap (λ (u : ℤ). record { units = u; beyond = false }) (signed_back z))

units_back : (z : ℤ) → nat_abs z < 10 ^ 31 → reading (minus z ++ written_size (nat_abs z)) ≡ Some (record { units = z; beyond = false })
unfolding reading written_size
units_back z lt =
    let n = nat_abs z in
    let q = decimal (n / 10 ^ 15) in
    let f = without_zeros (places 15 (n % 10 ^ 15)) in
    let whole = whole_written (n / 10 ^ 15) (omega (arith, lt)) in
    let part = fraction_written 15 (n % 10 ^ 15) (omega arith) in
    let read = numeral_only (minus z ++ (q ++ (46 ∷ f))) (numeral_written z q f) (spelled z q f whole.glyphs whole.some part.glyphs) in
    ap (option_map value) read
    ∙ ap (λ (u : ℕ). Some (decimal_of (is_negative z) u)) (size_back n q f whole part)
    ∙ ap (λ (d : Decimal). Some d) (known z lt)

-- ---- what is Beyond

past_back : reading past ≡ Some (record { units = pos 1; beyond = true })
unfolding reading numeral run sign fraction exponent
past_back = refl

minus_past_back : reading (45 ∷ past) ≡ Some (record { units = negsuc 0; beyond = true })
unfolding reading numeral run sign fraction exponent
minus_past_back = refl

beyond_back : (z : ℤ) → nat_abs z ≡ 1 → reading (minus z ++ past) ≡ Some (record { units = z; beyond = true })
beyond_back (pos n) e = rw e past_back
beyond_back (negsuc n) e = let none : n ≡ 0 = omega (arith, e) in rw none minus_past_back

as_back : (beyond : Bool) (z : ℤ) → in_range beyond z → reading (written_as beyond z) ≡ Some (record { units = z; beyond = beyond })
as_back true z within = beyond_back z within
as_back false z within = units_back z within

-- ---- the bytes of what is written are its characters

glyphs_ascii : (t : Text) → AreGlyphs t → IsAscii t
glyphs_ascii t all = IsAscii-from_all t (All-weaker (λ c. is_ascii_digit c ≡ true) (λ c. c < 128) (λ c is. grind (arith, nat_tests)) t all)

size_ascii : (n : ℕ) → n < 10 ^ 31 → IsAscii (written_size n)
unfolding written_size
size_ascii n lt =
    let q = decimal (n / 10 ^ 15) in
    let f = without_zeros (places 15 (n % 10 ^ 15)) in
    let whole = whole_written (n / 10 ^ 15) (omega (arith, lt)) in
    let part = fraction_written 15 (n % 10 ^ 15) (omega arith) in
    IsAscii-append q (46 ∷ f) (glyphs_ascii q whole.glyphs) (IsAscii-cons 46 f (omega arith) (glyphs_ascii f part.glyphs))

written_ascii : (beyond : Bool) (z : ℤ) → in_range beyond z → IsAscii (written_as beyond z)
written_ascii true z within = IsAscii-append (minus z) past (IsAscii-minus z) IsAscii-past
written_ascii false z within = IsAscii-append (minus z) (written_size (nat_abs z)) (IsAscii-minus z) (size_ascii (nat_abs z) within)

pub reads_back : ReadsBack
unfolding written
reads_back a within = ap reading (encodes-IsAscii (written a) (written_ascii a.beyond a.units within)) ∙ as_back a.beyond a.units within
