-- Tokens: what is read is spelled so, and what is spelled so is read.
use Rattle.std.proofs.Common.{◌≡◌, ℕ, ◌<◌, ◌≤◌, min, Bool, true, false, eqb, ltb, List, [], ◌∷◌, Option, Some, None, length, map, Ok, refl, sym, ap, ◌∙◌, subst, inl, inr, arith}
use Rattle.std.proofs.lemmas.List.{map-id}
use Rattle.std.specs.Prelude.{◌||◌, ◌&&◌, not, fold}
use Rattle.std.specs.List.{list_all}
use Rattle.std.specs.Char.{is_ascii_digit, is_ascii_hexdigit, to_ascii_uppercase}
use Rattle.std.proofs.lemmas.Bool.{eqb-true, ltb-false, eqb-false, and_parts, and_right, not-false, or_parts}
use Rattle.std.proofs.lemmas.Bool.Decides.{nat_tests}
use Rattle.ifc_base.specs.declared.value.Decimal.{Decimal}
use Rattle.decimal_fix.specs.Reading.{reading}
use Rattle.reading.specs.Codes.{is_mark}
use Rattle.reading.specs.Reading.{Text, Read, Refused, ◌>>=◌}
use Rattle.reading.specs.Runs.{begins, IsRun, run}
use Rattle.reading.proofs.RunLaws.{run_is, run_only, run_shorter}
use Rattle.reading.proofs.Tools.{kept, passed, bound, ok_is, tested}
use Rattle.p21_read.specs.declared.fault.P21Cause.{P21Cause}
use Rattle.p21_read.specs.declared.fault.P21Cause.TheVariants.{BadToken}
use Rattle.p21_read.specs.declared.number.Digits.{Digits}
use Rattle.p21_read.specs.declared.number.Number.{Number}
use Rattle.p21_read.specs.declared.number.Number.TheVariants.{Int, Real}
use Rattle.p21_read.specs.declared.word.Word.{Word}
use Rattle.p21_read.specs.declared.token.Token.{Token}
use Rattle.p21_read.specs.declared.token.Token.TheVariants as k
use Rattle.p21_read.specs.Gap.{gap}
use Rattle.p21_read.specs.Quoted.{text}
use Rattle.p21_read.specs.Words.{gather, is_letter, is_name, is_word, is_surplus, with_letter, no_word, word, enumer, enumer_end, binary, binary_end}
use Rattle.p21_read.specs.Numbers.{with_digit, no_digits, digits, is_numeral, signed, int, real, real_of, number, id}
use Rattle.p21_read.specs.Tokens.{Lexed, as_number, as_word, pointed, word_or_number, token_of, token_here, token}
use Rattle.p21_read.specs.TokenGrammar.{Sign, begins_number, is_integer, number_of, IsNumber, word_of, IsToken, Next}
use Rattle.p21_read.proofs.GapLaws.{gap_sound, gap_complete, gap_shorter}
use Rattle.p21_read.proofs.StringLaws.{text_sound, text_complete, quoted_shorter}
use Rattle.p21_read.proofs.RunLaws.{digits_run, digits_are, gather_run, gathered, word_gives, word_is, AreRead, are_read, number_below, all_digits, digit_numeral}

-- ---- integers

abbrev Numbered : Type 0
Numbered = Number × Text

-- What is read of a run of digits. A count or a number that is cut is past the limits of both uses.
int_is : (at xs u : Text) (negative : Bool) (d : Digits) (x : Numbered) → AreRead xs d → list_all is_ascii_digit xs ≡ true → int at negative (d, u) ≡ Ok x
    → (0 < length xs) × (length xs ≤ 18) × ((Int (signed negative (number_of xs)), u) ≡ x)
unfolding int
int_is at xs u negative d x are all e =
    let p = passed (eqb d.count 0 || ltb 18 d.count) (Ok (Int (signed negative d.value), u)) BadToken at x e in
    let b = or_parts (eqb d.count 0) (ltb 18 d.count) p.0 in
    let some : 0 < length xs = omega (arith, are.count, eqb-false d.count 0 b.0) in
    let few : length xs ≤ 18 = omega (arith, are.count, ltb-false 18 d.count b.1) in
    let same : number_of xs ≡ d.value = omega (arith, are.value, number_below xs all few) in
    (some, few, ap (λ (n : ℕ). (Int (signed negative n), u)) same ∙ ok_is {E = Refused P21Cause} (Int (signed negative d.value), u) x p.1)

int_reads : (at u xs : Text) (negative : Bool) (d : Digits) → AreRead xs d → list_all is_ascii_digit xs ≡ true → 0 < length xs → length xs ≤ 18
    → int at negative (d, u) ≡ Ok (Int (signed negative (number_of xs)), u)
unfolding int
int_reads at u xs negative d are all some few =
    let not_none : eqb d.count 0 ≡ false = grind (arith, nat_tests, are.count, some) in
    let not_many : ltb 18 d.count ≡ false = grind (arith, nat_tests, are.count, few) in
    let same : d.value ≡ number_of xs = omega (arith, are.value, number_below xs all few) in
    rw (not_none, not_many, same) refl

-- ---- reals

real_of_is : (at : Text) (o : Option Decimal) (u : Text) (x : Numbered) → real_of at o u ≡ Ok x → (d : Decimal) × (o ≡ Some d) × ((Real d, u) ≡ x)
real_of_is at None u x e = absurd cc
real_of_is at (Some d) u x e = (d, refl, ok_is {E = Refused P21Cause} (Real d, u) x e)

-- what is gathered of a numeral is its run
numeral_is : (t : Text) → gather is_numeral (λ c. c) [] t ≡ ((run is_numeral t).0, (run is_numeral t).1)
numeral_is t = gather_run is_numeral (λ c. c) t [] ∙ ap (λ (r : List ℕ). (r, (run is_numeral t).1)) (map-id (run is_numeral t).0)

real_by : (at : Text) → real at ≡ real_of at (reading (run is_numeral at).0) (run is_numeral at).1
unfolding real
real_by at = ap (λ (g : List ℕ × Text). real_of at (reading g.0) g.1) (numeral_is at)

real_sound : (at : Text) (x : Numbered) → begins_number at ≡ true → is_integer (run is_numeral at).0 ≡ false → real at ≡ Ok x → IsNumber at x.0 x.1
real_sound at x begin other e =
    let p = real_of_is at (reading (run is_numeral at).0) (run is_numeral at).1 x (sym (real_by at) ∙ e) in
    subst (λ (y : Numbered). IsNumber at y.0 y.1) p.2 (IsNumber.real at (run is_numeral at).0 (run is_numeral at).1 p.0 begin (run_is is_numeral at) other p.1)

real_reads : (at xs u : Text) (d : Decimal) → IsRun is_numeral at xs u → reading xs ≡ Some d → real at ≡ Ok (Real d, u)
real_reads at xs u d r reads =
    let by = real_by at ∙ ap (λ (p : Text × Text). real_of at (reading p.0) p.1) (run_only r) in
    by ∙ ap (λ (o : Option Decimal). real_of at o u) reads

-- ---- numbers that begin with a sign or a digit

first_of : (c : ℕ) (t : Text) → is_numeral c ≡ true → (run is_numeral (c ∷ t)).0 ≡ c ∷ (run is_numeral t).0
unfolding run
first_of c t is = rw is refl

goes_on : (c : ℕ) (t : Text) → is_numeral c ≡ true → begins is_numeral (run is_ascii_digit t).1 ≡ true → is_integer (run is_numeral (c ∷ t)).0 ≡ false
goes_on c t is more =
    let none : list_all is_ascii_digit (run is_numeral t).0 ≡ false = all_digits t ∙ ap not more in
    ap is_integer (first_of c t is) ∙ and_right (eqb c 43 || eqb c 45 || is_ascii_digit c) (list_all is_ascii_digit (run is_numeral t).0) none

number_sound : (c : ℕ) (t v : Text) (negative : Bool) (d : Digits) (ds : Text) (x : Numbered) → is_numeral c ≡ true → begins_number (c ∷ t) ≡ true → Sign (c ∷ t) negative v
    → IsRun is_ascii_digit v ds (run is_ascii_digit t).1 → AreRead ds d → number (c ∷ t) negative (d, (run is_ascii_digit t).1) ≡ Ok x → IsNumber (c ∷ t) x.0 x.1
unfolding number
number_sound c t v negative d ds x is begin sign r are e =
    elim (tested (begins is_numeral (run is_ascii_digit t).1)) [
      | inl h ↦ real_sound (c ∷ t) x begin (goes_on c t is h) (rw h at e)
      | inr h ↦
          let n = int_is (c ∷ t) ds (run is_ascii_digit t).1 negative d x are r.all (rw h at e) in
          subst (λ (y : Numbered). IsNumber (c ∷ t) y.0 y.1) n.2 (IsNumber.integer negative (c ∷ t) v ds (run is_ascii_digit t).1 sign r h n.0 n.1)
    ]

abbrev Tokened : Type 0
Tokened = Token × Text

as_token : (t : Text) (n : Numbered) (x : Tokened) → IsNumber t n.0 n.1 → as_number n ≡ Ok x → IsToken t x.0 x.1
as_token t n x is e = subst (λ (y : Tokened). IsToken t y.0 y.1) (ok_is {E = Refused P21Cause} (k.Number n.0, n.1) x e) (IsToken.number t n.0 n.1 is)

digits_at : (at : Text) (negative : Bool) (d : Digits) (t : Text) (x : Numbered) → number at negative (digits d t) ≡ Ok x
    → number at negative (fold with_digit d (run is_ascii_digit t).0, (run is_ascii_digit t).1) ≡ Ok x
digits_at at negative d t x e = ap (number at negative) (sym (digits_run t d)) ∙ e

plus_sound : (t : Text) (x : Tokened) → (number (43 ∷ t) false (digits no_digits t) >>= as_number) ≡ Ok x → IsToken (43 ∷ t) x.0 x.1
plus_sound t x e =
    let b = bound {r = number (43 ∷ t) false (digits no_digits t)} e in
    let ds = (run is_ascii_digit t).0 in
    let n = number_sound 43 t t false (fold with_digit no_digits ds) ds b.0 refl refl (Sign.plus t) (run_is is_ascii_digit t) (are_read ds) (digits_at (43 ∷ t) false no_digits t b.0 b.1) in
    as_token (43 ∷ t) b.0 x n b.2

minus_sound : (t : Text) (x : Tokened) → (number (45 ∷ t) true (digits no_digits t) >>= as_number) ≡ Ok x → IsToken (45 ∷ t) x.0 x.1
minus_sound t x e =
    let b = bound {r = number (45 ∷ t) true (digits no_digits t)} e in
    let ds = (run is_ascii_digit t).0 in
    let n = number_sound 45 t t true (fold with_digit no_digits ds) ds b.0 refl refl (Sign.minus t) (run_is is_ascii_digit t) (are_read ds) (digits_at (45 ∷ t) true no_digits t b.0 b.1) in
    as_token (45 ∷ t) b.0 x n b.2

digit_begins : (c : ℕ) (t : Text) → is_ascii_digit c ≡ true → begins_number (c ∷ t) ≡ true
digit_begins c t is =
    elim (tested (eqb c 43)) [
      | inl h ↦ rw h refl
      | inr h ↦ elim (tested (eqb c 45)) [
        | inl l ↦ rw (h, l) refl
        | inr l ↦ rw (h, l, is) refl
      ]
    ]

digit_run : (c : ℕ) (t : Text) → is_ascii_digit c ≡ true → IsRun is_ascii_digit (c ∷ t) (c ∷ (run is_ascii_digit t).0) (run is_ascii_digit t).1
digit_run c t is =
    let r = run_is is_ascii_digit t in
    record { parts = ap (λ (w : Text). c ∷ w) r.parts; all = rw is r.all; longest = r.longest }

digit_sound : (c : ℕ) (t : Text) (x : Tokened) → is_ascii_digit c ≡ true → (number (c ∷ t) false (digits (with_digit no_digits c) t) >>= as_number) ≡ Ok x → IsToken (c ∷ t) x.0 x.1
digit_sound c t x is e =
    let b = bound {r = number (c ∷ t) false (digits (with_digit no_digits c) t)} e in
    let ds = c ∷ (run is_ascii_digit t).0 in
    let read = digits_at (c ∷ t) false (with_digit no_digits c) t b.0 b.1 in
    let n = number_sound c t (c ∷ t) false (fold with_digit no_digits ds) ds b.0 (digit_numeral c is) (digit_begins c t is) (Sign.none c t is) (digit_run c t is) (are_read ds) read in
    as_token (c ∷ t) b.0 x n b.2

-- ---- other tokens

abbrev Named : Type 0
Named = List ℕ × Text

enumer_end_is : (at s t : Text) (x : Named) → enumer_end at (s, t) ≡ Ok x → (t ≡ 46 ∷ x.1) × (s ≡ x.0)
unfolding enumer_end
enumer_end_is at s [] x e = absurd cc
enumer_end_is at s (c ∷ t) x e =
    let h = kept (eqb c 46) (Ok (s, t)) BadToken at x e in
    let same = ok_is {E = Refused P21Cause} (s, t) x h.1 in
    (ap (λ (n : ℕ). n ∷ t) (eqb-true c 46 h.0) ∙ ap (λ (y : Named). 46 ∷ y.1) same, ap (λ (y : Named). y.0) same)

enumer_sound : (t : Text) (x : Named) → enumer (46 ∷ t) t ≡ Ok x → IsToken (46 ∷ t) (k.Enumer x.0) x.1
unfolding enumer
enumer_sound [] x e = absurd cc
enumer_sound (c ∷ t) x e =
    let at = 46 ∷ c ∷ t in
    let h = kept (is_letter c) (enumer_end at (gather is_name to_ascii_uppercase (to_ascii_uppercase c ∷ []) t)) BadToken at x e in
    let cs = (run is_name t).0 in
    let read = ap (λ (g : Named). enumer_end at (g.0, g.1)) (sym (gather_run is_name to_ascii_uppercase t (to_ascii_uppercase c ∷ []))) ∙ h.1 in
    let p = enumer_end_is at (to_ascii_uppercase c ∷ map to_ascii_uppercase cs) (run is_name t).1 x read in
    let r : IsRun is_name t cs (46 ∷ x.1) = subst (λ (v : Text). IsRun is_name t cs v) p.0 (run_is is_name t) in
    subst (λ (n : List ℕ). IsToken at (k.Enumer n) x.1) p.1 (IsToken.enumer c t cs x.1 h.0 r)

binary_end_is : (at s t : Text) (x : Named) → binary_end at (s, t) ≡ Ok x → (t ≡ 34 ∷ x.1) × (s ≡ x.0)
unfolding binary_end
binary_end_is at s [] x e = absurd cc
binary_end_is at s (c ∷ t) x e =
    let h = kept (eqb c 34) (Ok (s, t)) BadToken at x e in
    let same = ok_is {E = Refused P21Cause} (s, t) x h.1 in
    (ap (λ (n : ℕ). n ∷ t) (eqb-true c 34 h.0) ∙ ap (λ (y : Named). 34 ∷ y.1) same, ap (λ (y : Named). y.0) same)

hex_gathered : (c : ℕ) (t : Text) → gather is_ascii_hexdigit (λ d. d) (c ∷ []) t ≡ (c ∷ (run is_ascii_hexdigit t).0, (run is_ascii_hexdigit t).1)
hex_gathered c t = gather_run is_ascii_hexdigit (λ d. d) t (c ∷ []) ∙ ap (λ (r : List ℕ). (c ∷ r, (run is_ascii_hexdigit t).1)) (map-id (run is_ascii_hexdigit t).0)

binary_sound : (t : Text) (x : Named) → binary (34 ∷ t) t ≡ Ok x → IsToken (34 ∷ t) (k.Binary x.0) x.1
unfolding binary
binary_sound [] x e = absurd cc
binary_sound (c ∷ t) x e =
    let at = 34 ∷ c ∷ t in
    let h = kept (is_surplus c) (binary_end at (gather is_ascii_hexdigit (λ d. d) (c ∷ []) t)) BadToken at x e in
    let ds = (run is_ascii_hexdigit t).0 in
    let read = ap (λ (g : Named). binary_end at (g.0, g.1)) (sym (hex_gathered c t)) ∙ h.1 in
    let p = binary_end_is at (c ∷ ds) (run is_ascii_hexdigit t).1 x read in
    let r : IsRun is_ascii_hexdigit t ds (34 ∷ x.1) = subst (λ (v : Text). IsRun is_ascii_hexdigit t ds v) p.0 (run_is is_ascii_hexdigit t) in
    subst (λ (n : List ℕ). IsToken at (k.Binary n) x.1) p.1 (IsToken.binary c t ds x.1 h.0 r)

id_is : (at xs u : Text) (d : Digits) (x : ℕ × Text) → AreRead xs d → id at (d, u) ≡ Ok x → (0 < length xs) × ((min (number_of xs) 0xFFFF_FFFF, u) ≡ x)
unfolding id
id_is at xs u d x are e =
    let p = passed (eqb d.count 0) (Ok (min d.value 0xFFFF_FFFF, u)) BadToken at x e in
    let some : 0 < length xs = omega (arith, are.count, eqb-false d.count 0 p.0) in
    let same : min (number_of xs) 0xFFFF_FFFF ≡ min d.value 0xFFFF_FFFF = omega (arith, are.value) in
    (some, ap (λ (n : ℕ). (n, u)) same ∙ ok_is {E = Refused P21Cause} (min d.value 0xFFFF_FFFF, u) x p.1)

id_reads : (at xs u : Text) (d : Digits) → AreRead xs d → 0 < length xs → id at (d, u) ≡ Ok (min (number_of xs) 0xFFFF_FFFF, u)
unfolding id
id_reads at xs u d are some =
    let not_none : eqb d.count 0 ≡ false = grind (arith, nat_tests, are.count, some) in
    let same : min d.value 0xFFFF_FFFF ≡ min (number_of xs) 0xFFFF_FFFF = omega (arith, are.value) in
    rw (not_none, same) refl

id_sound : (t : Text) (x : ℕ × Text) → id (35 ∷ t) (digits no_digits t) ≡ Ok x → IsToken (35 ∷ t) (k.Id x.0) x.1
id_sound t x e =
    let ds = (run is_ascii_digit t).0 in
    let u = (run is_ascii_digit t).1 in
    let n = id_is (35 ∷ t) ds u (fold with_digit no_digits ds) x (are_read ds) (ap (id (35 ∷ t)) (sym (digits_run t no_digits)) ∙ e) in
    subst (λ (y : ℕ × Text). IsToken (35 ∷ t) (k.Id y.0) y.1) n.1 (IsToken.id t ds u (run_is is_ascii_digit t) n.0)

-- ---- which token begins with a code

-- a token is the one that is given
gives : (s : Text) (w : Token) (u : Text) (x : Tokened) → IsToken s w u → (w, u) ≡ x → IsToken s x.0 x.1
gives s w u x is e = subst (λ (y : Tokened). IsToken s y.0 y.1) e is

at_code : (c n : ℕ) (t : Text) (x : Tokened) → eqb c n ≡ true → IsToken (n ∷ t) x.0 x.1 → IsToken (c ∷ t) x.0 x.1
at_code c n t x e is = subst (λ (d : ℕ). IsToken (d ∷ t) x.0 x.1) (sym (eqb-true c n e)) is

single : (c n : ℕ) (t : Text) (w : Token) (x : Tokened) → eqb c n ≡ true → IsToken (n ∷ t) w t → (w, t) ≡ x → IsToken (c ∷ t) x.0 x.1
single c n t w x e is same = at_code c n t x e (gives (n ∷ t) w t x is same)

pointed_sound : (t : Text) (x : Tokened) → pointed (46 ∷ t) t ≡ Ok x → IsToken (46 ∷ t) x.0 x.1
unfolding pointed
pointed_sound t x e =
    elim (tested (begins is_ascii_digit t)) [
      | inl h ↦
          let b = bound {r = real (46 ∷ t)} (rw h at e) in
          let begin : begins_number (46 ∷ t) ≡ true = rw h refl in
          let n = real_sound (46 ∷ t) b.0 begin (ap is_integer (first_of 46 t refl)) b.1 in
          as_token (46 ∷ t) b.0 x n b.2
      | inr h ↦
          let b = bound {r = enumer (46 ∷ t) t} (rw h at e) in
          gives (46 ∷ t) (k.Enumer b.0.0) b.0.1 x (enumer_sound t b.0 b.1) (ok_is {E = Refused P21Cause} (k.Enumer b.0.0, b.0.1) x b.2)
    ]

sign_sound : (c : ℕ) (t : Text) (x : Tokened) → (eqb c 43 || eqb c 45) ≡ true → (number (c ∷ t) (eqb c 45) (digits no_digits t) >>= as_number) ≡ Ok x → IsToken (c ∷ t) x.0 x.1
sign_sound c t x is e =
    elim (tested (eqb c 43)) [
      | inl h ↦
          let read = subst (λ (n : ℕ). (number (n ∷ t) (eqb n 45) (digits no_digits t) >>= as_number) ≡ Ok x) (eqb-true c 43 h) e in
          at_code c 43 t x h (plus_sound t x read)
      | inr h ↦
          let l : eqb c 45 ≡ true = rw h at is in
          let read = subst (λ (n : ℕ). (number (n ∷ t) (eqb n 45) (digits no_digits t) >>= as_number) ≡ Ok x) (eqb-true c 45 l) e in
          at_code c 45 t x l (minus_sound t x read)
    ]

word_or_number_sound : (c : ℕ) (t : Text) (x : Tokened) → word_or_number (c ∷ t) c t ≡ Ok x → IsToken (c ∷ t) x.0 x.1
unfolding word_or_number
word_or_number_sound c t x e =
    elim (tested (eqb c 43 || eqb c 45)) [
      | inl h ↦ sign_sound c t x h (rw h at e)
      | inr h ↦ let e1 = rw h at e in elim (tested (is_ascii_digit c)) [
        | inl l ↦ digit_sound c t x l (rw l at e1)
        | inr l ↦ let e2 = rw l at e1 in elim (tested (is_letter c)) [
          | inl m ↦
              let same = ok_is {E = Refused P21Cause} (k.Word (word_of (c ∷ (run is_word t).0)), (run is_word t).1) x (ap as_word (sym (word_gives c t)) ∙ (rw m at e2)) in
              gives (c ∷ t) (k.Word (word_of (c ∷ (run is_word t).0))) (run is_word t).1 x (IsToken.word c t (run is_word t).0 (run is_word t).1 m (run_is is_word t)) same
          | inr m ↦ let wrong = rw m at e2 in absurd cc
        ]
      ]
    ]

of_sound : (c : ℕ) (t : Text) (x : Tokened) → token_of (c ∷ t) c t ≡ Ok x → IsToken (c ∷ t) x.0 x.1
unfolding token_of
of_sound c t x e =
    elim (tested (is_mark c)) [
      | inl h ↦ let wrong = rw h at e in absurd cc
      | inr h ↦ let e0 = rw h at e in elim (tested (eqb c 36)) [
        | inl is ↦ single c 36 t k.Dollar x is (IsToken.dollar t) (ok_is {E = Refused P21Cause} (k.Dollar, t) x (rw is at e0))
        | inr other ↦ let e1 = rw other at e0 in elim (tested (eqb c 42)) [
          | inl is ↦ single c 42 t k.Star x is (IsToken.star t) (ok_is {E = Refused P21Cause} (k.Star, t) x (rw is at e1))
          | inr other ↦ let e2 = rw other at e1 in elim (tested (eqb c 40)) [
            | inl is ↦ single c 40 t k.Open x is (IsToken.left t) (ok_is {E = Refused P21Cause} (k.Open, t) x (rw is at e2))
            | inr other ↦ let e3 = rw other at e2 in elim (tested (eqb c 41)) [
              | inl is ↦ single c 41 t k.Close x is (IsToken.right t) (ok_is {E = Refused P21Cause} (k.Close, t) x (rw is at e3))
              | inr other ↦ let e4 = rw other at e3 in elim (tested (eqb c 44)) [
                | inl is ↦ single c 44 t k.Comma x is (IsToken.comma t) (ok_is {E = Refused P21Cause} (k.Comma, t) x (rw is at e4))
                | inr other ↦ let e5 = rw other at e4 in elim (tested (eqb c 61)) [
                  | inl is ↦ single c 61 t k.Equals x is (IsToken.equals t) (ok_is {E = Refused P21Cause} (k.Equals, t) x (rw is at e5))
                  | inr other ↦ let e6 = rw other at e5 in elim (tested (eqb c 59)) [
                    | inl is ↦ single c 59 t k.Semicolon x is (IsToken.semicolon t) (ok_is {E = Refused P21Cause} (k.Semicolon, t) x (rw is at e6))
                    | inr other ↦ let e7 = rw other at e6 in elim (tested (eqb c 39)) [
                      | inl is ↦
                          let b = bound {r = text (39 ∷ t) t} (subst (λ (m : ℕ). (text (m ∷ t) t >>= λ y. Ok (k.Quoted y.0, y.1)) ≡ Ok x) (eqb-true c 39 is) (rw is at e7)) in
                          at_code c 39 t x is (gives (39 ∷ t) (k.Quoted b.0.0) b.0.1 x (IsToken.quoted t b.0.0 b.0.1 (text_sound (39 ∷ t) t b.0.0 b.0.1 b.1)) (ok_is {E = Refused P21Cause} (k.Quoted b.0.0, b.0.1) x b.2))
                      | inr other ↦ let e8 = rw other at e7 in elim (tested (eqb c 34)) [
                        | inl is ↦
                            let b = bound {r = binary (34 ∷ t) t} (subst (λ (m : ℕ). (binary (m ∷ t) t >>= λ y. Ok (k.Binary y.0, y.1)) ≡ Ok x) (eqb-true c 34 is) (rw is at e8)) in
                            at_code c 34 t x is (gives (34 ∷ t) (k.Binary b.0.0) b.0.1 x (binary_sound t b.0 b.1) (ok_is {E = Refused P21Cause} (k.Binary b.0.0, b.0.1) x b.2))
                        | inr other ↦ let e9 = rw other at e8 in elim (tested (eqb c 35)) [
                          | inl is ↦
                              let b = bound {r = id (35 ∷ t) (digits no_digits t)} (subst (λ (m : ℕ). (id (m ∷ t) (digits no_digits t) >>= λ y. Ok (k.Id y.0, y.1)) ≡ Ok x) (eqb-true c 35 is) (rw is at e9)) in
                              at_code c 35 t x is (gives (35 ∷ t) (k.Id b.0.0) b.0.1 x (id_sound t b.0 b.1) (ok_is {E = Refused P21Cause} (k.Id b.0.0, b.0.1) x b.2))
                          | inr other ↦ let e10 = rw other at e9 in elim (tested (eqb c 46)) [
                            | inl is ↦ at_code c 46 t x is (pointed_sound t x (subst (λ (m : ℕ). pointed (m ∷ t) t ≡ Ok x) (eqb-true c 46 is) (rw is at e10)))
                            | inr other ↦ word_or_number_sound c t x (rw other at e10)
                          ]
                        ]
                      ]
                    ]
                  ]
                ]
              ]
            ]
          ]
        ]
      ]
    ]

here_sound : (t : Text) (x : Tokened) → token_here t ≡ Ok x → IsToken t x.0 x.1
unfolding token_here
here_sound [] x e = gives [] k.End [] x IsToken.end (ok_is {E = Refused P21Cause} (k.End, []) x e)
here_sound (c ∷ t) x e = of_sound c t x e

-- ---- what is spelled so is read

digit_other : (c n : ℕ) → is_ascii_digit c ≡ true → n < 48 → eqb c n ≡ false
digit_other c n is lt = grind (arith, nat_tests)

digit_above : (c n : ℕ) → is_ascii_digit c ≡ true → 57 < n → eqb c n ≡ false
digit_above c n is lt = grind (arith, nat_tests)

digit_character : (c : ℕ) → is_ascii_digit c ≡ true → is_mark c ≡ false
digit_character c is = grind (arith, nat_tests)

letter_other : (c n : ℕ) → is_letter c ≡ true → n < 65 → eqb c n ≡ false
letter_other c n is lt = grind (arith, nat_tests)

letter_character : (c : ℕ) → is_letter c ≡ true → is_mark c ≡ false
letter_character c is = grind (arith, nat_tests)

letter_no_digit : (c : ℕ) → is_letter c ≡ true → is_ascii_digit c ≡ false
letter_no_digit c is = grind (arith, nat_tests)

-- a code that begins no other token
by_digit : (c : ℕ) (t : Text) → is_ascii_digit c ≡ true → token_of (c ∷ t) c t ≡ (number (c ∷ t) false (digits (with_digit no_digits c) t) >>= as_number)
unfolding token_of word_or_number
by_digit c t is =
    let o = digit_other c in
    rw (
      digit_character c is,
      o 36 is (omega arith),
      o 42 is (omega arith),
      o 40 is (omega arith),
      o 41 is (omega arith),
      o 44 is (omega arith),
      digit_above c 61 is (omega arith),
      digit_above c 59 is (omega arith),
      o 39 is (omega arith),
      o 34 is (omega arith),
      o 35 is (omega arith),
      o 46 is (omega arith),
      o 43 is (omega arith),
      o 45 is (omega arith),
      is,
    ) refl

by_letter : (c : ℕ) (t : Text) → is_letter c ≡ true → token_of (c ∷ t) c t ≡ as_word (word (with_letter no_word c) t)
unfolding token_of word_or_number
by_letter c t is =
    let o = letter_other c in
    rw (
      letter_character c is,
      o 36 is (omega arith),
      o 42 is (omega arith),
      o 40 is (omega arith),
      o 41 is (omega arith),
      o 44 is (omega arith),
      o 61 is (omega arith),
      o 59 is (omega arith),
      o 39 is (omega arith),
      o 34 is (omega arith),
      o 35 is (omega arith),
      o 46 is (omega arith),
      o 43 is (omega arith),
      o 45 is (omega arith),
      letter_no_digit c is,
      is,
    ) refl

integer_reads : (at u ds : Text) (negative : Bool) → list_all is_ascii_digit ds ≡ true → begins is_numeral u ≡ false → 0 < length ds → length ds ≤ 18
    → number at negative (fold with_digit no_digits ds, u) ≡ Ok (Int (signed negative (number_of ds)), u)
unfolding number
integer_reads at u ds negative all ends some few = rw ends (int_reads at u ds negative (fold with_digit no_digits ds) (are_read ds) all some few)

integer_complete : {t r ds u : Text} (negative : Bool) → Sign t negative r → IsRun is_ascii_digit r ds u → begins is_numeral u ≡ false → 0 < length ds → length ds ≤ 18
    → token_here t ≡ Ok (k.Number (Int (signed negative (number_of ds))), u)
unfolding token_here token_of word_or_number digits
integer_complete {ds = ds} {u = u} negative (Sign.none c t is) r ends some few =
    let same : digits (with_digit no_digits c) t ≡ (fold with_digit no_digits ds, u) = let d = digits_are no_digits r in rw is at d in
    let read = ap (number (c ∷ t) false) same ∙ integer_reads (c ∷ t) u ds false r.all ends some few in
    by_digit c t is ∙ ap (λ (n : Read P21Cause Number). n >>= as_number) read
integer_complete {ds = ds} {u = u} negative (Sign.plus t) r ends some few =
    let read = ap (number (43 ∷ t) false) (digits_are no_digits r) ∙ integer_reads (43 ∷ t) u ds false r.all ends some few in
    ap (λ (n : Read P21Cause Number). n >>= as_number) read
integer_complete {ds = ds} {u = u} negative (Sign.minus t) r ends some few =
    let read = ap (number (45 ∷ t) true) (digits_are no_digits r) ∙ integer_reads (45 ∷ t) u ds true r.all ends some few in
    ap (λ (n : Read P21Cause Number). n >>= as_number) read

-- a numeral that isn't digits alone goes on behind its digits
more_behind : (c : ℕ) (t xs u : Text) → is_numeral c ≡ true → (eqb c 43 || eqb c 45 || is_ascii_digit c) ≡ true → IsRun is_numeral (c ∷ t) xs u → is_integer xs ≡ false
    → begins is_numeral (run is_ascii_digit t).1 ≡ true
more_behind c t xs u is first r other =
    let same : c ∷ (run is_numeral t).0 ≡ xs = sym (first_of c t is) ∙ ap (λ (p : Text × Text). p.0) (run_only r) in
    let none : ((eqb c 43 || eqb c 45 || is_ascii_digit c) && list_all is_ascii_digit (run is_numeral t).0) ≡ false = ap is_integer same ∙ other in
    let digits_none : list_all is_ascii_digit (run is_numeral t).0 ≡ false = rw first at none in
    not-false (begins is_numeral (run is_ascii_digit t).1) (sym (all_digits t) ∙ digits_none)

real_number : (at t xs u : Text) (negative : Bool) (d : Digits) (x : Decimal) → begins is_numeral (run is_ascii_digit t).1 ≡ true → IsRun is_numeral at xs u → reading xs ≡ Some x
    → (number at negative (digits d t) >>= as_number) ≡ Ok (k.Number (Real x), u)
unfolding number
real_number at t xs u negative d x more r reads =
    let goes : begins is_numeral (digits d t).1 ≡ true = ap (λ (p : Digits × Text). begins is_numeral p.1) (digits_run t d) ∙ more in
    rw (goes, real_reads at xs u x r reads) refl

plus_real : (c : ℕ) (t xs u : Text) (d : Decimal) → eqb c 43 ≡ true → IsRun is_numeral (c ∷ t) xs u → is_integer xs ≡ false → reading xs ≡ Some d → token_of (c ∷ t) c t ≡ Ok (k.Number (Real d), u)
unfolding token_of word_or_number
plus_real c t xs u d is r other reads =
    let same = eqb-true c 43 is in
    let here : IsRun is_numeral (43 ∷ t) xs u = subst (λ (n : ℕ). IsRun is_numeral (n ∷ t) xs u) same r in
    let read : token_of (43 ∷ t) 43 t ≡ Ok (k.Number (Real d), u) = real_number (43 ∷ t) t xs u false no_digits d (more_behind 43 t xs u refl refl here other) here reads in
    subst (λ (n : ℕ). token_of (n ∷ t) n t ≡ Ok (k.Number (Real d), u)) (sym same) read

minus_real : (c : ℕ) (t xs u : Text) (d : Decimal) → eqb c 45 ≡ true → IsRun is_numeral (c ∷ t) xs u → is_integer xs ≡ false → reading xs ≡ Some d → token_of (c ∷ t) c t ≡ Ok (k.Number (Real d), u)
unfolding token_of word_or_number
minus_real c t xs u d is r other reads =
    let same = eqb-true c 45 is in
    let here : IsRun is_numeral (45 ∷ t) xs u = subst (λ (n : ℕ). IsRun is_numeral (n ∷ t) xs u) same r in
    let read : token_of (45 ∷ t) 45 t ≡ Ok (k.Number (Real d), u) = real_number (45 ∷ t) t xs u true no_digits d (more_behind 45 t xs u refl refl here other) here reads in
    subst (λ (n : ℕ). token_of (n ∷ t) n t ≡ Ok (k.Number (Real d), u)) (sym same) read

point_real : (c : ℕ) (t xs u : Text) (d : Decimal) → (eqb c 46 && begins is_ascii_digit t) ≡ true → IsRun is_numeral (c ∷ t) xs u → reading xs ≡ Some d → token_of (c ∷ t) c t ≡ Ok (k.Number (Real d), u)
unfolding token_of pointed
point_real c t xs u d is r reads =
    let b = and_parts (eqb c 46) (begins is_ascii_digit t) is in
    let same = eqb-true c 46 b.0 in
    let here : IsRun is_numeral (46 ∷ t) xs u = subst (λ (n : ℕ). IsRun is_numeral (n ∷ t) xs u) same r in
    let read : token_of (46 ∷ t) 46 t ≡ Ok (k.Number (Real d), u) = rw (b.1, real_reads (46 ∷ t) xs u d here reads) refl in
    subst (λ (n : ℕ). token_of (n ∷ t) n t ≡ Ok (k.Number (Real d), u)) (sym same) read

real_complete : (t xs u : Text) (d : Decimal) → begins_number t ≡ true → IsRun is_numeral t xs u → is_integer xs ≡ false → reading xs ≡ Some d → token_here t ≡ Ok (k.Number (Real d), u)
unfolding token_here
real_complete [] xs u d begin r other reads = absurd cc
real_complete (c ∷ t) xs u d begin r other reads =
    elim (tested (eqb c 43)) [
      | inl h ↦ plus_real c t xs u d h r other reads
      | inr h ↦ elim (tested (eqb c 45)) [
        | inl l ↦ minus_real c t xs u d l r other reads
        | inr l ↦ elim (tested (is_ascii_digit c)) [
          | inl m ↦
              let more = more_behind c t xs u (digit_numeral c m) (rw (h, l, m) refl) r other in
              by_digit c t m ∙ real_number (c ∷ t) t xs u false (with_digit no_digits c) d more r reads
          | inr m ↦ let point : (eqb c 46 && begins is_ascii_digit t) ≡ true = rw (h, l, m) at begin in point_real c t xs u d point r reads
        ]
      ]
    ]

number_complete : {t : Text} {n : Number} {u : Text} → IsNumber t n u → token_here t ≡ Ok (k.Number n, u)
number_complete (IsNumber.integer negative t r ds u sign digits_run ends some few) = integer_complete negative sign digits_run ends some few
number_complete (IsNumber.real t xs u d begin r other reads) = real_complete t xs u d begin r other reads

binary_reads : (c : ℕ) (t ds u : Text) → is_surplus c ≡ true → IsRun is_ascii_hexdigit t ds (34 ∷ u) → binary (34 ∷ c ∷ t) (c ∷ t) ≡ Ok (c ∷ ds, u)
unfolding binary binary_end
binary_reads c t ds u is r =
    let g = gathered (λ d. d) (c ∷ []) r ∙ ap (λ (x : List ℕ). (c ∷ x, 34 ∷ u)) (map-id ds) in
    rw is (ap (binary_end (34 ∷ c ∷ t)) g)

enumer_reads : (c : ℕ) (t cs u : Text) → is_letter c ≡ true → IsRun is_name t cs (46 ∷ u) → enumer (46 ∷ c ∷ t) (c ∷ t) ≡ Ok (map to_ascii_uppercase (c ∷ cs), u)
unfolding enumer enumer_end
enumer_reads c t cs u is r = rw is (ap (enumer_end (46 ∷ c ∷ t)) (gathered to_ascii_uppercase (to_ascii_uppercase c ∷ []) r))

here_complete : {t : Text} {w : Token} {u : Text} → IsToken t w u → token_here t ≡ Ok (w, u)
unfolding token_here token_of pointed
here_complete IsToken.end = refl
here_complete (IsToken.dollar t) = refl
here_complete (IsToken.star t) = refl
here_complete (IsToken.left t) = refl
here_complete (IsToken.right t) = refl
here_complete (IsToken.comma t) = refl
here_complete (IsToken.equals t) = refl
here_complete (IsToken.semicolon t) = refl
here_complete (IsToken.quoted t s u inside) = rw (text_complete (39 ∷ t) inside) refl
here_complete (IsToken.binary c t ds u is r) = rw (binary_reads c t ds u is r) refl
here_complete (IsToken.id t ds u r some) =
    let read = ap (id (35 ∷ t)) (digits_are no_digits r) ∙ id_reads (35 ∷ t) ds u (fold with_digit no_digits ds) (are_read ds) some in rw read refl
here_complete (IsToken.enumer c t cs u is r) = rw (letter_no_digit c is, enumer_reads c t cs u is r) refl
here_complete (IsToken.number t n u is) = number_complete is
here_complete (IsToken.word c t cs u is r) = by_letter c t is ∙ ap as_word (word_is c r)

-- ---- what is left is shorter

behind_shorter : {class : ℕ → Bool} {t xs u : Text} (c : ℕ) → IsRun class t xs (c ∷ u) → length u < length t
behind_shorter c r = omega (arith, run_shorter r)

number_shorter : {t : Text} {n : Number} {u : Text} → IsNumber t n u → length u ≤ length t
number_shorter (IsNumber.integer negative t r ds u (Sign.none c _ is) digits_run ends some few) = run_shorter digits_run
number_shorter (IsNumber.integer negative t r ds u (Sign.plus _) digits_run ends some few) = omega (arith, run_shorter digits_run)
number_shorter (IsNumber.integer negative t r ds u (Sign.minus _) digits_run ends some few) = omega (arith, run_shorter digits_run)
number_shorter (IsNumber.real t xs u d begin r other reads) = run_shorter r

here_shorter : {t : Text} {w : Token} {u : Text} → IsToken t w u → length u ≤ length t
here_shorter IsToken.end = omega arith
here_shorter (IsToken.dollar t) = omega arith
here_shorter (IsToken.star t) = omega arith
here_shorter (IsToken.left t) = omega arith
here_shorter (IsToken.right t) = omega arith
here_shorter (IsToken.comma t) = omega arith
here_shorter (IsToken.equals t) = omega arith
here_shorter (IsToken.semicolon t) = omega arith
here_shorter (IsToken.quoted t s u inside) = omega (arith, quoted_shorter inside)
here_shorter (IsToken.binary c t ds u is r) = omega (arith, behind_shorter 34 r)
here_shorter (IsToken.id t ds u r some) = omega (arith, run_shorter r)
here_shorter (IsToken.enumer c t cs u is r) = omega (arith, behind_shorter 46 r)
here_shorter (IsToken.number t n u is) = number_shorter is
here_shorter (IsToken.word c t cs u is r) = omega (arith, run_shorter r)

-- ---- the next token

pub token_sound : (t : Text) (x : Lexed) (u : Text) → token t ≡ Ok (x, u) → Next t x.token u
unfolding token
token_sound t x u e =
    let g = bound {r = gap t} e in
    let b = bound {r = token_here g.0.1} g.2 in
    let same = ok_is {E = Refused P21Cause} (record { token = b.0.0; at = g.0.1 }, b.0.1) (x, u) b.2 in
    subst (λ (y : Lexed × Text). Next t y.0.token y.1) same (Next.next t g.0.1 b.0.0 b.0.1 (gap_sound t g.0.1 g.1) (here_sound g.0.1 b.0 b.1))

pub token_complete : {t : Text} {w : Token} {u : Text} → Next t w u → (at : Text) × (token t ≡ Ok (record { token = w; at = at }, u))
unfolding token
token_complete (Next.next t s w u passed is) = (s, rw (gap_complete passed, here_complete is) refl)

pub next_shorter : {t : Text} {w : Token} {u : Text} → Next t w u → length u ≤ length t
next_shorter (Next.next t s w u passed is) = omega (arith, gap_shorter passed, here_shorter is)

comma_less : {t u : Text} → IsToken t k.Comma u → length u < length t
comma_less (IsToken.comma t) = omega arith

id_less : {t u : Text} {n : ℕ} → IsToken t (k.Id n) u → length u < length t
id_less (IsToken.id t ds u r some) = omega (arith, run_shorter r)

word_less : {t u : Text} {w : Word} → IsToken t (k.Word w) u → length u < length t
word_less (IsToken.word c t cs u is r) = omega (arith, run_shorter r)

pub comma_shorter : {t u : Text} → Next t k.Comma u → length u < length t
comma_shorter (Next.next t s _ u passed is) = omega (arith, gap_shorter passed, comma_less is)

pub id_shorter : {t u : Text} {n : ℕ} → Next t (k.Id n) u → length u < length t
id_shorter (Next.next t s _ u passed is) = omega (arith, gap_shorter passed, id_less is)

pub word_shorter : {t u : Text} {w : Word} → Next t (k.Word w) u → length u < length t
word_shorter (Next.next t s _ u passed is) = omega (arith, gap_shorter passed, word_less is)
