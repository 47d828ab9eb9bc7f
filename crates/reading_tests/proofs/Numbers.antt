-- Steps of the reader of numbers and of tokens.
use Rattle.std.proofs.Common.{◌≡◌, ℕ, ◌+◌, ◌*◌, ◌-◌, ◌<◌, ◌≤◌, true, false, List, [], ◌∷◌, Some, None, Ok, eqb, refl, ap, ◌∙◌, inl, inr, arith}
use Rattle.std.specs.Prelude.{nat_le}
use Rattle.std.proofs.lemmas.Bool.Decides.{nat_tests}
use Rattle.reading.specs.Codes.{is_mark, char_of}
use Rattle.reading.specs.Reading.{Text, refuse, ascii, first}
use Rattle.reading.specs.Runs.{begins, run}
use Rattle.reading.proofs.Ascii.{ascii_none}
use Rattle.reading.proofs.RunLaws.{run_more, run_stop}
use Rattle.reading.proofs.Tools.{tested}
use Rattle.reading_tests.specs.declared.tree.Cause.TheVariants.{BadByte, BadNumber, BadToken}
use Rattle.reading_tests.specs.declared.token.Token.TheVariants.{End}
use Rattle.reading_tests.specs.Nest.{is_digit, number_from, number, token_of, token_here}

pub number_more : (at : Text) (n c : ℕ) (t : Text) → is_digit c ≡ true → number at n (run is_digit (c ∷ t)) ≡ number at (10 * n + (c - 48)) (run is_digit t)
unfolding number number_from
number_more at n c t is = ap (number at n) (run_more is_digit c t is)

pub number_end : (at : Text) (n : ℕ) (t : Text) → n ≤ 999999999 → begins is_digit t ≡ false → number at n (run is_digit t) ≡ Ok (n, t)
unfolding number number_from
number_end at n t le not = let small : nat_le n 999999999 ≡ true = grind (arith, nat_tests) in ap (number at n) (run_stop is_digit t not) ∙ rw small refl

pub grows : (ds : List ℕ) (n : ℕ) → n ≤ number_from n ds
unfolding number_from
grows [] n = omega arith
grows (d ∷ ds) n = omega (arith, grows ds (10 * n + (d - 48)))

pub number_past : (at : Text) (n c : ℕ) (t : Text) → is_digit c ≡ true → 99999999 < n → number at n (run is_digit (c ∷ t)) ≡ refuse BadNumber at
unfolding number
number_past at n c t is past =
    let r = run is_digit t in
    let more = grows r.0 (10 * n + (c - 48)) in
    let big : nat_le (number_from (10 * n + (c - 48)) r.0) 999999999 ≡ false = grind (arith, nat_tests) in
    number_more at n c t is ∙ rw big refl

pub ruleset number_laws = (number_more, number_end, number_past)

-- ---- tokens

pub byte_is : (b : ℕ) → b < 256 → is_mark b ≡ false
byte_is b low = grind (arith, nat_tests)

pub ruleset token_laws = (byte_is)

pub wide_end : (t : Text) → first t ≡ None → token_here t ≡ Ok (End, t)
unfolding token_here
wide_end [] e = refl
wide_end (c ∷ t) e = absurd cc

mark_of_none : (c : ℕ) → char_of c ≡ None → is_mark c ≡ true
mark_of_none c e = elim (tested (is_mark c)) [ inl is ↦ is | inr other ↦ let f = rw other at e in absurd cc ]

no_mark_of_some : (c d : ℕ) → char_of c ≡ Some d → is_mark c ≡ false
no_mark_of_some c d e = elim (tested (is_mark c)) [ inl is ↦ let f = rw is at e in absurd cc | inr other ↦ other ]

byte_refused : (c : ℕ) (t : Text) → is_mark c ≡ true → token_here (c ∷ t) ≡ refuse BadByte (c ∷ t)
unfolding token_here token_of
byte_refused c t is = rw is refl

high_refused : (c : ℕ) (t : Text) → is_mark c ≡ false → 128 ≤ c → token_here (c ∷ t) ≡ refuse BadToken (c ∷ t)
unfolding token_here token_of
high_refused c t other high =
    let open_ : eqb c 40 ≡ false = grind (arith, nat_tests) in
    let close : eqb c 41 ≡ false = grind (arith, nat_tests) in
    let comma : eqb c 44 ≡ false = grind (arith, nat_tests) in
    let digit : is_digit c ≡ false = grind (arith, nat_tests) in
    rw (other, open_, close, comma, digit) refl

pub wide_byte : (t : Text) (c : ℕ) → first t ≡ Some c → char_of c ≡ None → token_here t ≡ refuse BadByte t
wide_byte [] c f e = absurd cc
wide_byte (d ∷ t) c f e = let same : d ≡ c = cc in byte_refused d t (ap is_mark same ∙ mark_of_none c e)

pub wide_char : (t : Text) (c d : ℕ) → ascii t ≡ None → first t ≡ Some c → char_of c ≡ Some d → token_here t ≡ refuse BadToken t
wide_char [] c d none f e = absurd cc
wide_char (b ∷ t) c d none f e = let same : b ≡ c = cc in high_refused b t (ap is_mark same ∙ no_mark_of_some c d e) (ascii_none b t none)

pub ruleset wide_laws = (wide_end, wide_byte, wide_char)
