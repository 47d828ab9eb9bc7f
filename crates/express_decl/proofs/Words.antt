-- A word at the front of bytes is the run of their codes.
use Rattle.std.proofs.Common.{◌≡◌, ℕ, suc, ◌+◌, ◌-◌, ◌<◌, ◌≤◌, true, false, List, [], ◌∷◌, ◌++◌, length, take, drop, Some, None, Option, refl, sym, ap, ◌∙◌, arith, inl, inr}
use Rattle.std.specs.Prelude.{nat_lt}
use Rattle.std.specs.List.{prefix_len}
use Rattle.std.specs.Char.{encode_utf8}
use Rattle.std.proofs.lemmas.Bool.Decides.{nat_tests}
use Rattle.std.proofs.lemmas.List.{take_rest}
use Rattle.bstr.specs.Utf8.{decoded}
use Rattle.bstr.proofs.lemmas.SoundLemmas.{SpellsChar-decoded}
use Rattle.reading.specs.Codes.{codes_of, mark}
use Rattle.reading.specs.Reading.{Text, first}
use Rattle.reading.specs.Runs.{begins, with_first, run}
use Rattle.reading.proofs.Codes.{codes_nil, codes_ascii, codes_char, codes_byte}
use Rattle.reading.proofs.RunLaws.{run_more, run_stop}
use Rattle.reading.proofs.Tools.{tested}
use Rattle.express_decl.specs.Tokens.{is_word, behind}

word_ascii : (c : ℕ) → is_word c ≡ true → c < 128
word_ascii c is = grind (arith, nat_tests)

wide_no_word : (c : ℕ) → 128 ≤ c → is_word c ≡ false
wide_no_word c wide = grind (arith, nat_tests)

-- the UTF-8 form of an ASCII character is that byte
encode_low : (c : ℕ) → c < 128 → encode_utf8 c ≡ c ∷ []
unfolding encode_utf8
encode_low c low = let one : nat_lt c 128 ≡ true = grind (arith, nat_tests) in rw one refl

front_is : (b c : ℕ) (t rest : List ℕ) → c < 128 → b ∷ t ≡ encode_utf8 c ++ rest → b ≡ c
front_is b c t rest low e = let one = encode_low c low in let f : b ∷ t ≡ (c ∷ []) ++ rest = e ∙ ap (λ (l : List ℕ). l ++ rest) one in cc

wide_char : (b : ℕ) (t : List ℕ) (c : ℕ) → 128 ≤ b → (decoded (b ∷ t)).char ≡ Some c → begins is_word (codes_of (b ∷ t)) ≡ false
wide_char b t c wide e =
    let s = SpellsChar-decoded (b ∷ t) c e in
    let big : 128 ≤ c = elim (tested (nat_lt c 128)) [
      | inl low ↦ let small : c < 128 = grind (arith, nat_tests) in let same = front_is b c t (drop (decoded (b ∷ t)).size (b ∷ t)) small s.bytes in absurd (omega arith)
      | inr high ↦ grind (arith, nat_tests)
    ] in
    let f = codes_char (b ∷ t) c e in rw f (wide_no_word c big)

wide_byte : (b : ℕ) (t : List ℕ) → (decoded (b ∷ t)).char ≡ None → begins is_word (codes_of (b ∷ t)) ≡ false
wide_byte b t e = let f = codes_byte b t e in rw f (wide_no_word (mark b) (omega arith))

wide_begins_by : (b : ℕ) (t : List ℕ) (o : Option ℕ) → 128 ≤ b → (decoded (b ∷ t)).char ≡ o → begins is_word (codes_of (b ∷ t)) ≡ false
wide_begins_by b t (Some c) wide e = wide_char b t c wide e
wide_begins_by b t None wide e = wide_byte b t e

wide_begins : (b : ℕ) (t : List ℕ) → 128 ≤ b → begins is_word (codes_of (b ∷ t)) ≡ false
wide_begins b t wide = wide_begins_by b t (decoded (b ∷ t)).char wide refl

no_word_begins : (b : ℕ) (t : List ℕ) → is_word b ≡ false → begins is_word (codes_of (b ∷ t)) ≡ false
no_word_begins b t not = elim (tested (nat_lt b 128)) [
  | inl low ↦ let small : b < 128 = grind (arith, nat_tests) in let f = codes_ascii b t small in rw f not
  | inr high ↦ let big : 128 ≤ b = grind (arith, nat_tests) in wide_begins b t big
]

abbrev Parts : List ℕ → ℕ → List ℕ × Text
Parts bytes n = (take n bytes, codes_of (drop n bytes))

parts_more : (b : ℕ) (t : List ℕ) (n : ℕ) → with_first b (Parts t n) ≡ Parts (b ∷ t) (1 + n)
parts_more b t n = let one : 1 + n ≡ suc n = omega arith in ap (Parts (b ∷ t)) (sym one)

word_parts : (bytes : List ℕ) → run is_word (codes_of bytes) ≡ Parts bytes (prefix_len is_word bytes)
word_parts [] = rw codes_nil (run_stop is_word [] refl)
word_parts (b ∷ t) = elim (tested (is_word b)) [
  | inl is ↦
      let low = word_ascii b is in
      let f = codes_ascii b t low in
      rw (is, f) (run_more is_word b (codes_of t) is ∙ ap (with_first b) (word_parts t) ∙ parts_more b t (prefix_len is_word t))
  | inr not ↦ rw not (run_stop is_word (codes_of (b ∷ t)) (no_word_begins b t not))
]

-- the word, and what is left behind it
pub word_text : (bytes : List ℕ) (n : ℕ) → n ≡ prefix_len is_word bytes → take n bytes ≡ (run is_word (codes_of bytes)).0
word_text bytes n e = ap (λ (m : ℕ). take m bytes) e ∙ sym (ap (λ (p : List ℕ × Text). p.0) (word_parts bytes))

pub word_left : (bytes : List ℕ) (n : ℕ) → n ≡ prefix_len is_word bytes → codes_of (take (length bytes - n) (drop n bytes)) ≡ (run is_word (codes_of bytes)).1
word_left bytes n e =
    ap codes_of (take_rest bytes n) ∙ ap (λ (m : ℕ). codes_of (drop m bytes)) e ∙ sym (ap (λ (p : List ℕ × Text). p.1) (word_parts bytes))

-- what comes next is before what follows it
pub first_behind : (t : Text) (c : ℕ) → first t ≡ Some c → t ≡ c ∷ behind t
unfolding behind
first_behind [] c e = absurd cc
first_behind (d ∷ t) c e = let same : d ≡ c = cc in ap (λ (x : ℕ). x ∷ t) same
