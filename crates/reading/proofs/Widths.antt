-- How many bytes a code takes.
use Rattle.std.proofs.Common.{◌≡◌, ℕ, ◌<◌, ◌≤◌, true, false, List, ◌∷◌, length, drop, Some, None, slice_index_or, refl, sym, ap, ◌∙◌, arith, inl, inr}
use Rattle.std.specs.Prelude.{nat_le, nat_lt}
use Rattle.std.specs.Char.{IsScalar, encode_utf8, len_utf8}
use lib.Utf8.{scalar_cases}
use Rattle.std.proofs.lemmas.Str.{length-encode}
use Rattle.std.proofs.lemmas.Bool.Decides.{nat_tests}
use Rattle.bstr.specs.Utf8.{decoded}
use Rattle.bstr.proofs.lemmas.PieceLemmas.{size-within}
use Rattle.bstr.proofs.lemmas.SoundLemmas.{SpellsChar-decoded}
use Rattle.reading.specs.Codes.{mark, is_mark, codes_of, width}
use Rattle.reading.proofs.Codes.{codes_char, at_ascii, at_byte}

pub not_mark : (c : ℕ) → IsScalar c → is_mark c ≡ false
not_mark c is =
    elim (scalar_cases c is) [
      | inl low ↦ grind (arith, nat_tests)
      | inr high ↦ let below : c < 1114112 = high.1 in grind (arith, nat_tests)
    ]

pub width_char : (c : ℕ) → IsScalar c → width c ≡ length (encode_utf8 c)
unfolding width
width_char c is = let small = not_mark c is in rw small refl

pub width_mark : (b : ℕ) → width (mark b) ≡ 1
unfolding width
width_mark b = let wide : nat_le 0x110000 (mark b) ≡ true = grind (arith, nat_tests) in rw wide refl

pub width_len : (c : ℕ) → IsScalar c → width c ≡ len_utf8 c
width_len c is = width_char c is ∙ length-encode c

pub width_ascii : (c : ℕ) → c < 128 → width c ≡ 1
width_ascii c low = let is : IsScalar c = grind (arith, nat_tests) in let one : nat_lt c 128 ≡ true = grind (arith, nat_tests) in width_len c is ∙ rw one refl

pub ruleset width_laws = (width_len, width_mark, width_ascii)

-- what decodes, by the width of its code
pub wide_char : (bytes : List ℕ) (c : ℕ) → (decoded bytes).char ≡ Some c → codes_of bytes ≡ c ∷ codes_of (drop (width c) bytes)
wide_char bytes c e =
    let s = SpellsChar-decoded bytes c e in
    let same : (decoded bytes).size ≡ width c = sym (width_char c s.scalar ∙ s.width) in
    codes_char bytes c e ∙ ap (λ (n : ℕ). c ∷ codes_of (drop n bytes)) same

pub wide_size : (bytes : List ℕ) (c : ℕ) → (decoded bytes).char ≡ Some c → width c ≤ length bytes
wide_size bytes c e = let s = SpellsChar-decoded bytes c e in omega (arith, width_char c s.scalar, s.width, size-within bytes)

pub wide_byte : (bytes : List ℕ) → 0 < length bytes → (decoded bytes).char ≡ None → codes_of bytes ≡ mark (slice_index_or bytes 0 0) ∷ codes_of (drop (width (mark (slice_index_or bytes 0 0))) bytes)
wide_byte bytes some e = at_byte bytes some e ∙ ap (λ (n : ℕ). mark (slice_index_or bytes 0 0) ∷ codes_of (drop n bytes)) (sym (width_mark (slice_index_or bytes 0 0)))

pub ascii_front : (bytes : List ℕ) → 0 < length bytes → slice_index_or bytes 0 0 < 128 → codes_of bytes ≡ slice_index_or bytes 0 0 ∷ codes_of (drop (width (slice_index_or bytes 0 0)) bytes)
ascii_front bytes some low = at_ascii bytes some low ∙ ap (λ (n : ℕ). slice_index_or bytes 0 0 ∷ codes_of (drop n bytes)) (sym (width_ascii (slice_index_or bytes 0 0) low))

pub ruleset front_laws = (wide_char, wide_size, wide_byte, ascii_front, width_ascii, width_mark)
