-- What bytes say, from the front.
use Rattle.std.proofs.Common.{◌≡◌, ℕ, zero, suc, ◌-◌, ◌<◌, List, [], ◌∷◌, ◌++◌, length, take, drop, Some, None, slice_index, slice_index_or, refl, sym, ap, ◌∙◌, arith}
use Rattle.std.specs.Char.{IsScalar, encode_utf8}
use Rattle.std.proofs.Math.Seq.{drop-append_seam}
use Rattle.std.proofs.lemmas.List.{take_rest}
use Rattle.bstr.specs.Utf8.{decoded, good}
use Rattle.bstr.proofs.lemmas.PieceLemmas.{piece-bounds, value-1}
use Rattle.bstr.proofs.lemmas.EncodeLemmas.{decoded-encode}
use Rattle.reading.specs.Codes.{mark, front_code, front_more, codes_behind, codes_of}

pub codes_nil : codes_of [] ≡ []
unfolding codes_of codes_behind
codes_nil = refl

behind_drop : (n : ℕ) (bytes : List ℕ) → codes_behind n bytes ≡ codes_of (drop n bytes)
unfolding codes_of codes_behind
behind_drop zero [] = refl
behind_drop (suc n) [] = refl
behind_drop zero (b ∷ t) = refl
behind_drop (suc n) (b ∷ t) = behind_drop n t

codes_step : (b : ℕ) (t : List ℕ)
    → codes_of (b ∷ t) ≡ front_code b (decoded (b ∷ t)).char ∷ codes_of (drop (front_more (decoded (b ∷ t)).char (decoded (b ∷ t)).size) t)
unfolding codes_of codes_behind
codes_step b t = ap (λ (r : List ℕ). front_code b (decoded (b ∷ t)).char ∷ r) (behind_drop (front_more (decoded (b ∷ t)).char (decoded (b ∷ t)).size) t)

-- bytes that decode say the character first
pub codes_char : (bytes : List ℕ) (c : ℕ) → (decoded bytes).char ≡ Some c → codes_of bytes ≡ c ∷ codes_of (drop (decoded bytes).size bytes)
codes_char [] c e = absurd cc
codes_char (b ∷ t) c e =
    let some : 0 < length (b ∷ t) = omega arith in
    let size = piece-bounds (b ∷ t) some in
    let same : (decoded (b ∷ t)).size ≡ suc ((decoded (b ∷ t)).size - 1) = omega (arith, size) in
    codes_step b t ∙ rw e (ap (λ (n : ℕ). c ∷ codes_of (drop n (b ∷ t))) (sym same))

-- the UTF-8 form of a character says its code first
pub codes_encode : (c : ℕ) (rest : List ℕ) → IsScalar c → codes_of (encode_utf8 c ++ rest) ≡ c ∷ codes_of rest
codes_encode c rest is =
    let good_is = decoded-encode c rest is in
    let size : (decoded (encode_utf8 c ++ rest)).size ≡ length (encode_utf8 c) = ap (λ p. p.size) good_is in
    codes_char (encode_utf8 c ++ rest) c (ap (λ p. p.char) good_is)
    ∙ ap (λ (t : List ℕ). c ∷ codes_of t) (ap (λ (n : ℕ). drop n (encode_utf8 c ++ rest)) size ∙ drop-append_seam (encode_utf8 c) rest)

-- a byte that begins none says its mark
pub codes_byte : (b : ℕ) (t : List ℕ) → (decoded (b ∷ t)).char ≡ None → codes_of (b ∷ t) ≡ mark b ∷ codes_of t
codes_byte b t e = codes_step b t ∙ rw e refl

pub codes_ascii : (b : ℕ) (t : List ℕ) → b < 128 → codes_of (b ∷ t) ≡ b ∷ codes_of t
codes_ascii b t low =
    let l = b ∷ t in
    let one : decoded l ≡ good b 1 = value-1 (length l) b (slice_index l 1) (slice_index l 2) (slice_index l 3) (omega arith, low) in
    codes_step b t ∙ rw one refl

-- ---- the same by the first byte of a slice, for tactics

pub at_end : (bytes : List ℕ) → bytes ≡ [] → codes_of bytes ≡ []
at_end bytes e = ap codes_of e ∙ codes_nil

pub at_ascii : (bytes : List ℕ) → 0 < length bytes → slice_index_or bytes 0 0 < 128 → codes_of bytes ≡ slice_index_or bytes 0 0 ∷ codes_of (drop 1 bytes)
at_ascii [] some low = absurd (omega arith)
at_ascii (b ∷ t) some low = codes_ascii b t low

pub at_byte : (bytes : List ℕ) → 0 < length bytes → (decoded bytes).char ≡ None → codes_of bytes ≡ mark (slice_index_or bytes 0 0) ∷ codes_of (drop 1 bytes)
at_byte [] some e = absurd (omega arith)
at_byte (b ∷ t) some e = codes_byte b t e

-- what is left of a slice behind its first byte
pub ascii_slice : (bytes : List ℕ) → 0 < length bytes → slice_index_or bytes 0 0 < 128 → codes_of bytes ≡ slice_index_or bytes 0 0 ∷ codes_of (take (length bytes - 1) (drop 1 bytes))
ascii_slice bytes some low = at_ascii bytes some low ∙ ap (λ (l : List ℕ). slice_index_or bytes 0 0 ∷ codes_of l) (sym (take_rest bytes 1))

pub ruleset next_laws = (at_end, ascii_slice)
