-- Bytes say exactly the codes that the Standard's words give them.
use Rattle.std.proofs.Common.{◌≡◌, ℕ, zero, suc, ◌+◌, ◌/◌, ◌%◌, ◌<◌, ◌≤◌, true, false, eqb, List, [], ◌∷◌, ◌++◌, length, drop, Option, Some, None, refl, sym, ap, subst, ◌∙◌, arith, length-append, length-drop, inl, inr, ◌⊎◌}
use Rattle.std.specs.Char.{encode_utf8}
use Rattle.std.specs.Str.{IsUtf8, chars, encode_utf8_all}
use lib.Utf8.{scalars, low_scalar}
use Rattle.std.proofs.lemmas.List.Recursion.{is_count_by}
use Rattle.std.proofs.lemmas.Bool.{cases_lt}
use Rattle.std.specs.Prelude.{nat_lt, count_by, ◌==◌}
use Rattle.std.proofs.lemmas.Bool.Decides.{nat_tests}
use Rattle.reading.specs.Lines.{line_feeds}
use Rattle.std.proofs.lemmas.Str.{chars-encodes, encode_ascii}
use Rattle.std.proofs.lemmas.Bool.{and_parts}
use Rattle.bstr.specs.Utf8.{decoded}
use Rattle.bstr.proofs.lemmas.PieceLemmas.{piece-bounds}
use Rattle.bstr.proofs.lemmas.EncodeLemmas.{decoded-encode}
use Rattle.bstr.proofs.lemmas.SoundLemmas.{SpellsChar, SpellsChar-decoded}
use Rattle.reading.specs.Codes.{mark, codes_of, BeginsNoCharacter, Says, size_of}
use Rattle.reading.proofs.Widths.{width_char, width_mark}
use Rattle.reading.proofs.Codes.{codes_nil, codes_char, codes_encode, codes_byte}

none_or_some : (o : Option ℕ) → (o ≡ None) ⊎ ((c : ℕ) × (o ≡ Some c))
none_or_some None = inl refl
none_or_some (Some c) = inr (c, refl)

-- bytes that don't decode begin with no character
begins_none : (bytes : List ℕ) → (decoded bytes).char ≡ None → BeginsNoCharacter bytes
begins_none bytes e = λ c rest is same.
    let found : (decoded bytes).char ≡ Some c = ap (λ (l : List ℕ). (decoded l).char) same ∙ ap (λ p. p.char) (decoded-encode c rest is) in
    cc

-- and bytes that begin with none don't
none_begins : (bytes : List ℕ) → BeginsNoCharacter bytes → (decoded bytes).char ≡ None
none_begins bytes not =
    elim (none_or_some (decoded bytes).char) [
      | inl e ↦ e
      | inr h ↦ let s = SpellsChar-decoded bytes h.0 h.1 in absurd (not h.0 (drop (decoded bytes).size bytes) s.scalar s.bytes)
    ]

says_char : (bytes : List ℕ) (c size : ℕ) → SpellsChar bytes c size → Says (drop size bytes) (codes_of (drop size bytes)) → Says bytes (c ∷ codes_of (drop size bytes))
says_char bytes c size s rest =
    subst (λ (l : List ℕ). Says l (c ∷ codes_of (drop size bytes))) (sym s.bytes) (Says.character c (drop size bytes) (codes_of (drop size bytes)) s.scalar rest)

says_by : (n : ℕ) (bytes : List ℕ) → length bytes ≤ n → Says bytes (codes_of bytes)
says_by n [] le = rw codes_nil Says.nothing
says_by zero (b ∷ t) le = absurd (omega arith)
says_by (suc n) (b ∷ t) le =
    elim (none_or_some (decoded (b ∷ t)).char) [
      | inl e ↦ subst (λ (l : List ℕ). Says (b ∷ t) l) (sym (codes_byte b t e)) (Says.byte b t (codes_of t) (begins_none (b ∷ t) e) (says_by n t (omega arith)))
      | inr h ↦
          let size = (decoded (b ∷ t)).size in
          let some : 0 < length (b ∷ t) = omega arith in
          let less : length (drop size (b ∷ t)) ≤ n = omega (arith, length-drop size (b ∷ t), piece-bounds (b ∷ t) some) in
          subst (λ (l : List ℕ). Says (b ∷ t) l) (sym (codes_char (b ∷ t) h.0 h.1)) (says_char (b ∷ t) h.0 size (SpellsChar-decoded (b ∷ t) h.0 h.1) (says_by n (drop size (b ∷ t)) less))
    ]

-- what bytes say
pub says : (bytes : List ℕ) → Says bytes (codes_of bytes)
says bytes = says_by (length bytes) bytes (omega arith)

-- and nothing else
pub says_only : {bytes codes : List ℕ} → Says bytes codes → codes_of bytes ≡ codes
says_only Says.nothing = codes_nil
says_only (Says.character c rest codes is more) = codes_encode c rest is ∙ ap (λ (l : List ℕ). c ∷ l) (says_only more)
says_only (Says.byte b rest codes not more) = codes_byte b rest (none_begins (b ∷ rest) not) ∙ ap (λ (l : List ℕ). mark b ∷ l) (says_only more)

says_encodes : (cs : List ℕ) → scalars cs ≡ true → Says (encode_utf8_all cs) cs
says_encodes [] all = Says.nothing
says_encodes (c ∷ cs) all = let both = and_parts _ _ all in Says.character c (encode_utf8_all cs) cs both.0 (says_encodes cs both.1)

-- a text says its characters
pub says_chars : (bytes : List ℕ) → IsUtf8 bytes → codes_of bytes ≡ chars bytes
says_chars bytes u =
    let cs = u.0 in
    let all = u.1.0 in
    let spelled = u.1.1 in
    ap codes_of (sym spelled) ∙ says_only (says_encodes cs all) ∙ sym (chars-encodes cs all) ∙ ap chars spelled

-- ---- sizes and line feeds

-- the codes' sizes are the bytes
pub size_says : {bytes codes : List ℕ} → Says bytes codes → size_of codes ≡ length bytes
unfolding size_of
size_says Says.nothing = refl
size_says (Says.character c rest codes is more) = omega (arith, width_char c is, size_says more, length-append (encode_utf8 c) rest)
size_says (Says.byte b rest codes not more) = omega (arith, width_mark b, size_says more)

pub size_codes : (bytes : List ℕ) → size_of (codes_of bytes) ≡ length bytes
size_codes bytes = size_says (says bytes)

feeds_over : (b : ℕ) (t : List ℕ) → 128 ≤ b → line_feeds (b ∷ t) ≡ line_feeds t
unfolding line_feeds
feeds_over b t high = let other : eqb b 10 ≡ false = grind (arith, nat_tests) in rw other refl

-- the UTF-8 form of a character has a line feed where the character is one
feeds_encode : (c : ℕ) (rest : List ℕ) → line_feeds (encode_utf8 c ++ rest) ≡ line_feeds (c ∷ rest)
unfolding encode_utf8
feeds_encode c rest =
    elim (cases_lt c 128) [
      | inl one ↦ let e : nat_lt c 128 ≡ true = grind (arith, nat_tests) in rw e refl
      | inr more ↦
          let not_one : nat_lt c 128 ≡ false = grind (arith, nat_tests) in
          let plain : line_feeds (c ∷ rest) ≡ line_feeds rest = feeds_over c rest more in
          elim (cases_lt c 2048) [
            | inl two ↦
                let e : nat_lt c 2048 ≡ true = grind (arith, nat_tests) in
                rw (not_one, e, plain) (feeds_over (192 + c / 64) ((128 + c % 64) ∷ rest) (omega arith) ∙ feeds_over (128 + c % 64) rest (omega arith))
            | inr wide ↦
                let not_two : nat_lt c 2048 ≡ false = grind (arith, nat_tests) in
                let third : line_feeds ((128 + (c / 64) % 64) ∷ (128 + c % 64) ∷ rest) ≡ line_feeds rest = feeds_over (128 + (c / 64) % 64) ((128 + c % 64) ∷ rest) (omega arith) ∙ feeds_over (128 + c % 64) rest (omega arith) in
                elim (cases_lt c 65536) [
                  | inl three ↦
                      let e : nat_lt c 65536 ≡ true = grind (arith, nat_tests) in
                      rw (not_one, not_two, e, plain) (feeds_over (224 + c / 4096) ((128 + (c / 64) % 64) ∷ (128 + c % 64) ∷ rest) (omega arith) ∙ third)
                  | inr four ↦
                      let e : nat_lt c 65536 ≡ false = grind (arith, nat_tests) in
                      rw (not_one, not_two, e, plain)
                      (feeds_over (240 + c / 262144) ((128 + (c / 4096) % 64) ∷ (128 + (c / 64) % 64) ∷ (128 + c % 64) ∷ rest) (omega arith)
                      ∙ feeds_over (128 + (c / 4096) % 64) ((128 + (c / 64) % 64) ∷ (128 + c % 64) ∷ rest) (omega arith) ∙ third)
                ]
          ]
    ]

high_byte : (b : ℕ) (rest : List ℕ) → BeginsNoCharacter (b ∷ rest) → 128 ≤ b
high_byte b rest not =
    elim (cases_lt b 128) [
      | inl low ↦ absurd (not b rest (low_scalar b (omega arith)) (ap (λ (l : List ℕ). l ++ rest) (sym (encode_ascii b low))))
      | inr high ↦ high
    ]

feeds_same : (c : ℕ) (t u : List ℕ) → line_feeds t ≡ line_feeds u → line_feeds (c ∷ t) ≡ line_feeds (c ∷ u)
unfolding line_feeds
feeds_same c t u e = rw e refl

feeds_says : {bytes codes : List ℕ} → Says bytes codes → line_feeds codes ≡ line_feeds bytes
feeds_says Says.nothing = refl
feeds_says (Says.character c rest codes is more) = feeds_same c codes rest (feeds_says more) ∙ sym (feeds_encode c rest)
feeds_says (Says.byte b rest codes not more) = feeds_over (mark b) codes (omega arith) ∙ feeds_says more ∙ sym (feeds_over b rest (high_byte b rest not))

-- bytes have the line feeds of what they say
pub feeds_codes : (bytes : List ℕ) → line_feeds (codes_of bytes) ≡ line_feeds bytes
feeds_codes bytes = feeds_says (says bytes)

pub feeds_count : (t : List ℕ) → line_feeds t ≡ count_by (λ c. c == 10) t
unfolding line_feeds
feeds_count = is_count_by line_feeds (λ c. c == 10) refl (λ c t. refl)

pub size_chars : (bytes : List ℕ) → IsUtf8 bytes → size_of (chars bytes) ≡ length bytes
size_chars bytes u = ap size_of (sym (says_chars bytes u)) ∙ size_codes bytes
