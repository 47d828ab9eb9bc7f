-- The first character, where it is one of ASCII.
use Rattle.std.proofs.Common.{◌≡◌, ℕ, ◌-◌, ◌<◌, ◌≤◌, Bool, true, false, List, [], ◌∷◌, ◌++◌, length, take, drop, Option, Some, None, slice_index_or, refl, sym, ap, ◌∙◌, arith, inl, inr, ◌⊎◌}
use Rattle.std.specs.Prelude.{nat_lt, is_some, IsSome, IfSome}
use Rattle.std.specs.Char.{is_ascii_digit}
use Rattle.std.proofs.lemmas.Bool.{cases_lt}
use Rattle.std.proofs.lemmas.Bool.Decides.{nat_tests}
use Rattle.std.proofs.lemmas.Str.{encode_ascii}
use Rattle.bstr.specs.Utf8.{decoded}
use Rattle.bstr.proofs.lemmas.SoundLemmas.{SpellsChar, SpellsChar-decoded}
use Rattle.reading.specs.Codes.{mark, codes_of}
use Rattle.reading.specs.Reading.{Text, ascii, first}
use Rattle.reading.specs.Runs.{begins}
use Rattle.reading.proofs.RunLaws.{false_or_true}
use Rattle.reading.proofs.Codes.{codes_nil, codes_ascii, codes_byte, codes_char, ascii_slice}

ascii_low : (c : ℕ) (t : Text) → c < 128 → ascii (c ∷ t) ≡ Some c
ascii_low c t low = let is : nat_lt c 128 ≡ true = grind (arith, nat_tests) in rw is refl

ascii_high : (c : ℕ) (t : Text) → 128 ≤ c → ascii (c ∷ t) ≡ None
ascii_high c t high = let is : nat_lt c 128 ≡ false = grind (arith, nat_tests) in rw is refl

-- a character of which the first byte is 128 or more is no character of ASCII
spelled_high : (b : ℕ) (t : List ℕ) (c size : ℕ) → 128 ≤ b → SpellsChar (b ∷ t) c size → 128 ≤ c
spelled_high b t c size high s =
    elim (cases_lt c 128) [
      | inl low ↦
          let spelled : b ∷ t ≡ c ∷ drop size (b ∷ t) = s.bytes ∙ ap (λ (l : List ℕ). l ++ drop size (b ∷ t)) (encode_ascii c low) in
          let same : b ≡ c = cc in
          absurd (omega (arith, same))
      | inr wide ↦ wide
    ]

none_or_some : (o : Option ℕ) → (o ≡ None) ⊎ ((c : ℕ) × (o ≡ Some c))
none_or_some None = inl refl
none_or_some (Some c) = inr (c, refl)

-- bytes of which the first is 128 or more say no character of ASCII first
high_byte : (b : ℕ) (t : List ℕ) → 128 ≤ b → ascii (codes_of (b ∷ t)) ≡ None
high_byte b t high =
    elim (none_or_some (decoded (b ∷ t)).char) [
      | inl e ↦ ap ascii (codes_byte b t e) ∙ ascii_high (mark b) (codes_of t) (omega arith)
      | inr h ↦
          let wide : 128 ≤ h.0 = spelled_high b t h.0 (decoded (b ∷ t)).size high (SpellsChar-decoded (b ∷ t) h.0 h.1) in
          ap ascii (codes_char (b ∷ t) h.0 h.1) ∙ ascii_high h.0 (codes_of (drop (decoded (b ∷ t)).size (b ∷ t))) wide
    ]

-- ---- by the first byte of a slice, for tactics

pub front_end : (bytes : List ℕ) → length bytes ≡ 0 → ascii (codes_of bytes) ≡ None
front_end [] none = ap ascii codes_nil
front_end (b ∷ t) none = absurd (omega (arith, none))

pub front_low : (bytes : List ℕ) → 0 < length bytes → slice_index_or bytes 0 0 < 128 → ascii (codes_of bytes) ≡ Some (slice_index_or bytes 0 0)
front_low [] some low = absurd (omega arith)
front_low (b ∷ t) some low = ap ascii (codes_ascii b t low) ∙ ascii_low b (codes_of t) low

pub front_high : (bytes : List ℕ) → 0 < length bytes → 128 ≤ slice_index_or bytes 0 0 → ascii (codes_of bytes) ≡ None
front_high [] some high = absurd (omega arith)
front_high (b ∷ t) some high = high_byte b t high

pub ruleset front_ascii = (front_end, front_low, front_high)

pub pass_some : (bytes : List ℕ) → IsSome (ascii (codes_of bytes)) → 0 < length bytes
pass_some [] is = let none : is_some (ascii (codes_of [])) ≡ false = ap (λ (t : Text). is_some (ascii t)) codes_nil in absurd cc
pass_some (b ∷ t) is = omega arith

-- what is left behind the character
pub pass_left : (bytes : List ℕ) → 0 < length bytes → IfSome (ascii (codes_of bytes)) (λ c. codes_of bytes ≡ c ∷ codes_of (take (length bytes - 1) (drop 1 bytes)))
pass_left bytes some =
    elim (cases_lt (slice_index_or bytes 0 0) 128) [
      | inl low ↦ rw (front_low bytes some low) (ascii_slice bytes some low)
      | inr high ↦ rw (front_high bytes some high) tt
    ]

pub ruleset pass_laws = (pass_some, pass_left)

-- ---- by what stands next, for tactics

some_is : (x y : ℕ) → ◌≡◌ {A = Option ℕ} (Some x) (Some y) → x ≡ y
some_is x y e = cc

pub ascii_is : (d c : ℕ) (t : Text) → ascii (d ∷ t) ≡ Some c → d ≡ c
ascii_is d c t e =
    elim (cases_lt d 128) [
      | inl low ↦ some_is d c (sym (ascii_low d t low) ∙ e)
      | inr high ↦ let none : ◌≡◌ {A = Option ℕ} None (Some c) = sym (ascii_high d t high) ∙ e in absurd cc
    ]

pub ascii_first : (t : Text) (c : ℕ) → ascii t ≡ Some c → first t ≡ Some c
ascii_first [] c e = absurd cc
ascii_first (d ∷ t) c e = ap (λ (n : ℕ). first (n ∷ t)) (ascii_is d c t e)

pub ascii_begins : (class : ℕ → Bool) (t : Text) (c : ℕ) → ascii t ≡ Some c → begins class t ≡ class c
ascii_begins class [] c e = absurd cc
ascii_begins class (d ∷ t) c e = ap class (ascii_is d c t e)

pub ascii_none : (c : ℕ) (t : Text) → ascii (c ∷ t) ≡ None → 128 ≤ c
ascii_none c t e =
    elim (cases_lt c 128) [
      | inl low ↦ let some : ◌≡◌ {A = Option ℕ} None (Some c) = sym e ∙ ascii_low c t low in absurd cc
      | inr high ↦ high
    ]

-- where no character of ASCII stands next, none of a class of such does
pub no_ascii : (class : ℕ → Bool) (t : Text) → ascii t ≡ None → ((c : ℕ) → class c ≡ true → c < 128) → begins class t ≡ false
no_ascii class [] e low = refl
no_ascii class (c ∷ t) e low =
    elim (false_or_true (class c)) [
      | inl other ↦ other
      | inr is ↦ absurd (omega (arith, low c is, ascii_none c t e))
    ]

pub ruleset ascii_laws = (ascii_is, ascii_first, ascii_begins)

-- ---- digits, by the first byte of a slice

digit_low : (c : ℕ) → is_ascii_digit c ≡ true → c < 128
digit_low c is = grind (arith, nat_tests)

pub digit_end : (bytes : List ℕ) → length bytes ≡ 0 → begins is_ascii_digit (codes_of bytes) ≡ false
digit_end bytes none = no_ascii is_ascii_digit (codes_of bytes) (front_end bytes none) digit_low

pub digit_here : (bytes : List ℕ) → 0 < length bytes → is_ascii_digit (slice_index_or bytes 0 0) ≡ true → codes_of bytes ≡ slice_index_or bytes 0 0 ∷ codes_of (take (length bytes - 1) (drop 1 bytes))
digit_here bytes some is = ascii_slice bytes some (digit_low (slice_index_or bytes 0 0) is)

pub digit_not : (bytes : List ℕ) → 0 < length bytes → is_ascii_digit (slice_index_or bytes 0 0) ≡ false → begins is_ascii_digit (codes_of bytes) ≡ false
digit_not bytes some not =
    elim (cases_lt (slice_index_or bytes 0 0) 128) [
      | inl low ↦ ascii_begins is_ascii_digit (codes_of bytes) (slice_index_or bytes 0 0) (front_low bytes some low) ∙ not
      | inr high ↦ no_ascii is_ascii_digit (codes_of bytes) (front_high bytes some high) digit_low
    ]

pub ruleset digit_laws = (digit_end, digit_here, digit_not)
