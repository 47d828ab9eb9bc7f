-- What a string in quotes says, by cases (ISO 10303-21, simple data type encodings: string; control directives of strings).
-- In each relation the last text is what follows what was read.
use Rattle.std.specs.Prelude.{◌≡◌, ℕ, ◌+◌, ◌*◌, ◌<◌, ◌≤◌, Bool, true, false, List, [], ◌∷◌, ◌++◌, ◌==◌}
use Rattle.std.specs.Char.{is_ascii_hexdigit, digit_value}
use Rattle.reading.specs.Codes.{is_mark}
use Rattle.reading.specs.Reading.{Text}
use Rattle.reading.specs.Runs.{begins}
use Rattle.p21_read.specs.Quoted.{is_scalar, is_high, is_low, joined}

-- the numbers that two, four and eight hexadecimal digits write
abbrev pub code2 : ℕ → ℕ → ℕ
code2 a b = 16 * digit_value a + digit_value b

abbrev pub code4 : ℕ → ℕ → ℕ → ℕ → ℕ
code4 a b c d = 256 * code2 a b + code2 c d

abbrev pub code8 : ℕ → ℕ → ℕ → ℕ → ℕ → ℕ → ℕ → ℕ → ℕ
code8 a b c d e f g h = 65536 * code4 a b c d + code4 e f g h

-- four hexadecimal digits
pub record AreHex (a b c d : ℕ) : Type 0 where
  pub first : is_ascii_hexdigit a ≡ true
  pub second : is_ascii_hexdigit b ≡ true
  pub third : is_ascii_hexdigit c ≡ true
  pub fourth : is_ascii_hexdigit d ≡ true

-- One character in hexadecimal digits, by the flag in groups of eight or of four: four digits whose code is a character's, or two groups
-- of four that are a surrogate pair of UTF-16, or eight digits whose code is a character's.
pub data Coded : Bool → Text → ℕ → Text → Type 0 where
  four : (a b c d : ℕ) (t : Text) → AreHex a b c d → is_scalar (code4 a b c d) ≡ true → Coded false (a ∷ b ∷ c ∷ d ∷ t) (code4 a b c d) t
  pair : (a b c d e f g h : ℕ) (t : Text) → AreHex a b c d → AreHex e f g h → is_high (code4 a b c d) ≡ true → is_low (code4 e f g h) ≡ true
      → Coded false (a ∷ b ∷ c ∷ d ∷ e ∷ f ∷ g ∷ h ∷ t) (joined (code4 a b c d) (code4 e f g h)) t
  eight : (a b c d e f g h : ℕ) (t : Text) → AreHex a b c d → AreHex e f g h → is_scalar (code8 a b c d e f g h) ≡ true
      → Coded true (a ∷ b ∷ c ∷ d ∷ e ∷ f ∷ g ∷ h ∷ t) (code8 a b c d e f g h) t

-- Behind such a character: `\X0\`, or further ones and then it.
pub data MoreCoded : Bool → Text → List ℕ → Text → Type 0 where
  ends : (long : Bool) (t : Text) → MoreCoded long (92 ∷ 88 ∷ 48 ∷ 92 ∷ t) [] t
  goes_on : (long : Bool) (c : ℕ) (s : List ℕ) (t u w : Text) → Coded long t c u → MoreCoded long u s w → MoreCoded long t (c ∷ s) w

-- One character as it stands, or one directive, with the characters that are meant: `''`, `\\`, `\PA\`, `\X\hh`, `\S\c`, `\X2\..\X0\`,
-- `\X4\..\X0\`. A raw code below 32 means nothing.
pub data Piece : Text → List ℕ → Text → Type 0 where
  plain : (c : ℕ) (t : Text) → is_mark c ≡ false → (c == 39) ≡ false → (c == 92) ≡ false → 32 ≤ c → Piece (c ∷ t) (c ∷ []) t
  unseen : (c : ℕ) (t : Text) → c < 32 → Piece (c ∷ t) [] t
  quote : (t : Text) → Piece (39 ∷ 39 ∷ t) (39 ∷ []) t
  backslash : (t : Text) → Piece (92 ∷ 92 ∷ t) (92 ∷ []) t
  page_a : (t : Text) → Piece (92 ∷ 80 ∷ 65 ∷ 92 ∷ t) [] t
  latin : (a b : ℕ) (t : Text) → is_ascii_hexdigit a ≡ true → is_ascii_hexdigit b ≡ true → Piece (92 ∷ 88 ∷ 92 ∷ a ∷ b ∷ t) (code2 a b ∷ []) t
  shifted : (c : ℕ) (t : Text) → is_scalar (c + 128) ≡ true → Piece (92 ∷ 83 ∷ 92 ∷ c ∷ t) ((c + 128) ∷ []) t
  fours : (c : ℕ) (s : List ℕ) (t r u : Text) → Coded false t c r → MoreCoded false r s u → Piece (92 ∷ 88 ∷ 50 ∷ 92 ∷ t) (c ∷ s) u
  eights : (c : ℕ) (s : List ℕ) (t r u : Text) → Coded true t c r → MoreCoded true r s u → Piece (92 ∷ 88 ∷ 52 ∷ 92 ∷ t) (c ∷ s) u

-- Behind the first quote of a string: its pieces, up to a quote that no other one follows.
pub data Quoted : Text → List ℕ → Text → Type 0 where
  ends : (t : Text) → begins (λ c. c == 39) t ≡ false → Quoted (39 ∷ t) [] t
  more : (t : Text) (cs : List ℕ) (u : Text) (s : List ℕ) (w : Text) → Piece t cs u → Quoted u s w → Quoted t (cs ++ s) w
