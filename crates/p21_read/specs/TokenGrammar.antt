-- What a token is, by cases (ISO 10303-21: token separators, special tokens, keywords, simple data type encodings).
-- In each relation the last text is what follows what was read.
use Rattle.std.specs.Prelude.{◌≡◌, ℕ, ◌+◌, ◌*◌, ◌-◌, ◌<◌, ◌≤◌, min, map, fold, not, Bool, true, false, ◌&&◌, ◌||◌, List, [], ◌∷◌, Some, length, ◌==◌}
use Rattle.std.specs.List.{list_all}
use Rattle.std.specs.Char.{is_ascii_digit, is_ascii_hexdigit, is_ascii_lowercase, to_ascii_uppercase}
use Rattle.reading.specs.Reading.{Text}
use Rattle.reading.specs.Runs.{begins, IsRun}
use Rattle.ifc_base.specs.declared.value.Decimal.{Decimal}
use Rattle.decimal_fix.specs.Reading.{reading}
use Rattle.p21_read.specs.declared.number.Number.{Number}
use Rattle.p21_read.specs.declared.number.Number.TheVariants.{Int, Real}
use Rattle.p21_read.specs.declared.word.Word.{Word}
use Rattle.p21_read.specs.declared.token.Token.{Token}
use Rattle.p21_read.specs.declared.token.Token.TheVariants as k
use Rattle.p21_read.specs.Gap.{is_blank}
use Rattle.p21_read.specs.Numbers.{is_numeral, signed}
use Rattle.p21_read.specs.Words.{is_letter, is_name, is_word, is_surplus}
use Rattle.p21_read.specs.StringGrammar.{Quoted}

-- ---- blanks and comments

-- the text begins with `*/`
abbrev pub closes : Text → Bool
closes [] = false
closes (c ∷ t) = c == 42 && begins (λ d. d == 47) t

-- Inside a comment: the first `*/` ends it.
pub data Comment : Text → Text → Type 0 where
  ends : (t : Text) → Comment (42 ∷ 47 ∷ t) t
  goes_on : (c : ℕ) (t u : Text) → closes (c ∷ t) ≡ false → Comment t u → Comment (c ∷ t) u

-- a blank, or a slash, which only comments have
abbrev pub is_gap : ℕ → Bool
is_gap c = c == 47 || is_blank c

-- Blanks and comments, and no more of them.
pub data Gap : Text → Text → Type 0 where
  none : (t : Text) → begins is_gap t ≡ false → Gap t t
  blank : (c : ℕ) (t u : Text) → is_blank c ≡ true → Gap t u → Gap (c ∷ t) u
  comment : (t v u : Text) → Comment t v → Gap v u → Gap (47 ∷ 42 ∷ t) u

-- ---- numbers

-- the number that digits write
abbrev pub number_of : List ℕ → ℕ
number_of ds = fold (λ n d. 10 * n + (d - 48)) 0 ds

-- A sign, if there is one, before a digit; the flag says that it is a minus.
pub data Sign : Text → Bool → Text → Type 0 where
  none : (c : ℕ) (t : Text) → is_ascii_digit c ≡ true → Sign (c ∷ t) false (c ∷ t)
  plus : (t : Text) → Sign (43 ∷ t) false t
  minus : (t : Text) → Sign (45 ∷ t) true t

-- a number begins with a sign, a digit, or a point and a digit
abbrev pub begins_number : Text → Bool
begins_number [] = false
begins_number (c ∷ t) = c == 43 || c == 45 || is_ascii_digit c || (c == 46 && begins is_ascii_digit t)

-- digits alone, behind a sign or none
abbrev pub is_integer : Text → Bool
is_integer [] = true
is_integer (c ∷ t) = (c == 43 || c == 45 || is_ascii_digit c) && list_all is_ascii_digit t

-- An integer is an optional sign and 1 to 18 digits, where the numeral doesn't go on. A real is another numeral, as long as can be, by the
-- decimal rule.
pub data IsNumber : Text → Number → Text → Type 0 where
  integer : (negative : Bool) (t r ds u : Text) → Sign t negative r → IsRun is_ascii_digit r ds u → begins is_numeral u ≡ false → 0 < length ds → length ds ≤ 18
      → IsNumber t (Int (signed negative (number_of ds))) u
  real : (t xs u : Text) (d : Decimal) → begins_number t ≡ true → IsRun is_numeral t xs u → is_integer xs ≡ false → reading xs ≡ Some d → IsNumber t (Real d) u

-- ---- words

-- a word as it was written: in upper case, and whether no letter was small and none was a hyphen
abbrev pub word_of : List ℕ → Word
word_of cs = record {
  name = map to_ascii_uppercase cs;
  capitals = list_all (λ c. not (is_ascii_lowercase c)) cs;
  plain = list_all (λ c. not (c == 45)) cs;
}

-- ---- tokens

-- One token, as long as can be, or the end. The number of an instance past 4,294,967,295 is that. A binary's first digit is from 0 to 3.
pub data IsToken : Text → Token → Text → Type 0 where
  end : IsToken [] k.End []
  dollar : (t : Text) → IsToken (36 ∷ t) k.Dollar t
  star : (t : Text) → IsToken (42 ∷ t) k.Star t
  left : (t : Text) → IsToken (40 ∷ t) k.Open t
  right : (t : Text) → IsToken (41 ∷ t) k.Close t
  comma : (t : Text) → IsToken (44 ∷ t) k.Comma t
  equals : (t : Text) → IsToken (61 ∷ t) k.Equals t
  semicolon : (t : Text) → IsToken (59 ∷ t) k.Semicolon t
  quoted : (t : Text) (s : List ℕ) (u : Text) → Quoted t s u → IsToken (39 ∷ t) (k.Quoted s) u
  binary : (c : ℕ) (t ds u : Text) → is_surplus c ≡ true → IsRun is_ascii_hexdigit t ds (34 ∷ u) → IsToken (34 ∷ c ∷ t) (k.Binary (c ∷ ds)) u
  id : (t ds u : Text) → IsRun is_ascii_digit t ds u → 0 < length ds → IsToken (35 ∷ t) (k.Id (min (number_of ds) 0xFFFF_FFFF)) u
  enumer : (c : ℕ) (t cs u : Text) → is_letter c ≡ true → IsRun is_name t cs (46 ∷ u) → IsToken (46 ∷ c ∷ t) (k.Enumer (map to_ascii_uppercase (c ∷ cs))) u
  number : (t : Text) (n : Number) (u : Text) → IsNumber t n u → IsToken t (k.Number n) u
  word : (c : ℕ) (t cs u : Text) → is_letter c ≡ true → IsRun is_word t cs u → IsToken (c ∷ t) (k.Word (word_of (c ∷ cs))) u

-- The next token, behind blanks and comments.
pub data Next : Text → Token → Text → Type 0 where
  next : (t s : Text) (token : Token) (u : Text) → Gap t s → IsToken s token u → Next t token u
