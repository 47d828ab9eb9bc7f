-- What bytes say as UTF-8, byte by byte.
--
-- Where the bytes are the UTF-8 form of a character (the Unicode Standard, section 3.9, definition D92), they say its code,
-- which is below 1,114,112. A byte that begins no character says its mark, which is no character's code. So nothing is
-- left out and nothing is refused: a reader says itself what a mark means where it stands.
use Rattle.std.specs.Prelude.{◌≡◌, ℕ, zero, suc, ◌+◌, ◌-◌, Bool, List, [], ◌∷◌, ◌++◌, Option, Some, None, length, nat_le, ◌<◌, MatchBool, if◌then◌else◌}
use Rattle.std.specs.Char.{IsScalar, encode_utf8}
use Rattle.bstr.specs.Utf8.{decoded}
use Rattle.reading.specs.declared.code.Code.{Code}
use Rattle.reading.specs.declared.code.Code.TheVariants.{Char, Byte}

-- The mark of a byte that begins no character.
abbrev pub mark : ℕ → ℕ
mark b = 0x110000 + b

abbrev pub is_mark : ℕ → Bool
is_mark c = nat_le 0x110000 c

-- What the code's character, or its byte, is in a list of codes.
abbrev pub code_of : Code → ℕ
code_of (Char c) = c
code_of (Byte b) = mark b

-- The character of the code, if it is one's.
abbrev pub char_of : ℕ → Option ℕ
char_of c = if is_mark c then None else Some c

-- A number that is a character's code, or the mark of a byte.
abbrev pub IsCode : ℕ → Type 0
IsCode c = MatchBool (is_mark c) (c < 0x110100) (IsScalar c)

-- ---- the codes, by the table

-- What bytes that begin with b say first, where the Standard's Table 3-7 (well-formed UTF-8 byte sequences) has this there.
abbrev pub front_code : ℕ → Option ℕ → ℕ
front_code b (Some c) = c
front_code b None = mark b

-- How many bytes behind the first belong to it.
abbrev pub front_more : Option ℕ → ℕ → ℕ
front_more (Some c) size = size - 1
front_more None size = 0

-- What the bytes say of which the first n belong to the character before them.
unfoldable pub codes_behind : ℕ → List ℕ → List ℕ
codes_behind n [] = []
codes_behind (suc n) (b ∷ t) = codes_behind n t
codes_behind zero (b ∷ t) = front_code b (decoded (b ∷ t)).char ∷ codes_behind (front_more (decoded (b ∷ t)).char (decoded (b ∷ t)).size) t

-- What bytes say: the code of each character, and the mark of each byte that belongs to none.
unfoldable pub codes_of : List ℕ → List ℕ
codes_of bytes = codes_behind 0 bytes

-- ---- the same, by the Standard's own words

-- No character's UTF-8 form begins these bytes.
abbrev pub BeginsNoCharacter : List ℕ → Type 0
BeginsNoCharacter bytes = (c : ℕ) (rest : List ℕ) → IsScalar c → bytes ≡ encode_utf8 c ++ rest → ⊥

-- Bytes and what they say, by cases: nothing; the UTF-8 form of a character, and more; a byte that begins none, and more.
pub data Says : List ℕ → List ℕ → Type 0 where
  nothing : Says [] []
  character : (c : ℕ) (rest codes : List ℕ) → IsScalar c → Says rest codes → Says (encode_utf8 c ++ rest) (c ∷ codes)
  byte : (b : ℕ) (rest codes : List ℕ) → BeginsNoCharacter (b ∷ rest) → Says rest codes → Says (b ∷ rest) (mark b ∷ codes)

-- ---- sizes

-- How many bytes say this code.
unfoldable pub width : ℕ → ℕ
width c = if is_mark c then 1 else length (encode_utf8 c)

-- How many bytes say these codes.
unfoldable pub size_of : List ℕ → ℕ
size_of [] = 0
size_of (c ∷ codes) = width c + size_of codes
