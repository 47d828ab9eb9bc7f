-- Keywords, names of enumeration values, binaries and section words (ISO 10303-21, tokens).
use Rattle.std.specs.Prelude.{ℕ, Bool, true, ◌&&◌, ◌||◌, not, List, [], ◌∷◌, ◌++◌, Option, Some, None, Ok, ◌==◌, nat_le, if◌then◌else◌}
use Rattle.std.specs.Char.{is_ascii_digit, is_ascii_hexdigit, is_ascii_alphabetic, is_ascii_lowercase, to_ascii_uppercase}
use Rattle.reading.specs.Reading.{Text, Read, refuse}
use Rattle.p21_read.specs.declared.fault.P21Cause.{P21Cause}
use Rattle.p21_read.specs.declared.fault.P21Cause.TheVariants.{Unclosed, BadToken}
use Rattle.p21_read.specs.declared.word.Word.{Word}

-- a letter of ASCII, or `_`
abbrev pub is_letter : ℕ → Bool
is_letter c = is_ascii_alphabetic c || c == 95

-- what a name goes on with
abbrev pub is_name : ℕ → Bool
is_name c = is_letter c || is_ascii_digit c

-- what a word goes on with: section words, as `END-ISO-10303-21`, have hyphens
abbrev pub is_word : ℕ → Bool
is_word c = is_name c || c == 45

-- the code, if it is of the class
abbrev pub of_class : (ℕ → Bool) → ℕ → Option ℕ
of_class class c = if class c then Some c else None

-- The codes of the class that come next, behind those that have been read, and what is left.
unfoldable pub gather : (ℕ → Bool) → (ℕ → ℕ) → List ℕ → Text → List ℕ × Text
gather class kept s [] = (s, [])
gather class kept s (c ∷ t) = if class c then gather class kept (s ++ kept c ∷ []) t else (s, c ∷ t)

-- ---- words

-- No letters so far. `capitals` says that none is small, and `plain` that none is a hyphen.
abbrev pub no_word : Word
no_word = record { name = []; capitals = true; plain = true }

-- one letter more; `name` has it in upper case
abbrev pub with_letter : Word → ℕ → Word
with_letter w c = record { name = w.name ++ to_ascii_uppercase c ∷ []; capitals = w.capitals && not (is_ascii_lowercase c); plain = w.plain && not (c == 45) }

-- the word that comes next, behind what has been read of it, and what is left
unfoldable pub word : Word → Text → Word × Text
word w [] = (w, [])
word w (c ∷ t) = if is_word c then word (with_letter w c) t else (w, c ∷ t)

-- ---- names of enumeration values

-- behind the name, a point
unfoldable pub enumer_end : Text → List ℕ × Text → Read P21Cause (List ℕ)
enumer_end at (s, []) = refuse BadToken at
enumer_end at (s, c ∷ t) = if c == 46 then Ok (s, t) else refuse BadToken at

-- behind the point at `at`: a name, in upper case, and a point
unfoldable pub enumer : Text → Text → Read P21Cause (List ℕ)
enumer at [] = refuse BadToken at
enumer at (c ∷ t) = if is_letter c then enumer_end at (gather is_name to_ascii_uppercase (to_ascii_uppercase c ∷ []) t) else refuse BadToken at

-- ---- binaries

-- behind the digits, a quotation mark
unfoldable pub binary_end : Text → List ℕ × Text → Read P21Cause (List ℕ)
binary_end at (s, []) = refuse Unclosed at
binary_end at (s, c ∷ t) = if c == 34 then Ok (s, t) else refuse BadToken at

-- the first digit of a binary is the number of bits that its digits have too many
abbrev pub is_surplus : ℕ → Bool
is_surplus c = nat_le 48 c && nat_le c 51

-- behind the quotation mark at `at`: hexadecimal digits, the first from 0 to 3, and a quotation mark
unfoldable pub binary : Text → Text → Read P21Cause (List ℕ)
binary at [] = refuse Unclosed at
binary at (c ∷ t) = if is_surplus c then binary_end at (gather is_ascii_hexdigit (λ d. d) (c ∷ []) t) else refuse BadToken at
