-- Which characters stand for themselves in a pattern, and what a backslash makes of the next one.
use Rattle.std.specs.Prelude.{ℕ, ◌-◌, Bool, ◌||◌, not, Option, Some, None, ◌==◌, if◌then◌else◌}
use Rattle.std.specs.Char.{is_ascii_digit}
use Rattle.pattern_tree.specs.declared.tree.Class.{Class}
use Rattle.pattern_tree.specs.declared.tree.Class.TheVariants.{Digit, Word, Space, NotDigit, NotWord, NotSpace}

-- The characters that a pattern uses for itself: \ | . ? * + { } ( ) [ ]
unfoldable pub is_reserved : ℕ → Bool
is_reserved c =
    c == 92 || c == 124 || c == 46 || c == 63 || c == 42 || c == 43 || c == 123 || c == 125 || c == 40 || c == 41 || c == 91 || c == 93

-- Those that a backslash makes stand for themselves: \ | . - ^ ? * + { } ( ) [ ]
unfoldable pub is_escapable : ℕ → Bool
is_escapable c = c == 45 || c == 94 || is_reserved c

-- The character that a backslash and this letter stand for, if for one: line feed, carriage return, tabulator, or the letter
-- itself.
unfoldable pub escaped : ℕ → Option ℕ
escaped e =
    if e == 110 then Some 10
    else if e == 114 then Some 13
    else if e == 116 then Some 9
    else if is_escapable e then Some e
    else None

-- No escape stands for a character past }
abbrev pub greatest_escaped : ℕ
greatest_escaped = 125

-- The class that a backslash and this letter stand for, if for one: \d \w \s, and \D \W \S for all other characters.
unfoldable pub class_of : ℕ → Option Class
class_of e =
    if e == 100 then Some Digit
    else if e == 119 then Some Word
    else if e == 115 then Some Space
    else if e == 68 then Some NotDigit
    else if e == 87 then Some NotWord
    else if e == 83 then Some NotSpace
    else None

-- In a class between brackets: a character that stands for itself, which is any but \ [ ] -
abbrev pub is_plain : ℕ → Bool
is_plain c = not (c == 92 || c == 91 || c == 93 || c == 45)

abbrev pub is_digit : ℕ → Bool
is_digit c = is_ascii_digit c

abbrev pub digit : ℕ → Option ℕ
digit c = if is_digit c then Some (c - 48) else None
