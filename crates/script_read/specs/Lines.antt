-- The lines of a script.
use Rattle.std.specs.Prelude.{ℕ, ◌-◌, List, [], ◌∷◌, length, take, drop, ◌==◌, if◌then◌else◌}
use Rattle.std.specs.Str.{bytes_eq}

-- What stands before each line feed (10) in order, and what stands behind the last one.
pub data Pieces : Type 0 where
  last : List ℕ → Pieces
  before_feed : List ℕ → Pieces → Pieces

-- with one more byte, which is no line feed, at the front
abbrev pub with_byte : ℕ → Pieces → Pieces
with_byte b (last rest) = last (b ∷ rest)
with_byte b (before_feed first others) = before_feed (b ∷ first) others

unfoldable pub cut : List ℕ → Pieces
cut [] = last []
cut (b ∷ bytes) = if b == 10 then before_feed [] (cut bytes) else with_byte b (cut bytes)

-- without the carriage return (13) that may stand at the end
unfoldable pub without_return : List ℕ → List ℕ
without_return text = if bytes_eq (drop (length text - 1) text) (13 ∷ []) then take (length text - 1) text else text

-- Each line is what stands before a line feed, without a carriage return right before it. What stands behind the last line feed is a
-- line too.
unfoldable pub lines_of : Pieces → List (List ℕ)
lines_of (last rest) = rest ∷ []
lines_of (before_feed first others) = without_return first ∷ lines_of others

-- the lines of these bytes
abbrev pub script_lines : List ℕ → List (List ℕ)
script_lines bytes = lines_of (cut bytes)
