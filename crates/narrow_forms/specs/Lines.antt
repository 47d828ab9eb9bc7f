-- Bytes as lines. A line is what stands before a line feed (10).
use Rattle.std.specs.Prelude.{ℕ, ◌+◌, ◌-◌, min, List, [], ◌∷◌, length, ◌==◌, if◌then◌else◌}
use Rattle.narrow_forms.specs.declared.fault.LineFault.{LineFault}

-- Lines in order, and behind the last of them what no line feed ends.
pub data Lines : Type 0 where
  left : List ℕ → Lines
  line : List ℕ → Lines → Lines

-- with one more byte, which is no line feed, at the front
abbrev pub with_byte : ℕ → Lines → Lines
with_byte b (left rest) = left (b ∷ rest)
with_byte b (line first others) = line (b ∷ first) others

-- The lines of these bytes.
unfoldable pub cut : List ℕ → Lines
cut [] = left []
cut (b ∷ bytes) = if b == 10 then line [] (cut bytes) else with_byte b (cut bytes)

-- the lines as a list, without what no line feed ends
unfoldable pub listed : Lines → List (List ℕ)
listed (left rest) = []
listed (line first others) = first ∷ listed others

-- The fault at the first of the lines that are left of the bytes. Where none is left, it is at the line behind the last line feed.
unfoldable pub line_at : List ℕ → Lines → LineFault
line_at bytes rest = record { line = min (length (listed (cut bytes)) - length (listed rest) + 1) 0xFFFF_FFFF }
