-- Laws of the definitions.
use Rattle.std.specs.Prelude.{◌≡◌, ℕ, suc, ℤ, pos, negsuc, neg_ℤ, ◌+ℤ◌, List, ◌++◌, length, Bool, true, false, Some, encode_utf8_all}
use Rattle.ifc_base.specs.declared.value.Decimal.{Decimal}
use Rattle.decimal_fix.specs.Rounding.{rounded, IsNearest}
use Rattle.decimal_fix.specs.Numerals.{Text, Numeral, Spells, value}
use Rattle.decimal_fix.specs.Reading.{reading, IsRead}
use Rattle.decimal_fix.specs.Writing.{written}

-- A numeral whose point is moved to the left over some digits, with an exponent greater by their number, has the same value.
abbrev pub PointMoves : Type 0
PointMoves = (negative : Bool) (whole passed fraction : List ℕ) (exponent : ℤ)
    → value (record { negative = negative; whole = whole; fraction = passed ++ fraction; exponent = exponent +ℤ pos (length passed) })
    ≡ value (record { negative = negative; whole = whole ++ passed; fraction = fraction; exponent = exponent })

abbrev pub negated : Decimal → Decimal
negated a = record { units = neg_ℤ a.units; beyond = a.beyond }

-- The sign of a numeral turns its value, also one that is Beyond.
abbrev pub SignTurns : Type 0
SignTurns = (whole fraction : List ℕ) (exponent : ℤ)
    → value (record { negative = true; whole = whole; fraction = fraction; exponent = exponent })
    ≡ negated (value (record { negative = false; whole = whole; fraction = fraction; exponent = exponent }))

-- Where units have digits behind their point, their number is rounded to the nearest one, and a half goes up.
abbrev pub RoundsToNearest : Type 0
RoundsToNearest = (m k : ℕ) → IsNearest m (suc k) (rounded m (negsuc k))

-- A text spells at most one numeral.
abbrev pub OneNumeral : Type 0
OneNumeral = (t : Text) (m n : Numeral) → Spells t m → Spells t n → m ≡ n

-- What is written of a decimal in the range of what is read reads as that decimal.
abbrev pub ReadsBack : Type 0
ReadsBack = (a : Decimal) → IsRead a → reading (encode_utf8_all (written a)) ≡ Some a
