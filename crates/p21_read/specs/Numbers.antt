-- Integers, reals and the numbers of instances (ISO 10303-21, tokens).
use Rattle.std.specs.Prelude.{ℕ, ℤ, pos, ◌-ℤ◌, ◌+◌, ◌*◌, ◌-◌, ◌^◌, min, Bool, ◌||◌, [], ◌∷◌, Option, Some, None, Ok, ◌==◌, nat_lt, if◌then◌else◌}
use Rattle.std.specs.Char.{is_ascii_digit}
use Rattle.reading.specs.Reading.{Text, Read, refuse}
use Rattle.reading.specs.Runs.{begins}
use Rattle.ifc_base.specs.declared.value.Decimal.{Decimal}
use Rattle.decimal_fix.specs.Reading.{reading}
use Rattle.p21_read.specs.declared.fault.P21Cause.{P21Cause}
use Rattle.p21_read.specs.declared.fault.P21Cause.TheVariants.{BadToken}
use Rattle.p21_read.specs.declared.number.Digits.{Digits}
use Rattle.p21_read.specs.declared.number.Number.{Number}
use Rattle.p21_read.specs.declared.number.Number.TheVariants.{Int, Real}
use Rattle.p21_read.specs.Words.{gather}

-- One digit more: how many digits there are, and the number that they write. A count past 19 is 19, and a number past 10 ^ 18 is 10 ^ 18.
abbrev pub with_digit : Digits → ℕ → Digits
with_digit d c = record { count = min (d.count + 1) 19; value = min (10 * d.value + (c - 48)) (10 ^ 18) }

abbrev pub no_digits : Digits
no_digits = record { count = 0; value = 0 }

-- the digits that come next, behind those so far, and what is left
unfoldable pub digits : Digits → Text → Digits × Text
digits d [] = (d, [])
digits d (c ∷ t) = if is_ascii_digit c then digits (with_digit d c) t else (d, c ∷ t)

-- what numerals are made of: digits, the point, signs and the letter of the exponent
abbrev pub is_numeral : ℕ → Bool
is_numeral c = is_ascii_digit c || c == 46 || c == 43 || c == 45 || c == 69 || c == 101

abbrev pub signed : Bool → ℕ → ℤ
signed negative n = if negative then pos 0 -ℤ pos n else pos n

-- an integer of 1 to 18 digits
unfoldable pub int : Text → Bool → Digits × Text → Read P21Cause Number
int at negative found =
    if found.0.count == 0 || nat_lt 18 found.0.count then refuse BadToken at
    else Ok (Int (signed negative found.0.value), found.1)

-- the decimal that the numeral writes, if it is one
abbrev pub real_of : Text → Option Decimal → Text → Read P21Cause Number
real_of at None t = refuse BadToken at
real_of at (Some d) t = Ok (Real d, t)

-- a real: all of the numeral's characters that come next, by the decimal rule
unfoldable pub real : Text → Read P21Cause Number
real at = real_of at (reading (gather is_numeral (λ c. c) [] at).0) (gather is_numeral (λ c. c) [] at).1

-- A number that begins at `at`, with its sign and the digits behind it: an integer, unless the numeral goes on.
unfoldable pub number : Text → Bool → Digits × Text → Read P21Cause Number
number at negative found = if begins is_numeral found.1 then real at else int at negative found

-- behind `#`: one or more digits; a number past 4,294,967,295 is that
unfoldable pub id : Text → Digits × Text → Read P21Cause ℕ
id at found =
    if found.0.count == 0 then refuse BadToken at
    else Ok (min found.0.value 0xFFFF_FFFF, found.1)
