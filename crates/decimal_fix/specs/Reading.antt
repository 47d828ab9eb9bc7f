-- The decimal that a text writes, as a function of the text.
use Rattle.std.specs.Prelude.{◌≡◌, ◌^◌, ◌<◌, ℤ, pos, neg_ℤ, nat_abs, [], ◌∷◌, length, take, drop, Bool, true, false, ◌&&◌, ◌||◌, Option, Some, None, option_map, ◌==◌, if◌then◌else◌}
use Rattle.std.specs.Char.{is_ascii_digit}
use Rattle.std.specs.List.{prefix_len}
use Rattle.ifc_base.specs.declared.value.Decimal.{Decimal}
use Rattle.decimal_fix.specs.Rounding.{number}
use Rattle.decimal_fix.specs.Numerals.{Text, digits, Numeral, value}

-- the digits at the front, and what follows them
unfoldable pub run : Text → Text × Text
run t = (take (prefix_len is_ascii_digit t) t, drop (prefix_len is_ascii_digit t) t)

-- whether a minus stands at the front, and what follows the sign
unfoldable pub sign : Text → Bool × Text
sign [] = (false, [])
sign (c ∷ t) = if c == 43 then (false, t) else if c == 45 then (true, t) else (false, c ∷ t)

-- the digits behind a point at the front, and what follows them
unfoldable pub fraction : Text → Text × Text
fraction [] = ([], [])
fraction (c ∷ t) = if c == 46 then run t else ([], c ∷ t)

-- the exponent of these digits, if there are some, and nothing follows them
abbrev pub whole_exponent : Bool → Text → Text → Option ℤ
whole_exponent negative [] u = None
whole_exponent negative (c ∷ cs) [] = Some (if negative then neg_ℤ (pos (number (digits (c ∷ cs)))) else pos (number (digits (c ∷ cs))))
whole_exponent negative (c ∷ cs) (d ∷ u) = None

abbrev pub exponent_behind : Bool × Text → Option ℤ
exponent_behind s = whole_exponent s.0 (run s.1).0 (run s.1).1

-- the exponent that the text is, if it is one
unfoldable pub exponent : Text → Option ℤ
exponent [] = Some (pos 0)
exponent (c ∷ t) = if c == 69 || c == 101 then exponent_behind (sign t) else None

abbrev pub with_exponent : Bool → Text → Text → Option ℤ → Option Numeral
with_exponent negative whole part None = None
with_exponent negative whole part (Some e) = Some (record { negative = negative; whole = digits whole; fraction = digits part; exponent = e })

abbrev pub numeral_of : Bool → Text → Text → Text → Option Numeral
numeral_of negative whole part rest = if length whole == 0 && length part == 0 then None else with_exponent negative whole part (exponent rest)

abbrev pub behind_whole : Bool → Text → Text × Text → Option Numeral
behind_whole negative whole part = numeral_of negative whole part.0 part.1

abbrev pub behind_sign : Bool × Text → Option Numeral
behind_sign s = behind_whole s.0 (run s.1).0 (fraction (run s.1).1)

-- the numeral that the text is, if it is one
unfoldable pub numeral : Text → Option Numeral
numeral t = behind_sign (sign t)

-- the decimal that the text writes, if it is a numeral
unfoldable pub reading : Text → Option Decimal
reading t = option_map value (numeral t)

-- what is read: Beyond with 1 or -1 units, or a size below 10^31 units
abbrev pub in_range : Bool → ℤ → Type 0
in_range true units = nat_abs units ≡ 1
in_range false units = nat_abs units < 10 ^ 31

abbrev pub IsRead : Decimal → Type 0
IsRead a = in_range a.beyond a.units
