-- The text of a decimal.
use Rattle.std.specs.Prelude.{ℕ, zero, suc, ℤ, pos, negsuc, nat_abs, ◌+◌, ◌/◌, ◌%◌, ◌^◌, [], ◌∷◌, ◌++◌, ◌==◌, Bool, true, false, if◌then◌else◌}
use Rattle.std.specs.List.{list_all}
use Rattle.std.specs.Fmt.{decimal}
use Rattle.ifc_base.specs.declared.value.Decimal.{Decimal}
use Rattle.decimal_fix.specs.Numerals.{Text}

-- a number below 10 ^ k as k digits, with zeros at the front
unfoldable pub places : ℕ → ℕ → Text
places zero n = []
places (suc k) n = (48 + n / 10 ^ k) ∷ places k (n % 10 ^ k)

-- a text without the zeros that close it
abbrev pub without_zeros : Text → Text
without_zeros [] = []
without_zeros (c ∷ t) = if list_all (λ d. d == 48) (c ∷ t) then [] else (c ∷ without_zeros t)

-- a minus where the number is below 0
abbrev pub minus : ℤ → Text
minus (pos n) = []
minus (negsuc n) = 45 ∷ []

-- the whole part, the point, and the fraction without the zeros that close it
unfoldable pub written_size : ℕ → Text
written_size units = decimal (units / 10 ^ 15) ++ (46 ∷ without_zeros (places 15 (units % 10 ^ 15)))

-- `1.E16`
abbrev pub past : Text
past = 49 ∷ 46 ∷ 69 ∷ 49 ∷ 54 ∷ []

abbrev pub written_as : Bool → ℤ → Text
written_as true units = minus units ++ past
written_as false units = minus units ++ written_size (nat_abs units)

-- the text of a decimal: of one that is Beyond `1.E16`, with its sign, and else all its digits
unfoldable pub written : Decimal → Text
written a = written_as a.beyond a.units
