-- What a numeral is, and the decimal that it writes, in whole units of 10^-15.
--
-- A numeral is an optional sign, then digits that may be followed by a point and more digits, with at least one digit
-- before or behind the point, and then an optional exponent: `E` or `e`, an optional sign and one or more digits. This
-- covers the reals of ISO 10303-21, section 6.4.2, and is wider than these: the point, and the digits before it, may be
-- missing. The reading is over bytes; all characters of a numeral are single bytes.
use Rattle.std.specs.Prelude.{◌≡◌, ℕ, ℤ, pos, neg_ℤ, ◌+ℤ◌, ◌-ℤ◌, ◌-◌, ◌^◌, ◌<◌, map, List, [], ◌∷◌, ◌++◌, length, Bool, true, false, ◌||◌, ◌==◌, nat_le, if◌then◌else◌}
use Rattle.std.specs.Char.{is_ascii_digit}
use Rattle.ifc_base.specs.declared.value.Decimal.{Decimal}
use Rattle.decimal_fix.specs.Rounding.{number, rounded}

abbrev pub Text : Type 0
Text = List ℕ

-- ---- what a numeral is, by cases; the last text of a case is what follows

abbrev pub begins : (ℕ → Bool) → Text → Bool
begins p [] = false
begins p (c ∷ t) = p c

-- the value of a digit, and of each of several
abbrev pub digit : ℕ → ℕ
digit c = c - 48

abbrev pub digits : Text → List ℕ
digits cs = map digit cs

-- the longest run of digits at the front, as their values
pub data Digits : Text → List ℕ → Text → Type 0 where
  none : (t : Text) → begins is_ascii_digit t ≡ false → Digits t [] t
  more : (c : ℕ) (t : Text) (ds : List ℕ) (u : Text) → is_ascii_digit c ≡ true → Digits t ds u → Digits (c ∷ t) (digit c ∷ ds) u

abbrev pub is_sign : ℕ → Bool
is_sign c = c == 43 || c == 45

-- an optional sign; the flag says that it is a minus
pub data Sign : Text → Bool → Text → Type 0 where
  none : (t : Text) → begins is_sign t ≡ false → Sign t false t
  plus : (t : Text) → Sign (43 ∷ t) false t
  minus : (t : Text) → Sign (45 ∷ t) true t

-- an optional point with the digits behind it
pub data Fraction : Text → List ℕ → Text → Type 0 where
  none : (t : Text) → begins (λ c. c == 46) t ≡ false → Fraction t [] t
  point : (t : Text) (ds : List ℕ) (u : Text) → Digits t ds u → Fraction (46 ∷ t) ds u

-- an optional exponent, behind which nothing follows
pub data Exponent : Text → ℤ → Type 0 where
  none : Exponent [] (pos 0)
  some : (c : ℕ) (t u : Text) (negative : Bool) (d : ℕ) (ds : List ℕ) → (c == 69 || c == 101) ≡ true → Sign t negative u → Digits u (d ∷ ds) []
      → Exponent (c ∷ t) (if negative then neg_ℤ (pos (number (d ∷ ds))) else pos (number (d ∷ ds)))

-- the parts of a numeral: its sign, the digits before and behind the point, and the exponent
pub record Numeral : Type 0 where
  pub negative : Bool
  pub whole : List ℕ
  pub fraction : List ℕ
  pub exponent : ℤ

-- the text is a numeral of these parts
pub record Spells (t : Text) (n : Numeral) : Type 0 where
  pub behind_sign : Text
  pub behind_whole : Text
  pub behind_fraction : Text
  pub sign : Sign t n.negative behind_sign
  pub whole : Digits behind_sign n.whole behind_whole
  pub fraction : Fraction behind_whole n.fraction behind_fraction
  pub some : 0 < length (n.whole ++ n.fraction)
  pub exponent : Exponent behind_fraction n.exponent

-- ---- its value

-- the power of ten that the number of all digits is to be multiplied by, to be in units of 10^-15
abbrev pub scale : ℤ → ℕ → ℤ
scale exponent places = pos 15 +ℤ exponent -ℤ pos places

-- the size in units, rounded
abbrev pub magnitude : Numeral → ℕ
magnitude n = rounded (number (n.whole ++ n.fraction)) (scale n.exponent (length n.fraction))

abbrev pub signed : Bool → ℕ → ℤ
signed negative u = if negative then neg_ℤ (pos u) else pos u

-- from 10^31 units on, which is 10^16, the number is Beyond, and its units are 1 or -1
abbrev pub decimal_of : Bool → ℕ → Decimal
decimal_of negative u = if nat_le (10 ^ 31) u then record { units = signed negative 1; beyond = true } else record { units = signed negative u; beyond = false }

-- the decimal that a numeral writes
abbrev pub value : Numeral → Decimal
value n = decimal_of n.negative (magnitude n)
