-- Strings in quotes (ISO 10303-21, encoding of strings and of characters within them). A string that began at `q` is read up to the
-- quote that closes it, where `s` is what has been read of it. Each refusal is at `q`.
use Rattle.std.specs.Prelude.{ℕ, ◌+◌, ◌*◌, ◌-◌, Bool, true, false, ◌&&◌, ◌||◌, List, [], ◌∷◌, ◌++◌, Ok, ◌==◌, nat_lt, nat_le, if◌then◌else◌}
use Rattle.std.specs.Char.{is_ascii_hexdigit, is_ascii_alphabetic, digit_value}
use Rattle.reading.specs.Codes.{is_mark}
use Rattle.reading.specs.Reading.{Text, Read, ◌>>=◌, refuse, all_turns}
use Rattle.p21_read.specs.declared.fault.P21Cause.{P21Cause}
use Rattle.p21_read.specs.declared.fault.P21Cause.TheVariants.{BadText, Unclosed, BadDirective, OtherPage, BadToken}

-- the next character of the string
unfoldable pub next : Text → Text → Read P21Cause ℕ
next q [] = refuse Unclosed q
next q (c ∷ t) = if is_mark c then refuse BadText q else Ok (c, t)

-- this character and no other
unfoldable pub exactly : ℕ → Text → Text → Read P21Cause (Unit {0})
exactly c q t = do
  d ← next q t
  if d.0 == c then Ok (tt, d.1) else refuse BadDirective q

-- ---- codes in hexadecimal digits

-- the number that one digit writes
unfoldable pub hex : Text → Text → Read P21Cause ℕ
hex q t = do
  c ← next q t
  if is_ascii_hexdigit c.0 then Ok (digit_value c.0, c.1) else refuse BadDirective q

-- the number that two digits write
unfoldable pub byte : Text → Text → Read P21Cause ℕ
byte q t = do
  a ← hex q t
  b ← hex q a.1
  Ok (16 * a.0 + b.0, b.1)

-- the number that four digits write
unfoldable pub unit : Text → Text → Read P21Cause ℕ
unit q t = do
  a ← byte q t
  b ← byte q a.1
  Ok (256 * a.0 + b.0, b.1)

-- the number that eight digits write
unfoldable pub long : Text → Text → Read P21Cause ℕ
long q t = do
  a ← unit q t
  b ← unit q a.1
  Ok (65536 * a.0 + b.0, b.1)

-- a code that a character has: below 1,114,112, and no surrogate
abbrev pub is_scalar : ℕ → Bool
is_scalar c = nat_lt c 0xD800 || (nat_le 0xE000 c && nat_lt c 0x110000)

-- the first and the second half of a surrogate pair of UTF-16
abbrev pub is_high : ℕ → Bool
is_high u = nat_le 0xD800 u && nat_lt u 0xDC00

abbrev pub is_low : ℕ → Bool
is_low u = nat_le 0xDC00 u && nat_lt u 0xE000

-- the character of a surrogate pair
abbrev pub joined : ℕ → ℕ → ℕ
joined high low = 0x10000 + (high - 0xD800) * 0x400 + (low - 0xDC00)

-- the string with the character of this code
unfoldable pub put : Text → List ℕ → ℕ → Text → Read P21Cause (List ℕ)
put q s code t = if is_scalar code then Ok (s ++ code ∷ [], t) else refuse BadDirective q

-- ---- groups

-- behind a high surrogate a low one
unfoldable pub second_half : Text → List ℕ → ℕ → Text → Read P21Cause (List ℕ)
second_half q s high t = do
  low ← unit q t
  if is_low low.0 then put q s (joined high low.0) low.1 else refuse BadDirective q

-- behind `\X2\`: a character of four digits, or of two groups of four
unfoldable pub four : Text → List ℕ → Text → Read P21Cause (List ℕ)
four q s t = do
  u ← unit q t
  if is_high u.0 then second_half q s u.0 u.1 else put q s u.0 u.1

-- behind `\X4\`: a character of eight digits
unfoldable pub eight : Text → List ℕ → Text → Read P21Cause (List ℕ)
eight q s t = do
  u ← long q t
  put q s u.0 u.1

-- one group: of eight digits, or of four
abbrev pub group : Bool → Text → List ℕ → Text → Read P21Cause (List ℕ)
group is_long q s t = if is_long then eight q s t else four q s t

-- the rest of the `\X0\` that ends the groups
unfoldable pub groups_end : Text → List ℕ → Text → Read P21Cause (Bool × List ℕ)
groups_end q s t = do
  x ← exactly 88 q t
  zero ← exactly 48 q x.1
  end ← exactly 92 q zero.1
  Ok ((false, s), end.1)

-- a further group, or the end of the groups
unfoldable pub groups_turn : Bool → Text → List ℕ → Text → Read P21Cause (Bool × List ℕ)
groups_turn is_long q s [] = refuse Unclosed q
groups_turn is_long q s (c ∷ t) =
    if c == 92 then groups_end q s t
    else (group is_long q s (c ∷ t) >>= λ x. Ok ((true, x.0), x.1))

-- one or more groups, and their end
unfoldable pub groups : Bool → Text → List ℕ → Text → Read P21Cause (List ℕ)
groups is_long q s t = do
  start ← exactly 92 q t
  one ← group is_long q s start.1
  all_turns BadToken (groups_turn is_long q) one.0 one.1

-- ---- directives

-- behind `\X`: `\hh`, `2\` and groups of four, or `4\` and groups of eight
unfoldable pub coded : Text → List ℕ → Text → Read P21Cause (List ℕ)
coded q s t = do
  c ← next q t
  if c.0 == 92 then (byte q c.1 >>= λ b. put q s b.0 b.1)
      else if c.0 == 50 then groups false q s c.1
      else if c.0 == 52 then groups true q s c.1
      else refuse BadDirective q

-- behind `\S`: `\` and a character, which stands for that of its code plus 128
unfoldable pub shifted : Text → List ℕ → Text → Read P21Cause (List ℕ)
shifted q s t = do
  slash ← exactly 92 q t
  c ← next q slash.1
  put q s (c.0 + 128) c.1

-- behind `\P`: `A\`, which gives nothing
unfoldable pub page : Text → List ℕ → Text → Read P21Cause (List ℕ)
page q s t = do
  c ← next q t
  if c.0 == 65 then (exactly 92 q c.1 >>= λ end. Ok (s, end.1))
      else if is_ascii_alphabetic c.0 then refuse OtherPage q
      else refuse BadDirective q

-- behind a backslash
unfoldable pub directive : Text → List ℕ → Text → Read P21Cause (List ℕ)
directive q s t = do
  c ← next q t
  if c.0 == 92 then Ok (s ++ 92 ∷ [], c.1)
      else if c.0 == 88 then coded q s c.1
      else if c.0 == 83 then shifted q s c.1
      else if c.0 == 80 then page q s c.1
      else refuse BadDirective q

-- ---- whole strings

-- behind a quote, which another one follows or which ends the string
unfoldable pub quote : List ℕ → Text → Read P21Cause (Bool × List ℕ)
quote s [] = Ok ((false, s), [])
quote s (c ∷ t) = if c == 39 then Ok ((true, s ++ 39 ∷ []), t) else Ok ((false, s), c ∷ t)

-- one character or directive, or the quote that ends the string; a raw code below 32 is left out
unfoldable pub piece : Text → List ℕ → Text → Read P21Cause (Bool × List ℕ)
piece q s t = do
  c ← next q t
  if c.0 == 39 then quote s c.1
      else if c.0 == 92 then (directive q s c.1 >>= λ x. Ok ((true, x.0), x.1))
      else if nat_lt c.0 32 then Ok ((true, s), c.1)
      else Ok ((true, s ++ c.0 ∷ []), c.1)

-- the characters of the string
unfoldable pub text : Text → Text → Read P21Cause (List ℕ)
text q t = all_turns BadToken (piece q) [] t
