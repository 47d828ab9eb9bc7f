-- Reading trees, with the first refusal.
use Rattle.std.specs.Prelude.{ℕ, zero, suc, ◌+◌, ◌*◌, ◌-◌, Bool, true, false, not, ◌&&◌, ◌||◌, List, [], ◌∷◌, ◌++◌, Option, Some, None, Result, Ok, Err, ◌==◌, nat_le, if◌then◌else◌, option_map}
use Rattle.std.specs.Char.{is_ascii_digit}
use Rattle.std.specs.Borrow.{Bor}
use Rattle.reading.specs.declared.fault.Fault.{Fault}
use Rattle.reading.specs.Codes.{codes_of, is_mark}
use Rattle.reading.specs.Lines.{with_line}
use Rattle.reading.specs.Reading.{Text, Read, Refused, ◌>>=◌, refuse, all_turns}
use Rattle.reading.specs.Runs.{run}
use Rattle.reading_tests.specs.declared.tree.Cause.{Cause}
use Rattle.reading_tests.specs.declared.tree.Cause.TheVariants.{BadByte, BadNumber, Unclosed, TooDeep, NoEnd, BadToken}
use Rattle.reading_tests.specs.declared.tree.Tree.{Tree}
use Rattle.reading_tests.specs.declared.tree.Tree.TheVariants as tree_of
use Rattle.reading_tests.specs.declared.token.Token.{Token}
use Rattle.reading_tests.specs.declared.token.Token.TheVariants.{End, Open, Close, Comma, Number}
use Rattle.reading_tests.specs.declared.token.Lexed as code

-- ---- blanks and comments

unfoldable pub is_blank : ℕ → Bool
is_blank c = c == 32 || c == 9 || c == 10 || c == 13

abbrev pub is_slash : ℕ → Bool
is_slash c = c == 47

abbrev pub is_no_star : ℕ → Bool
is_no_star c = not (c == 42)

-- what follows the comment that began at `start`; the flag says that a star came before
unfoldable pub comment : Bool → Text → Text → Read Cause (Unit {0})
comment star start [] = refuse Unclosed start
comment star start (c ∷ t) = if star && c == 47 then Ok (tt, t) else comment (c == 42) start t

abbrev pub after_slash : Text → Text → Read Cause (Bool × Unit {0})
after_slash start [] = refuse BadToken start
after_slash start (c ∷ t) = if c == 42 then (comment false start t >>= λ x. Ok ((true, tt), x.1)) else refuse BadToken start

-- a run of blanks, or one comment, if they come next
unfoldable pub gap_turn : Unit {0} → Text → Read Cause (Bool × Unit {0})
gap_turn s [] = Ok ((false, tt), [])
gap_turn s (c ∷ t) =
    if c == 47 then after_slash (c ∷ t) t
    else if is_blank c then Ok ((true, tt), (run is_blank t).1)
    else Ok ((false, tt), c ∷ t)

unfoldable pub gap : Text → Read Cause (Unit {0})
gap t = all_turns BadToken gap_turn tt t

-- ---- tokens

abbrev pub is_digit : ℕ → Bool
is_digit c = is_ascii_digit c

abbrev pub digit : ℕ → Option ℕ
digit c = if is_digit c then Some (c - 48) else None

-- the number of some digits behind those that have made n
unfoldable pub number_from : ℕ → List ℕ → ℕ
number_from n [] = n
number_from n (d ∷ ds) = number_from (10 * n + (d - 48)) ds

abbrev pub most : ℕ
most = 999999999

-- the number that began at `at`, of whose digits n is made, and then the run
unfoldable pub number : Text → ℕ → List ℕ × Text → Read Cause ℕ
number at n r = if nat_le (number_from n r.0) most then Ok (number_from n r.0, r.1) else refuse BadNumber at

-- the token that begins with c at `at`, before t
unfoldable pub token_of : Text → ℕ → Text → Read Cause Token
token_of at c t =
    if is_mark c then refuse BadByte at
    else if c == 40 then Ok (Open, t)
    else if c == 41 then Ok (Close, t)
    else if c == 44 then Ok (Comma, t)
    else if is_digit c then (number at (c - 48) (run is_digit t) >>= λ n. Ok (Number n.0, n.1))
    else refuse BadToken at

unfoldable pub token_here : Text → Read Cause Token
token_here [] = Ok (End, [])
token_here (c ∷ t) = token_of (c ∷ t) c t

pub record Lexed : Type 0 where
  pub token : Token
  pub at : Text

abbrev pub lexed_view : code.Lexed → Lexed
lexed_view x = record { token = x.token; at = codes_of x.at.now }

-- the next token
unfoldable pub token : Text → Read Cause Lexed
token t = do
  here ← gap t
  found ← token_here here.1
  Ok (record { token = found.0; at = here.1 }, found.1)

-- ---- trees

abbrev pub place : Option (Bor (List ℕ)) → Option Text
place o = option_map (λ at. codes_of at.now) o

abbrev pub failing : Refused Cause → Result (Unit {0}) (Refused Cause)
failing r = Err r

-- The token doesn't belong here. `outer` is the innermost parenthesis that is open.
abbrev pub misplaced : Option Text → Token → Text → Refused Cause
misplaced None End at = record { why = NoEnd; at = at }
misplaced (Some outer) End at = record { why = Unclosed; at = outer }
misplaced outer t at = record { why = BadToken; at = at }

abbrev pub Reader : Type 0
Reader = Option Text → Lexed → Text → Read Cause Tree

abbrev pub list_end : List Tree × Text → Read Cause Tree
list_end s = Ok (tree_of.List s.0, s.1)

-- behind an item of the list that began at `at`
abbrev pub list_step : Reader → Text → List Tree → Token → Text → Text → Read Cause (Bool × List Tree)
list_step inner at s Close here t = Ok ((false, s), t)
list_step inner at s Comma here t = do
  x ← token t
  f ← inner (Some at) x.0 x.1
  Ok ((true, s ++ f.0 ∷ []), f.1)
list_step inner at s other here t = Err (misplaced (Some at) other here)

unfoldable pub list_turn : Reader → Text → List Tree → Text → Read Cause (Bool × List Tree)
list_turn inner at s t = do
  x ← token t
  list_step inner at s x.0.token x.0.at x.1

-- behind the parenthesis at `at`, where x is the next token
abbrev pub list_from : Reader → Text → Token → Lexed → Text → Read Cause Tree
list_from inner at Close x t = Ok (tree_of.List [], t)
list_from inner at other x t = do
  f ← inner (Some at) x t
  s ← all_turns BadToken (list_turn inner at) (f.0 ∷ []) f.1
  list_end s

unfoldable pub list : Reader → Text → Text → Read Cause Tree
list inner at t = do
  x ← token t
  list_from inner at x.0.token x.0 x.1

-- no parenthesis may open past the limit of depth
abbrev pub list_below : Option Reader → Text → Text → Read Cause Tree
list_below None at t = refuse TooDeep at
list_below (Some inner) at t = list inner at t

-- the tree that begins with this token; where `inner` reads those within it
abbrev pub tree_by : Option Reader → Option Text → Token → Text → Text → Read Cause Tree
tree_by inner outer (Number n) at t = Ok (tree_of.Number n, t)
tree_by inner outer Open at t = list_below inner at t
tree_by inner outer other at t = Err (misplaced outer other at)

abbrev pub tree_with : Option Reader → Reader
tree_with inner outer x t = tree_by inner outer x.token x.at t

-- a tree in which parentheses nest no deeper than the number
unfoldable pub tree : ℕ → Reader
tree zero = tree_with None
tree (suc depth) = tree_with (Some (tree depth))

-- ---- a whole text

abbrev pub max_depth : ℕ
max_depth = 32

-- behind the tree nothing stands
abbrev pub whole_end : Tree → Token → Text → Result Tree (Refused Cause)
whole_end x End at = Ok x
whole_end x other at = Err (misplaced None other at)

unfoldable pub whole : Text → Result Tree (Refused Cause)
whole t = do
  x ← token t
  f ← tree max_depth None x.0 x.1
  end ← token f.1
  whole_end f.0 end.0.token end.0.at

-- what the bytes are read as
unfoldable pub reading : List ℕ → Result Tree (Fault Cause)
reading bytes = with_line (codes_of bytes) (whole (codes_of bytes))
