-- `(aaa)`: letters in parentheses, with whether they are odd in number.
use Rattle.std.specs.Prelude.{◌≡◌, ℕ, Bool, true, false, not, List, [], ◌∷◌, Result, Ok, Err, ◌==◌, if◌then◌else◌}
use Rattle.reading.specs.Codes.{codes_of}
use Rattle.reading.specs.Reading.{Text, Read, Refused, ◌>>=◌, refuse, all_turns}
use Rattle.reading_tests.specs.declared.tree.Cause.{Cause}
use Rattle.reading_tests.specs.declared.tree.Cause.TheVariants.{Unclosed, NoEnd, BadToken}

-- ---- the relation: text before, value, text after

-- behind the parenthesis
pub data Letters : Text → Bool → Text → Type 0 where
  ends : (t : Text) → Letters (41 ∷ t) false t
  more : (t : Text) (odd : Bool) (u : Text) → Letters t odd u → Letters (97 ∷ t) (not odd) u

pub data Spells : Text → Bool → Text → Type 0 where
  list : (t : Text) (odd : Bool) (u : Text) → Letters t odd u → Spells (40 ∷ t) odd u

pub record Reads (bytes : List ℕ) (odd : Bool) : Type 0 where
  pub rest : Text
  pub list : Spells (codes_of bytes) odd rest

-- ---- the reading function

-- one letter, or the end of the list that began at `open`; `odd` is what holds of the letters so far
unfoldable pub turn : Text → Bool → Text → Read Cause (Bool × Bool)
turn opened odd [] = refuse Unclosed opened
turn opened odd (c ∷ t) =
    if c == 41 then Ok ((false, odd), t)
    else if c == 97 then Ok ((true, not odd), t)
    else refuse BadToken (c ∷ t)

unfoldable pub letters : Text → Text → Read Cause Bool
letters opened t = all_turns BadToken (turn opened) false t

abbrev pub whole_from : Text → Text → Result Bool (Refused Cause)
whole_from opened t = letters opened t >>= λ x. Ok x.0

unfoldable pub whole : Text → Result Bool (Refused Cause)
whole [] = refuse NoEnd []
whole (c ∷ t) = if c == 40 then whole_from (c ∷ t) t else refuse BadToken (c ∷ t)
