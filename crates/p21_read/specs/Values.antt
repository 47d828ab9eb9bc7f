-- Values, over tokens (ISO 10303-21, parameters).
use Rattle.std.specs.Prelude.{ℕ, zero, suc, Bool, true, false, ◌&&◌, List, [], ◌∷◌, ◌++◌, Option, Some, None, Result, Ok, Err, nat_lt, nat_le, if◌then◌else◌, option_map}
use Rattle.std.specs.Borrow.{Bor}
use Rattle.ifc_base.specs.declared.value.Value.{Value}
use Rattle.ifc_base.specs.declared.value.ValueNode.{ValueNode}
use Rattle.ifc_base.specs.declared.value.ValueNode.TheVariants as v
use Rattle.reading.specs.Codes.{codes_of}
use Rattle.reading.specs.Reading.{Text, Read, Refused, ◌>>=◌, refuse, all_turns}
use Rattle.p21_read.specs.declared.fault.P21Cause.{P21Cause}
use Rattle.p21_read.specs.declared.fault.P21Cause.TheVariants.{BadToken, Unclosed, NoEnd, TooDeep, IdRange}
use Rattle.p21_read.specs.declared.number.Number.{Number}
use Rattle.p21_read.specs.declared.number.Number.TheVariants.{Int, Real}
use Rattle.p21_read.specs.declared.word.Word.{Word}
use Rattle.p21_read.specs.declared.token.Token.{Token}
use Rattle.p21_read.specs.declared.token.Token.TheVariants as k
use Rattle.p21_read.specs.declared.value.Found as code
use Rattle.p21_read.specs.declared.value.Series as many
use Rattle.p21_read.specs.Tokens.{Lexed, token}

-- A value, and where the first reference in it begins that is out of range. Such a reference stands as an absent value.
pub record Found : Type 0 where
  pub value : Value
  pub late : Option Text

-- Values one behind another, and where the first reference in them begins that is out of range.
pub record Series : Type 0 where
  pub values : List Value
  pub late : Option Text

abbrev pub place : Option (Bor (List ℕ)) → Option Text
place o = option_map (λ at. codes_of at.now) o

abbrev pub found_view : code.Found → Found
found_view f = record { value = f.value; late = place f.late }

abbrev pub series_view : many.Series → Series
series_view s = record { values = s.values.items; late = place s.late }

abbrev pub failing : Refused P21Cause → Result (Unit {0}) (Refused P21Cause)
failing r = Err r

-- The input ends. `outer` is the innermost parenthesis that is open.
abbrev pub ended : Option Text → Text → Refused P21Cause
ended None at = record { why = NoEnd; at = at }
ended (Some outer) at = record { why = Unclosed; at = outer }

-- the token doesn't belong here
abbrev pub misplaced : Option Text → Token → Text → Refused P21Cause
misplaced outer k.End at = ended outer at
misplaced outer t at = record { why = BadToken; at = at }

abbrev pub Reader : Type 0
Reader = Option Text → Lexed → Text → Read P21Cause Found

abbrev pub plain : ValueNode → Text → Read P21Cause Found
plain x t = Ok (record { value = record { node = x }; late = None }, t)

abbrev pub earlier : Option Text → Option Text → Option Text
earlier None b = b
earlier (Some a) b = Some a

-- ---- values in parentheses

abbrev pub with_item : Series → Found → Series
with_item s f = record { values = s.values ++ f.value ∷ []; late = earlier s.late f.late }

-- behind a value: the closing parenthesis, or a comma and a further value; the parenthesis opened at `at`
abbrev pub series_step : Reader → Text → Series → Token → Text → Text → Read P21Cause (Bool × Series)
series_step inner at s k.Close here t = Ok ((false, s), t)
series_step inner at s k.Comma here t = do
  x ← token t
  f ← inner (Some at) x.0 x.1
  Ok ((true, with_item s f.0), f.1)
series_step inner at s other here t = Err (misplaced (Some at) other here)

unfoldable pub series_turn : Reader → Text → Series → Text → Read P21Cause (Bool × Series)
series_turn inner at s t = do
  x ← token t
  series_step inner at s x.0.token x.0.at x.1

abbrev pub one_item : Found → Series
one_item f = record { values = f.value ∷ []; late = f.late }

-- behind the parenthesis at `at`, where x is the next token
abbrev pub series_from : Reader → Text → Token → Lexed → Text → Read P21Cause Series
series_from inner at k.Close x t = Ok (record { values = []; late = None }, t)
series_from inner at other x t = do
  f ← inner (Some at) x t
  all_turns BadToken (series_turn inner at) (one_item f.0) f.1

-- behind the parenthesis at `at`: zero or more values separated by commas, and the closing parenthesis
unfoldable pub series : Reader → Text → Text → Read P21Cause Series
series inner at t = do
  x ← token t
  series_from inner at x.0.token x.0 x.1

abbrev pub as_list : Series × Text → Read P21Cause Found
as_list s = Ok (record { value = record { node = v.List s.0.values }; late = s.0.late }, s.1)

-- ---- typed parameters

abbrev pub typed_end : List ℕ → Text → Found → Token → Text → Text → Read P21Cause Found
typed_end keyword at f k.Close here t = Ok (record { value = record { node = v.Typed keyword f.value }; late = f.late }, t)
typed_end keyword at f other here t = Err (misplaced (Some at) other here)

-- behind the keyword's parenthesis at `at`: one value, and the closing parenthesis
unfoldable pub typed : Reader → List ℕ → Text → Text → Read P21Cause Found
typed inner keyword at t = do
  x ← token t
  f ← inner (Some at) x.0 x.1
  end ← token f.1
  typed_end keyword at f.0 end.0.token end.0.at end.1

-- ---- all values

-- no parenthesis may open past the limit of depth
abbrev pub deeper : {A : Type 0} → Option Reader → Text → (Reader → Result A (Refused P21Cause)) → Result A (Refused P21Cause)
deeper None at f = refuse TooDeep at
deeper (Some inner) at f = f inner

abbrev pub typed_from : Option Reader → Option Text → List ℕ → Token → Text → Text → Read P21Cause Found
typed_from inner outer keyword k.Open at t = deeper inner at (λ r. typed r keyword at t)
typed_from inner outer keyword other at t = Err (misplaced outer other at)

-- behind the word at `at`: a keyword has no hyphen, and its parenthesis follows
abbrev pub typed_by : Option Reader → Option Text → Word → Text → Text → Read P21Cause Found
typed_by inner outer w at t =
    if w.plain then (token t >>= λ x. typed_from inner outer w.name x.0.token x.0.at x.1)
    else refuse BadToken at

-- an instance's number is from 1 to 2,147,483,647
abbrev pub is_id : ℕ → Bool
is_id n = nat_le 1 n && nat_lt n 0x80000000

abbrev pub reference : ℕ → Text → Text → Read P21Cause Found
reference n at t = if is_id n then plain (v.Ref n) t else Ok (record { value = record { node = v.Absent }; late = Some at }, t)

abbrev pub number_node : Number → ValueNode
number_node (Int n) = v.Int n
number_node (Real d) = v.Real d

-- the value that begins with this token; where `inner` reads those within it
abbrev pub value_by : Option Reader → Option Text → Token → Text → Text → Read P21Cause Found
value_by inner outer k.Dollar at t = plain v.Absent t
value_by inner outer k.Star at t = plain v.Derived t
value_by inner outer (k.Number n) at t = plain (number_node n) t
value_by inner outer (k.Id n) at t = reference n at t
value_by inner outer (k.Quoted s) at t = plain (v.Text s) t
value_by inner outer (k.Enumer s) at t = plain (v.Enumer s) t
value_by inner outer (k.Binary s) at t = plain (v.Binary s) t
value_by inner outer k.Open at t = deeper inner at (λ r. series r at t >>= as_list)
value_by inner outer (k.Word w) at t = typed_by inner outer w at t
value_by inner outer other at t = Err (misplaced outer other at)

abbrev pub value_with : Option Reader → Reader
value_with inner outer x t = value_by inner outer x.token x.at t

-- a value in which parentheses nest no deeper than the number
unfoldable pub value : ℕ → Reader
value zero = value_with None
value (suc depth) = value_with (Some (value depth))

-- what reads the values inside, if they may be one deeper
unfoldable pub below : ℕ → Option Reader
below zero = None
below (suc depth) = Some (value depth)

-- how deep the parentheses of lists and typed parameters may nest
abbrev pub max_depth : ℕ
max_depth = 16

-- ---- one value and nothing else

abbrev pub in_range : {A : Type 0} → A → Option Text → Result A (Refused P21Cause)
in_range x None = Ok x
in_range x (Some at) = refuse IdRange at

-- behind the value nothing stands
abbrev pub whole_end : Found → Token → Text → Result Value (Refused P21Cause)
whole_end f k.End at = in_range f.value f.late
whole_end f other at = Err (misplaced None other at)

unfoldable pub whole_value : Text → Result Value (Refused P21Cause)
whole_value t = do
  x ← token t
  f ← value max_depth None x.0 x.1
  end ← token f.1
  whole_end f.0 end.0.token end.0.at
