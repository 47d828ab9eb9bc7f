-- Instances of one entity, over tokens (ISO 10303-21, simple entity instances).
use Rattle.std.specs.Prelude.{ℕ, List, Option, None, Result, Ok, Err, if◌then◌else◌}
use Rattle.ifc_base.specs.declared.value.Value.{Value}
use Rattle.ifc_base.specs.declared.value.Instance.{Instance}
use Rattle.reading.specs.Codes.{codes_of}
use Rattle.reading.specs.Reading.{Text, Read, Refused, ◌>>=◌, refuse}
use Rattle.p21_read.specs.declared.fault.P21Cause.{P21Cause}
use Rattle.p21_read.specs.declared.fault.P21Cause.TheVariants.{BadToken, ComplexInstance, IdRange}
use Rattle.p21_read.specs.declared.token.Token.{Token}
use Rattle.p21_read.specs.declared.token.Token.TheVariants as k
use Rattle.p21_read.specs.declared.instance.Row as code
use Rattle.p21_read.specs.Tokens.{token}
use Rattle.p21_read.specs.Values.{Series, place, misplaced, series, value, max_depth, is_id, in_range}

-- ---- single tokens

abbrev pub semicolon_by : Token → Text → Text → Read P21Cause (Unit {0})
semicolon_by k.Semicolon at t = Ok (tt, t)
semicolon_by other at t = Err (misplaced None other at)

-- a semicolon comes next
unfoldable pub semicolon : Text → Read P21Cause (Unit {0})
semicolon t = do
  x ← token t
  semicolon_by x.0.token x.0.at x.1

abbrev pub equals_by : Token → Text → Text → Read P21Cause (Unit {0})
equals_by k.Equals at t = Ok (tt, t)
equals_by other at t = Err (misplaced None other at)

-- an equals sign comes next
unfoldable pub equals : Text → Read P21Cause (Unit {0})
equals t = do
  x ← token t
  equals_by x.0.token x.0.at x.1

abbrev pub opening_by : Token → Text → Text → Read P21Cause Text
opening_by k.Open at t = Ok (at, t)
opening_by other at t = Err (misplaced None other at)

-- a parenthesis opens next: where
unfoldable pub opening : Text → Read P21Cause Text
opening t = do
  x ← token t
  opening_by x.0.token x.0.at x.1

abbrev pub entity_by : Token → Text → Text → Read P21Cause (List ℕ)
entity_by (k.Word w) at t = if w.plain then Ok (w.name, t) else refuse BadToken at
entity_by k.Open at t = refuse ComplexInstance at
entity_by other at t = Err (misplaced None other at)

-- an instance's keyword comes next, in upper case
unfoldable pub entity : Text → Read P21Cause (List ℕ)
entity t = do
  x ← token t
  entity_by x.0.token x.0.at x.1

-- ---- one instance

-- behind the parenthesis at `at`: parameters, the closing parenthesis and a semicolon
unfoldable pub closed : Text → Text → Read P21Cause Series
closed at t = do
  s ← series (value max_depth) at t
  e ← semicolon s.1
  Ok (s.0, e.1)

-- An instance whose `#` stands at `at`, with the number there, in range or not; and where the first reference in it begins that is out
-- of range.
pub record Row : Type 0 where
  pub number : ℕ
  pub at : Text
  pub entity : List ℕ
  pub params : List Value
  pub late : Option Text

abbrev pub row_view : code.Row → Row
row_view r = record { number = r.number; at = codes_of r.at.now; entity = r.entity; params = r.params.items; late = place r.late }

abbrev pub row_of : ℕ → Text → List ℕ → Series → Row
row_of n at name s = record { number = n; at = at; entity = name; params = s.values; late = s.late }

-- behind the number at `at`: `=KEYWORD(parameters);`
unfoldable pub row : ℕ → Text → Text → Read P21Cause Row
row n at t = do
  sign ← equals t
  name ← entity sign.1
  start ← opening name.1
  s ← closed start.0 start.1
  Ok (row_of n at name.0 s.0, s.1)

abbrev pub instance_from : Row → Instance
instance_from r = record { id = r.number; entity = r.entity; params = r.params }

-- the instance, if its number and the references in it are in range
unfoldable pub instance_of : Row → Result Instance (Refused P21Cause)
instance_of r = if is_id r.number then in_range (instance_from r) r.late else refuse IdRange r.at

-- ---- one instance and nothing else

abbrev pub row_by : Token → Text → Text → Read P21Cause Row
row_by (k.Id n) at t = row n at t
row_by other at t = Err (misplaced None other at)

-- behind the instance nothing stands
abbrev pub alone : Row → Token → Text → Result Instance (Refused P21Cause)
alone r k.End at = instance_of r
alone r other at = Err (misplaced None other at)

unfoldable pub whole_instance : Text → Result Instance (Refused P21Cause)
whole_instance t = do
  x ← token t
  r ← row_by x.0.token x.0.at x.1
  end ← token r.1
  alone r.0 end.0.token end.0.at
