-- Whole files, over tokens (ISO 10303-21, exchange structure and data sections).
use Rattle.std.specs.Prelude.{ℕ, Bool, true, false, List, [], ◌∷◌, ◌++◌, None, Result, Ok, Err, nat_le, length, if◌then◌else◌}
use Rattle.ifc_base.specs.declared.value.Instance.{Instance}
use Rattle.ifc_base.specs.Ids.{has_id}
use Rattle.reading.specs.Reading.{Text, Read, Refused, ◌>>=◌, refuse, all_turns}
use Rattle.p21_read.specs.declared.fault.P21Cause.{P21Cause}
use Rattle.p21_read.specs.declared.fault.P21Cause.TheVariants.{BadToken, OtherSection, IdTwice, TooManyInstances}
use Rattle.p21_read.specs.declared.token.Token.{Token}
use Rattle.p21_read.specs.declared.token.Token.TheVariants as k
use Rattle.p21_read.specs.declared.section.SectionWord.{SectionWord}
use Rattle.p21_read.specs.declared.section.SectionWord.TheVariants as w
use Rattle.p21_read.specs.declared.file.P21File.{P21File}
use Rattle.p21_read.specs.Tokens.{token}
use Rattle.p21_read.specs.Values.{misplaced, in_range}
use Rattle.p21_read.specs.Instances.{semicolon, closed, row, instance_of}
use Rattle.p21_read.specs.Headers.{section_word, heading, header}

-- ---- instances

-- the instances with one more, which stands at `at`, if its id is new and there may be one more
unfoldable pub placed : ℕ → List Instance → Text → Instance → Result (List Instance) (Refused P21Cause)
placed most s at x =
    if has_id x.id s then refuse IdTwice at
    else if nat_le most (length s) then refuse TooManyInstances at
    else Ok (s ++ x ∷ [])

-- behind the number n at `at`: the instance's faults come in the order of its tokens, its ids, that of another, and the number of all
unfoldable pub instance : ℕ → List Instance → ℕ → Text → Text → Read P21Cause (List Instance)
instance most s n at t = do
  r ← row n at t
  x ← instance_of r.0
  more ← placed most s at x
  Ok (more, r.1)

abbrev pub data_word : List Instance → SectionWord → Text → Text → Read P21Cause (Bool × List Instance)
data_word s w.EndSection at t = semicolon t >>= λ e. Ok ((false, s), e.1)
data_word s other at t = refuse BadToken at

abbrev pub data_by : ℕ → List Instance → Token → Text → Text → Read P21Cause (Bool × List Instance)
data_by most s (k.Id n) at t = instance most s n at t >>= λ x. Ok ((true, x.0), x.1)
data_by most s (k.Word x) at t = data_word s (section_word x) at t
data_by most s other at t = Err (misplaced None other at)

-- a further instance, or the section's end
unfoldable pub data_turn : ℕ → List Instance → Text → Read P21Cause (Bool × List Instance)
data_turn most s t = do
  x ← token t
  data_by most s x.0.token x.0.at x.1

-- ---- sections

-- `(parameters);` behind `DATA`, of which nothing is kept
unfoldable pub data_parameters : Text → Text → Read P21Cause (Unit {0})
data_parameters at t = do
  s ← closed at t
  done ← in_range tt s.0.late
  Ok (done, s.1)

abbrev pub data_open_by : Token → Text → Text → Read P21Cause (Unit {0})
data_open_by k.Semicolon at t = Ok (tt, t)
data_open_by k.Open at t = data_parameters at t
data_open_by other at t = Err (misplaced None other at)

-- behind `DATA`: a semicolon, or parameters
unfoldable pub data_open : Text → Read P21Cause (Unit {0})
data_open t = do
  x ← token t
  data_open_by x.0.token x.0.at x.1

-- behind `DATA`: the instances before, with those of this section
unfoldable pub data_section : ℕ → List Instance → Text → Read P21Cause (List Instance)
data_section most s t = do
  start ← data_open t
  all_turns BadToken (data_turn most) s start.1

abbrev pub first_word : ℕ → SectionWord → Text → Text → Read P21Cause (List Instance)
first_word most w.Data at t = data_section most [] t
first_word most w.Foreign at t = refuse OtherSection at
first_word most other at t = refuse BadToken at

-- the first data section
unfoldable pub first_section : ℕ → Text → Read P21Cause (List Instance)
first_section most t = do
  h ← heading t
  first_word most h.0.word h.0.at h.1

abbrev pub further_word : ℕ → List Instance → SectionWord → Text → Text → Read P21Cause (Bool × List Instance)
further_word most s w.Data at t = data_section most s t >>= λ x. Ok ((true, x.0), x.1)
further_word most s w.Closing at t = semicolon t >>= λ e. Ok ((false, s), e.1)
further_word most s w.Foreign at t = refuse OtherSection at
further_word most s other at t = refuse BadToken at

-- a further data section, or the closing word
unfoldable pub section_turn : ℕ → List Instance → Text → Read P21Cause (Bool × List Instance)
section_turn most s t = do
  h ← heading t
  further_word most s h.0.word h.0.at h.1

-- one or more data sections, and the closing word
unfoldable pub sections : ℕ → Text → Read P21Cause (List Instance)
sections most t = do
  first ← first_section most t
  all_turns BadToken (section_turn most) first.0 first.1

-- ---- the file

abbrev pub file_of : List ℕ → List Instance → P21File
file_of id xs = record { schema_id = id; instances = xs }

-- the header and the sections; what follows the closing word isn't looked at
unfoldable pub whole_file : ℕ → Text → Result P21File (Refused P21Cause)
whole_file most t = do
  id ← header t
  xs ← sections most id.1
  Ok (file_of id.0 xs.0)
