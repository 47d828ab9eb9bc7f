-- Section words and the header of a file, over tokens (ISO 10303-21, exchange structure and header section).
use Rattle.std.specs.Prelude.{ℕ, Bool, true, false, ◌||◌, List, [], ◌∷◌, Option, Some, None, Ok, Err, ◌==◌, if◌then◌else◌, codes}
use Rattle.std.specs.Char.{to_ascii_uppercase}
use Rattle.std.specs.Str.{bytes_eq}
use Rattle.ifc_base.specs.declared.value.Value.{Value}
use Rattle.ifc_base.specs.declared.value.ValueNode.{ValueNode, out-ValueNode}
use Rattle.ifc_base.specs.declared.value.ValueNode.TheVariants as v
use Rattle.ifc_base.specs.declared.value.ValueNode.TheOpen.{ValueNode-F}
use Rattle.reading.specs.Codes.{codes_of}
use Rattle.reading.specs.Reading.{Text, Read, ◌>>=◌, refuse, all_turns}
use Rattle.p21_read.specs.declared.fault.P21Cause.{P21Cause}
use Rattle.p21_read.specs.declared.fault.P21Cause.TheVariants.{BadToken, OtherSection}
use Rattle.p21_read.specs.declared.word.Word.{Word}
use Rattle.p21_read.specs.declared.token.Token.{Token}
use Rattle.p21_read.specs.declared.token.Token.TheVariants as k
use Rattle.p21_read.specs.declared.section.SectionWord.{SectionWord}
use Rattle.p21_read.specs.declared.section.SectionWord.TheVariants as w
use Rattle.p21_read.specs.declared.section.Heading as code
use Rattle.p21_read.specs.Tokens.{token}
use Rattle.p21_read.specs.Values.{misplaced, in_range}
use Rattle.p21_read.specs.Instances.{semicolon, opening, closed}

-- ---- section words

-- the word of a section that isn't read
unfoldable pub is_foreign : List ℕ → Bool
is_foreign name = bytes_eq name (codes "ANCHOR") || bytes_eq name (codes "REFERENCE") || bytes_eq name (codes "SIGNATURE")

-- which word of a file's structure this name is
unfoldable pub section_named : List ℕ → SectionWord
section_named name =
    if bytes_eq name (codes "ENDSEC") then w.EndSection
    else if bytes_eq name (codes "DATA") then w.Data
    else if bytes_eq name (codes "HEADER") then w.Header
    else if bytes_eq name (codes "ISO-10303-21") then w.Opening
    else if bytes_eq name (codes "END-ISO-10303-21") then w.Closing
    else if is_foreign name then w.Foreign
    else w.Nothing

-- which word of a file's structure this is; they are capitals as written
unfoldable pub section_word : Word → SectionWord
section_word x = if x.capitals then section_named x.name else w.Nothing

-- a word where one of a file's structure must stand, and where it begins
pub record Heading : Type 0 where
  pub word : SectionWord
  pub at : Text

abbrev pub heading_view : code.Heading → Heading
heading_view h = record { word = h.word; at = codes_of h.at.now }

abbrev pub heading_by : Token → Text → Text → Read P21Cause Heading
heading_by (k.Word x) at t = Ok (record { word = section_word x; at = at }, t)
heading_by other at t = Err (misplaced None other at)

-- a word comes next
unfoldable pub heading : Text → Read P21Cause Heading
heading t = do
  x ← token t
  heading_by x.0.token x.0.at x.1

abbrev pub opening_word : SectionWord → Text → Text → Read P21Cause (Unit {0})
opening_word w.Opening at t = semicolon t
opening_word other at t = refuse BadToken at

-- `ISO-10303-21;`
unfoldable pub opened : Text → Read P21Cause (Unit {0})
opened t = do
  h ← heading t
  opening_word h.0.word h.0.at h.1

abbrev pub header_word : SectionWord → Text → Text → Read P21Cause (Unit {0})
header_word w.Header at t = semicolon t
header_word w.Foreign at t = refuse OtherSection at
header_word other at t = refuse BadToken at

-- `HEADER;`
unfoldable pub header_opened : Text → Read P21Cause (Unit {0})
header_opened t = do
  h ← heading t
  header_word h.0.word h.0.at h.1

-- ---- header entities

-- `(parameters);`
unfoldable pub parameters : Text → Read P21Cause (List Value)
parameters t = do
  start ← opening t
  s ← closed start.0 start.1
  xs ← in_range s.0.values s.0.late
  Ok (xs, s.1)

abbrev pub named_by : List ℕ → Token → Text → Text → Read P21Cause (List Value)
named_by name (k.Word x) at t = if bytes_eq x.name name then parameters t else refuse BadToken at
named_by name other at t = Err (misplaced None other at)

-- the header entity of this name, in upper case
unfoldable pub named : List ℕ → Text → Read P21Cause (List Value)
named name t = do
  x ← token t
  named_by name x.0.token x.0.at x.1

-- behind the word at `at`: the section's end, or a further header entity
abbrev pub further_word : Bool → SectionWord → Text → Text → Read P21Cause (Bool × Unit {0})
further_word plain w.EndSection at t = semicolon t >>= λ e. Ok ((false, tt), e.1)
further_word plain other at t = if plain then (parameters t >>= λ p. Ok ((true, tt), p.1)) else refuse BadToken at

abbrev pub further_by : Token → Text → Text → Read P21Cause (Bool × Unit {0})
further_by (k.Word x) at t = further_word x.plain (section_word x) at t
further_by other at t = Err (misplaced None other at)

unfoldable pub further_turn : Unit {0} → Text → Read P21Cause (Bool × Unit {0})
further_turn s t = do
  x ← token t
  further_by x.0.token x.0.at x.1

-- all further header entities, and the section's end
unfoldable pub rest : Text → Read P21Cause (Unit {0})
rest t = all_turns BadToken further_turn tt t

-- ---- the schema id

-- the characters up to the first space, in upper case
unfoldable pub upper_word : List ℕ → List ℕ
upper_word [] = []
upper_word (c ∷ t) = if c == 32 then [] else to_ascii_uppercase c ∷ upper_word t

-- the characters, where the value is a text
abbrev pub text_of : ValueNode → Option (List ℕ)
text_of (v.Text s) = Some s
text_of other = None

abbrev pub if_none : List ℕ → Option (List ℕ) → List ℕ
if_none rest (Some s) = s
if_none rest None = rest

-- the characters of the first text among the values; none where there is no text
unfoldable pub first_text : List Value → List ℕ
first_text [] = []
first_text (x ∷ xs) = if_none (first_text xs) (text_of x.node)

-- the items, where the value is a list, else none
abbrev pub items_at : ValueNode-F ValueNode Value → List Value
items_at (ValueNode-F.List items) = items
items_at other = []

abbrev pub items_of : ValueNode → List Value
items_of x = items_at (out-ValueNode x)

-- the first text of the list that is the first parameter of FILE_SCHEMA, up to its first space, in upper case
unfoldable pub schema_id : List Value → List ℕ
schema_id [] = []
schema_id (x ∷ xs) = upper_word (first_text (items_of x.node))

-- ---- the header

-- the three entities in their order; what is kept are the parameters of FILE_SCHEMA
unfoldable pub entities : Text → Read P21Cause (List Value)
entities t = do
  description ← named (codes "FILE_DESCRIPTION") t
  name ← named (codes "FILE_NAME") description.1
  named (codes "FILE_SCHEMA") name.1

-- the opening word, the three entities, further ones, and the section's end; what is kept is the schema id
unfoldable pub header : Text → Read P21Cause (List ℕ)
header t = do
  start ← opened t
  front ← header_opened start.1
  schema ← entities front.1
  end ← rest schema.1
  Ok (schema_id schema.0, end.1)
