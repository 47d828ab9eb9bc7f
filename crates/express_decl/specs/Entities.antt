-- Entities (ISO 10303-11, entity declaration), with the first refusal.
use Rattle.std.specs.Prelude.{ℕ, Bool, true, false, ◌||◌, List, [], ◌∷◌, ◌++◌, Option, Some, None, Ok, if◌then◌else◌, map, codes}
use Rattle.std.specs.Char.{to_ascii_uppercase}
use Rattle.ifc_base.specs.declared.decl.EntityDecl.{EntityDecl}
use Rattle.reading.specs.Reading.{Text, Read, ◌>>=◌, refuse, all_turns}
use Rattle.express_decl.specs.declared.decl.DeclCause.{DeclCause}
use Rattle.express_decl.specs.declared.decl.DeclCause.TheVariants.{ManySupertypes, Unexpected}
use Rattle.express_decl.specs.declared.section.Heading.{Heading}
use Rattle.express_decl.specs.declared.section.Heading.TheVariants as heading
use Rattle.express_decl.specs.declared.section.Line.{Line}
use Rattle.express_decl.specs.declared.section.Line.TheVariants as line
use Rattle.express_decl.specs.declared.section.Section.{Section}
use Rattle.express_decl.specs.declared.section.Section.TheVariants as section
use Rattle.express_decl.specs.declared.section.Body.{Body}
use Rattle.express_decl.specs.Tokens.{Token, Word, Quoted, Sign, Lexed, says, is_sign}
use Rattle.express_decl.specs.Steps.{next, word, keyword, sign, type_text, in_parentheses}

abbrev pub upper : List ℕ → List ℕ
upper word = map to_ascii_uppercase word

-- ---- between the entity's name and its attributes. Each part is given the token with which it may begin, and gives the one behind it.

-- [ABSTRACT]
unfoldable pub abstract_part : Text → Lexed → Text → Read DeclCause (Bool × Lexed)
abstract_part opened x t =
    if says (codes "ABSTRACT") x.token then (next opened t >>= λ y. Ok ((true, y.0), y.1)) else Ok ((false, x), t)

-- [OF (text)]
unfoldable pub subtypes_part : Text → Lexed → Text → Read DeclCause Lexed
subtypes_part opened x t =
    if says (codes "OF") x.token then (do
      a ← sign 40 opened t
      b ← in_parentheses opened a.1
      next opened b.1)
    else Ok (x, t)

-- [SUPERTYPE [OF (text)]]
unfoldable pub supertype_part : Text → Lexed → Text → Read DeclCause Lexed
supertype_part opened x t =
    if says (codes "SUPERTYPE") x.token then (next opened t >>= λ y. subtypes_part opened y.0 y.1) else Ok (x, t)

-- behind a supertype
abbrev pub parent_end : Text → List ℕ → Lexed → Text → Read DeclCause (List ℕ)
parent_end opened parent x t =
    if is_sign 41 x.token then (sign 59 opened t >>= λ y. Ok (upper parent, y.1))
    else if is_sign 44 x.token then refuse ManySupertypes x.at
    else refuse Unexpected x.at

-- OF (m); behind SUBTYPE
unfoldable pub parent : Text → Text → Read DeclCause (List ℕ)
parent opened t = do
  a ← keyword (codes "OF") opened t
  b ← sign 40 opened a.1
  m ← word opened b.1
  y ← next opened m.1
  parent_end opened m.0 y.0 y.1

-- [SUBTYPE OF (m)];
unfoldable pub parent_part : Text → Lexed → Text → Read DeclCause (Option (List ℕ))
parent_part opened x t =
    if says (codes "SUBTYPE") x.token then (parent opened t >>= λ m. Ok (Some m.0, m.1))
    else if is_sign 59 x.token then Ok (None, t)
    else refuse Unexpected x.at

-- ---- attributes

-- one comma and the name behind it, or the colon behind the names
unfoldable pub name_turn : Text → List (List ℕ) → Text → Read DeclCause (Bool × List (List ℕ))
name_turn opened own t =
    next opened t >>= λ x.
    if is_sign 44 x.0.token then (word opened x.1 >>= λ w. Ok ((true, own ++ w.0 ∷ []), w.1))
    else if is_sign 58 x.0.token then Ok ((false, own), x.1)
    else refuse Unexpected x.0.at

-- a line of attributes behind its first name
unfoldable pub attributes : Text → List (List ℕ) → List ℕ → Text → Read DeclCause (List (List ℕ))
attributes opened own first t = do
  names ← all_turns Unexpected (name_turn opened) (own ++ first ∷ []) t
  rest ← type_text opened names.1
  Ok (names.0, rest.1)

-- a line that redeclares an attribute, behind `SELF\`
unfoldable pub redeclared : Text → List (List ℕ) → Text → Read DeclCause (List (List ℕ))
redeclared opened own t = do
  entity ← word opened t
  dot ← sign 46 opened entity.1
  name ← word opened dot.1
  colon ← sign 58 opened name.1
  rest ← type_text opened colon.1
  Ok (own, rest.1)

-- a line behind its first word SELF, which is a name where no backslash follows
unfoldable pub self_line : Text → List (List ℕ) → List ℕ → Text → Read DeclCause (List (List ℕ))
self_line opened own self t =
    next opened t >>= λ x. if is_sign 92 x.0.token then redeclared opened own x.1 else attributes opened own self t

abbrev pub line_from : Text → List (List ℕ) → Text → Token → Text → Read DeclCause (List (List ℕ))
line_from opened own at (Word w) t = if says (codes "SELF") (Word w) then self_line opened own w t else attributes opened own w t
line_from opened own at Quoted t = refuse Unexpected at
line_from opened own at (Sign c) t = refuse Unexpected at

-- a line of the attributes that begins with this token
unfoldable pub attribute_line : Text → List (List ℕ) → Lexed → Text → Read DeclCause (List (List ℕ))
attribute_line opened own x t = line_from opened own x.at x.token t

-- ---- sections

-- what the token begins
unfoldable pub heading_of : Token → Heading
heading_of x =
    if says (codes "END_ENTITY") x then heading.End
    else if says (codes "DERIVE") x then heading.Derive
    else if says (codes "INVERSE") x || says (codes "UNIQUE") x || says (codes "WHERE") x then heading.Other
    else heading.Plain

-- how far a line of DERIVE begins with `SELF\E.a`, behind one token more that is no semicolon
abbrev pub line_step : Line → Token → Line
line_step line.Start x = if says (codes "SELF") x then line.AfterSelf else line.Rest
line_step line.AfterSelf x = if is_sign 92 x then line.AfterBackslash else line.Rest
line_step line.AfterBackslash (Word w) = line.AfterEntity
line_step line.AfterBackslash Quoted = line.Rest
line_step line.AfterBackslash (Sign c) = line.Rest
line_step line.AfterEntity x = if is_sign 46 x then line.AfterDot else line.Rest
line_step line.AfterDot x = line.Rest
line_step line.Rest x = line.Rest

unfoldable pub line_after : Line → Token → Line
line_after l x = if is_sign 59 x then line.Start else line_step l x

-- the name that the token gives: a word behind `SELF\E.`
abbrev pub names_from : Line → Token → List (List ℕ)
names_from line.AfterDot (Word w) = w ∷ []
names_from other x = []

-- DERIVE behind one token more
unfoldable pub derive_step : Body → Line → Token → Body
derive_step s l x = record s { derived = s.derived ++ names_from l x; section = section.Derive (line_after l x) }

abbrev pub within : Text → Body → Section → Lexed → Text → Read DeclCause (Bool × Body)
within opened s section.Attributes x t = attribute_line opened s.own x t >>= λ own. Ok ((true, record s { own = own.0 }), own.1)
within opened s (section.Derive l) x t = Ok ((true, derive_step s l x.token), t)
within opened s section.Other x t = Ok ((true, s), t)

abbrev pub body_step : Text → Body → Heading → Lexed → Text → Read DeclCause (Bool × Body)
body_step opened s heading.End x t = Ok ((false, s), t)
body_step opened s heading.Derive x t = Ok ((true, record s { section = section.Derive line.Start }), t)
body_step opened s heading.Other x t = Ok ((true, record s { section = section.Other }), t)
body_step opened s heading.Plain x t = within opened s s.section x t

-- one line of the attributes, or one token of a section, or a word that begins a section or ends the entity
unfoldable pub body_turn : Text → Body → Text → Read DeclCause (Bool × Body)
body_turn opened s t = next opened t >>= λ x. body_step opened s (heading_of x.0.token) x.0 x.1

abbrev pub no_body : Body
no_body = record { own = []; derived = []; section = section.Attributes }

unfoldable pub body : Text → Text → Read DeclCause Body
body opened t = all_turns Unexpected (body_turn opened) no_body t

-- ---- the whole

-- behind the word ENTITY, which stands at `opened`
unfoldable pub entity : Text → Text → Read DeclCause EntityDecl
entity opened t = do
  name ← word opened t
  first ← next opened name.1
  is_abstract ← abstract_part opened first.0 first.1
  supertype ← supertype_part opened is_abstract.0.1 is_abstract.1
  parent ← parent_part opened supertype.0 supertype.1
  found ← body opened parent.1
  rest ← sign 59 opened found.1
  Ok (record { name = upper name.0; parent = parent.0; is_abstract = is_abstract.0.0; own = found.0.own; derived = found.0.derived }, rest.1)
