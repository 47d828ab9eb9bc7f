-- Schemas (ISO 10303-11, schema declaration), with the first refusal.
use Rattle.std.specs.Prelude.{ℕ, Bool, true, false, List, [], ◌∷◌, ◌++◌, Option, Some, None, Result, Ok, if◌then◌else◌, codes}
use Rattle.ifc_base.specs.declared.decl.TypeDecl.{TypeDecl}
use Rattle.reading.specs.declared.fault.Fault.{Fault}
use Rattle.reading.specs.Codes.{codes_of}
use Rattle.reading.specs.Lines.{with_line}
use Rattle.reading.specs.Reading.{Text, Read, Refused, ◌>>=◌, refuse, all_turns}
use Rattle.express_decl.specs.declared.decl.Decls.{Decls}
use Rattle.express_decl.specs.declared.decl.DeclCause.{DeclCause}
use Rattle.express_decl.specs.declared.decl.DeclCause.TheVariants.{Unexpected}
use Rattle.express_decl.specs.Tokens.{Token, Lexed, token, says}
use Rattle.express_decl.specs.Steps.{next, word, keyword, sign, type_text, to_word}
use Rattle.express_decl.specs.Entities.{upper, entity}

-- [WHERE text] END_TYPE, where x is the next token
unfoldable pub type_end : Text → Lexed → Text → Read DeclCause (Unit {0})
type_end opened x t =
    if says (codes "END_TYPE") x.token then Ok (tt, t)
    else if says (codes "WHERE") x.token then to_word (codes "END_TYPE") opened t
    else refuse Unexpected x.at

-- behind the word TYPE, which stands at `opened`
unfoldable pub type_decl : Text → Text → Read DeclCause TypeDecl
type_decl opened t = do
  name ← word opened t
  equals ← sign 61 opened name.1
  text ← type_text opened equals.1
  x ← next opened text.1
  end ← type_end opened x.0 x.1
  rest ← sign 59 opened end.1
  Ok (record { name = upper name.0 }, rest.1)

-- the word that ends the block which this token begins, if it begins one that is skipped
unfoldable pub block_end : Token → Option (List ℕ)
block_end x =
    if says (codes "FUNCTION") x then Some (codes "END_FUNCTION")
    else if says (codes "RULE") x then Some (codes "END_RULE")
    else if says (codes "PROCEDURE") x then Some (codes "END_PROCEDURE")
    else if says (codes "CONSTANT") x then Some (codes "END_CONSTANT")
    else None

-- a block that is skipped up to the first of its end words and a semicolon
unfoldable pub block : List ℕ → Text → Text → Read DeclCause (Unit {0})
block end opened t = to_word end opened t >>= λ x. sign 59 opened x.1

abbrev pub block_or_none : Option (List ℕ) → Text → Text → Read DeclCause (Unit {0})
block_or_none None at t = refuse Unexpected at
block_or_none (Some end) at t = block end at t

-- one declaration that begins with this token, or the word that ends the schema
unfoldable pub declaration : Decls → Lexed → Text → Read DeclCause (Bool × Decls)
declaration s x t =
    if says (codes "ENTITY") x.token then (entity x.at t >>= λ e. Ok ((true, record s { entities = s.entities ++ e.0 ∷ [] }), e.1))
    else if says (codes "TYPE") x.token then (type_decl x.at t >>= λ e. Ok ((true, record s { types = s.types ++ e.0 ∷ [] }), e.1))
    else if says (codes "END_SCHEMA") x.token then Ok ((false, s), t)
    else (block_or_none (block_end x.token) x.at t >>= λ u. Ok ((true, s), u.1))

abbrev pub declaration_turn : Text → Decls → Text → Read DeclCause (Bool × Decls)
declaration_turn opened s t = next opened t >>= λ x. declaration s x.0 x.1

abbrev pub no_decls : Decls
no_decls = record { entities = []; types = [] }

unfoldable pub declarations : Text → Text → Read DeclCause Decls
declarations opened t = all_turns Unexpected (declaration_turn opened) no_decls t

-- behind the schema nothing stands
abbrev pub whole_end : Decls → Option Lexed → Result Decls (Refused DeclCause)
whole_end s None = Ok s
whole_end s (Some x) = refuse Unexpected x.at

-- A whole text. Before `SCHEMA name;` is complete nothing is open, so that the end of the input is refused where it is.
unfoldable pub whole : Text → Result Decls (Refused DeclCause)
whole t = do
  schema ← keyword (codes "SCHEMA") [] t
  name ← word [] schema.1
  head ← sign 59 [] name.1
  found ← declarations schema.0 head.1
  rest ← sign 59 schema.0 found.1
  x ← token rest.1
  whole_end found.0 x.0

-- what the bytes are read as
unfoldable pub reading : List ℕ → Result Decls (Fault DeclCause)
reading bytes = with_line (codes_of bytes) (whole (codes_of bytes))
