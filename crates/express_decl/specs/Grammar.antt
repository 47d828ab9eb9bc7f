-- Which declarations tokens are, by cases (ISO 10303-11, declarations), cut to what is kept. In each relation the last list is
-- what follows. Signs stand by their codes: 40 and 41 are the parentheses, 44 the comma, 46 the dot, 58 the colon, 59 the semicolon, 61 `=`,
-- 92 the backslash. Any word may be a name.
use Rattle.std.specs.Prelude.{◌≡◌, ℕ, Bool, true, false, ◌&&◌, ◌||◌, List, [], ◌∷◌, ◌++◌, Option, Some, None, if◌then◌else◌, map, codes}
use Rattle.std.specs.Char.{to_ascii_uppercase}
use Rattle.ifc_base.specs.declared.decl.EntityDecl.{EntityDecl}
use Rattle.ifc_base.specs.declared.decl.TypeDecl.{TypeDecl}
use Rattle.reading.specs.Codes.{codes_of}
use Rattle.express_decl.specs.declared.decl.Decls.{Decls}
use Rattle.express_decl.specs.Tokens.{Token, Word, Sign, says, is_sign}
use Rattle.express_decl.specs.Lexical.{Tokens}

-- ---- texts that are passed over

-- tokens up to the first one of this kind, and that one: what stands before it isn't looked at
pub data UpTo (last : Token → Bool) : List Token → List Token → Type 0 where
  here : {x : Token} {u : List Token} → last x ≡ true → UpTo last (x ∷ u) u
  later : {x : Token} {xs u : List Token} → last x ≡ false → UpTo last xs u → UpTo last (x ∷ xs) u

-- a type, which is one or more tokens, and the first semicolon (`type;`)
pub data TypeText : List Token → List Token → Type 0 where
  some : {x : Token} {xs u : List Token} → is_sign 59 x ≡ false → UpTo (is_sign 59) xs u → TypeText (x ∷ xs) u

-- A text behind its opening parenthesis, up to the one that closes it (`text)`). Parentheses within it stand in pairs.
pub data InParentheses : List Token → List Token → Type 0 where
  closed : {u : List Token} → InParentheses (Sign 41 ∷ u) u
  pair : {xs ys u : List Token} → InParentheses xs ys → InParentheses ys u → InParentheses (Sign 40 ∷ xs) u
  other : {x : Token} {xs u : List Token} → is_sign 40 x ≡ false → is_sign 41 x ≡ false → InParentheses xs u → InParentheses (x ∷ xs) u

-- ---- attributes of an entity (9.2.1)

-- the words that begin a section of an entity, or end the entity; none of them begins a line of attributes or stands in a section
abbrev pub ends_section : Token → Bool
ends_section x =
    says (codes "DERIVE") x || (says (codes "INVERSE") x || (says (codes "UNIQUE") x || (says (codes "WHERE") x || says (codes "END_ENTITY") x)))

-- `name, name, .. :`
pub data Names : List Token → List (List ℕ) → List Token → Type 0 where
  one : {n : List ℕ} {u : List Token} → Names (Word n ∷ Sign 58 ∷ u) (n ∷ []) u
  more : {n : List ℕ} {ns : List (List ℕ)} {xs u : List Token} → Names xs ns u → Names (Word n ∷ Sign 44 ∷ xs) (n ∷ ns) u

-- Lines of attributes, and their names as they are written: `name, name, .. : type;`, or `SELF\E.a : type;`, which redeclares an attribute
-- (9.2.3.4) and adds none.
pub data Attributes : List Token → List (List ℕ) → List Token → Type 0 where
  none : {u : List Token} → Attributes u [] u
  names : {x : Token} {xs ys zs u : List Token} {ns own : List (List ℕ)} → ends_section x ≡ false → Names (x ∷ xs) ns ys → TypeText ys zs → Attributes zs own u
      → Attributes (x ∷ xs) (ns ++ own) u
  redeclared : {x : Token} {e a : List ℕ} {xs ys u : List Token} {own : List (List ℕ)} → says (codes "SELF") x ≡ true → TypeText xs ys → Attributes ys own u
      → Attributes (x ∷ Sign 92 ∷ Word e ∷ Sign 46 ∷ Word a ∷ Sign 58 ∷ xs) own u

-- ---- sections of an entity (9.2.1.2, 9.2.1.3, 9.2.2)

-- The text of a section: tokens, none of which is a word that ends it.
pub data SectionText : List Token → List Token → List Token → Type 0 where
  none : {u : List Token} → SectionText u [] u
  more : {x : Token} {xs text u : List Token} → ends_section x ≡ false → SectionText xs text u → SectionText (x ∷ xs) (x ∷ text) u

-- Tokens cut at semicolons: the first line, and the others.
unfoldable pub cut : List Token → List Token × List (List Token)
cut [] = ([], [])
cut (x ∷ xs) = if is_sign 59 x then ([], (cut xs).0 ∷ (cut xs).1) else (x ∷ (cut xs).0, (cut xs).1)

-- the name a of a line that begins with `SELF\E.a`
unfoldable pub redeclares : List Token → List (List ℕ)
redeclares (s ∷ b ∷ Word e ∷ d ∷ Word a ∷ others) = if says (codes "SELF") s && (is_sign 92 b && is_sign 46 d) then a ∷ [] else []
redeclares others = []

-- the names of these lines
unfoldable pub redeclared_names : List (List Token) → List (List ℕ)
redeclared_names [] = []
redeclared_names (line ∷ lines) = redeclares line ++ redeclared_names lines

-- The attributes that the text of DERIVE redeclares.
abbrev pub derived_names : List Token → List (List ℕ)
derived_names text = redeclared_names ((cut text).0 ∷ (cut text).1)

-- Sections in any order, and the names that those of DERIVE redeclare. The others are passed over.
pub data Sections : List Token → List (List ℕ) → List Token → Type 0 where
  none : {u : List Token} → Sections u [] u
  derive : {x : Token} {xs text ys u : List Token} {names : List (List ℕ)} → says (codes "DERIVE") x ≡ true → SectionText xs text ys → Sections ys names u
      → Sections (x ∷ xs) (derived_names text ++ names) u
  inverse : {x : Token} {xs text ys u : List Token} {names : List (List ℕ)} → says (codes "INVERSE") x ≡ true → SectionText xs text ys → Sections ys names u → Sections (x ∷ xs) names u
  unique : {x : Token} {xs text ys u : List Token} {names : List (List ℕ)} → says (codes "UNIQUE") x ≡ true → SectionText xs text ys → Sections ys names u → Sections (x ∷ xs) names u
  where_ : {x : Token} {xs text ys u : List Token} {names : List (List ℕ)} → says (codes "WHERE") x ≡ true → SectionText xs text ys → Sections ys names u → Sections (x ∷ xs) names u

-- ---- entities (9.2)

abbrev pub in_upper_case : List ℕ → List ℕ
in_upper_case word = map to_ascii_uppercase word

-- `[ABSTRACT]`, and whether it is there (9.2.4)
pub data Abstract : List Token → Bool → List Token → Type 0 where
  isnt : {u : List Token} → Abstract u false u
  is : {x : Token} {u : List Token} → says (codes "ABSTRACT") x ≡ true → Abstract (x ∷ u) true u

-- `[SUPERTYPE [OF (text)]]` (9.2.3)
pub data Supertype : List Token → List Token → Type 0 where
  none : {u : List Token} → Supertype u u
  plain : {x : Token} {u : List Token} → says (codes "SUPERTYPE") x ≡ true → Supertype (x ∷ u) u
  of_ : {x y : Token} {xs u : List Token} → says (codes "SUPERTYPE") x ≡ true → says (codes "OF") y ≡ true → InParentheses xs u → Supertype (x ∷ y ∷ Sign 40 ∷ xs) u

-- `[SUBTYPE OF (m)];`, and the one supertype m, in upper case (9.2.3)
pub data Subtype : List Token → Option (List ℕ) → List Token → Type 0 where
  none : {u : List Token} → Subtype (Sign 59 ∷ u) None u
  of_ : {x y : Token} {m : List ℕ} {u : List Token} → says (codes "SUBTYPE") x ≡ true → says (codes "OF") y ≡ true
      → Subtype (x ∷ y ∷ Sign 40 ∷ Word m ∷ Sign 41 ∷ Sign 59 ∷ u) (Some (in_upper_case m)) u

-- `ENTITY n [ABSTRACT] [SUPERTYPE [OF (text)]] [SUBTYPE OF (m)]; attributes sections END_ENTITY;`. The names n and m are kept in upper case.
pub data IsEntity : List Token → EntityDecl → List Token → Type 0 where
  entity : {x e : Token} {n : List ℕ} {xs ys zs vs ws u : List Token} {is_abstract : Bool} {parent : Option (List ℕ)} {own derived : List (List ℕ)}
      → says (codes "ENTITY") x ≡ true → Abstract xs is_abstract ys → Supertype ys zs → Subtype zs parent vs → Attributes vs own ws
      → Sections ws derived (e ∷ Sign 59 ∷ u) → says (codes "END_ENTITY") e ≡ true
      → IsEntity (x ∷ Word n ∷ xs) (record { name = in_upper_case n; parent = parent; is_abstract = is_abstract; own = own; derived = derived }) u

-- ---- types (9.1)

-- `[WHERE text] END_TYPE;`
pub data TypeEnd : List Token → List Token → Type 0 where
  plain : {e : Token} {u : List Token} → says (codes "END_TYPE") e ≡ true → TypeEnd (e ∷ Sign 59 ∷ u) u
  where_ : {x : Token} {xs u : List Token} → says (codes "WHERE") x ≡ true → UpTo (says (codes "END_TYPE")) xs (Sign 59 ∷ u) → TypeEnd (x ∷ xs) u

-- `TYPE t = text; [WHERE text] END_TYPE;`, of which the name is kept, in upper case
pub data IsType : List Token → TypeDecl → List Token → Type 0 where
  type : {x : Token} {n : List ℕ} {xs ys u : List Token} → says (codes "TYPE") x ≡ true → TypeText xs ys → TypeEnd ys u
      → IsType (x ∷ Word n ∷ Sign 61 ∷ xs) (record { name = in_upper_case n }) u

-- ---- schemas (9.3)

-- functions, rules, procedures and constants (9.4, 9.5, 9.6), each up to the first END word of its kind and a semicolon
pub data IsBlock : List Token → List Token → Type 0 where
  function : {x : Token} {xs u : List Token} → says (codes "FUNCTION") x ≡ true → UpTo (says (codes "END_FUNCTION")) xs (Sign 59 ∷ u) → IsBlock (x ∷ xs) u
  rule : {x : Token} {xs u : List Token} → says (codes "RULE") x ≡ true → UpTo (says (codes "END_RULE")) xs (Sign 59 ∷ u) → IsBlock (x ∷ xs) u
  procedure : {x : Token} {xs u : List Token} → says (codes "PROCEDURE") x ≡ true → UpTo (says (codes "END_PROCEDURE")) xs (Sign 59 ∷ u) → IsBlock (x ∷ xs) u
  constant : {x : Token} {xs u : List Token} → says (codes "CONSTANT") x ≡ true → UpTo (says (codes "END_CONSTANT")) xs (Sign 59 ∷ u) → IsBlock (x ∷ xs) u

-- declarations in any order, and the entities and types among them
pub data Declarations : List Token → List EntityDecl → List TypeDecl → List Token → Type 0 where
  none : {u : List Token} → Declarations u [] [] u
  entity : {xs ys u : List Token} {e : EntityDecl} {es : List EntityDecl} {ts : List TypeDecl} → IsEntity xs e ys → Declarations ys es ts u → Declarations xs (e ∷ es) ts u
  type : {xs ys u : List Token} {d : TypeDecl} {es : List EntityDecl} {ts : List TypeDecl} → IsType xs d ys → Declarations ys es ts u → Declarations xs es (d ∷ ts) u
  block : {xs ys u : List Token} {es : List EntityDecl} {ts : List TypeDecl} → IsBlock xs ys → Declarations ys es ts u → Declarations xs es ts u

-- `SCHEMA name; declarations END_SCHEMA;`, and nothing else
pub data IsSchema : List Token → Decls → Type 0 where
  schema : {x e : Token} {n : List ℕ} {xs : List Token} {es : List EntityDecl} {ts : List TypeDecl} → says (codes "SCHEMA") x ≡ true
      → Declarations xs es ts (e ∷ Sign 59 ∷ []) → says (codes "END_SCHEMA") e ≡ true → IsSchema (x ∷ Word n ∷ Sign 59 ∷ xs) (record { entities = es; types = ts })

-- The bytes are a schema with these declarations.
pub record Declares (bytes : List ℕ) (found : Decls) : Type 0 where
  pub tokens : List Token
  pub spelled : Tokens (codes_of bytes) tokens
  pub schema : IsSchema tokens found
