-- Types, blocks, declarations and schemas: what is read is of the grammar, and what is of the grammar is read.
use Rattle.std.proofs.Common.{◌≡◌, ℕ, ◌<◌, ◌≤◌, true, false, List, [], ◌∷◌, ◌++◌, length, Option, Some, None, Ok, refl, sym, ap, ◌∙◌, subst, inl, inr, arith, append_assoc}
use Rattle.std.specs.Prelude.{codes}
use Rattle.std.proofs.lemmas.List.{append-nil}
use Rattle.ifc_base.specs.declared.decl.EntityDecl.{EntityDecl}
use Rattle.ifc_base.specs.declared.decl.TypeDecl.{TypeDecl}
use Rattle.reading.specs.Reading.{Text, turns}
use Rattle.reading.proofs.Tools.{bound, kept, tested, each_sound, Run, all_run}
use Rattle.express_decl.specs.declared.decl.Decls.{Decls}
use Rattle.express_decl.specs.declared.decl.DeclCause.TheVariants.{Unexpected}
use Rattle.express_decl.specs.Tokens.{Token, Word, Sign, Lexed, token, says}
use Rattle.express_decl.specs.Steps.{next, word, keyword, sign, type_text, to_word}
use Rattle.express_decl.specs.Entities.{entity}
use Rattle.express_decl.specs.Schemas.{type_end, type_decl, block_end, block, block_or_none, declaration, declaration_turn, no_decls, declarations, whole_end, whole}
use Rattle.express_decl.specs.Lexical.{Tokens}
use Rattle.express_decl.specs.Grammar.{UpTo, IsEntity, TypeEnd, IsType, IsBlock, Declarations, IsSchema}
use Rattle.express_decl.proofs.DeclTools.{lexed, given, same, left_of, state_of, never_last, never_more}
use Rattle.express_decl.proofs.LexicalLaws.{token_none}
use Rattle.express_decl.proofs.StepLaws.{said_other, next_sound, step, ended}
use Rattle.express_decl.proofs.PassLaws.{Comes, word_sound, word_comes, keyword_sound, keyword_comes, sign_sound, sign_comes, type_text_sound, type_text_comes, to_word_sound, to_word_comes}
use Rattle.express_decl.proofs.PartLaws.{Leaves}
use Rattle.express_decl.proofs.EntityLaws.{entity_sound, entity_comes}

-- ---- types

type_end_sound : (opened : Text) (x : Lexed) (t : Text) (y : Unit {0} × Text) {ys : List Token} → type_end opened x t ≡ Ok y → Tokens y.1 (Sign 59 ∷ ys) → (xs : List Token) × Tokens t xs × TypeEnd (x.token ∷ xs) ys
unfolding type_end
type_end_sound opened x t y {ys = ys} e rest =
    elim (tested (says (codes "END_TYPE") x.token)) [
      | inl h ↦
          let f = rw h at e in
          let one : (tt, t) ≡ y = same f in
          (Sign 59 ∷ ys, subst (λ (v : Text). Tokens v (Sign 59 ∷ ys)) (sym (ap (λ (z : Unit {0} × Text). z.1) one)) rest, TypeEnd.plain h)
      | inr h ↦
          let f = rw h at e in
          let k = kept (says (codes "WHERE") x.token) (to_word (codes "END_TYPE") opened t) Unexpected x.at y f in
          let w = to_word_sound (codes "END_TYPE") opened t y k.1 rest in
          (w.0, w.1, TypeEnd.where_ k.0 w.2)
    ]

type_sound : (opened t : Text) (y : TypeDecl × Text) {ys : List Token} → type_decl opened t ≡ Ok y → Tokens y.1 ys → (k : Token) → says (codes "TYPE") k ≡ true → (xs : List Token) × Tokens t xs × IsType (k ∷ xs) y.0 ys
unfolding type_decl
type_sound opened t y {ys = ys} e rest k is =
    let n = bound {r = word opened t} e in
    let q = bound {r = sign 61 opened n.0.1} n.2 in
    let x = bound {r = type_text opened q.0.1} q.2 in
    let f = bound {r = next opened x.0.1} x.2 in
    let d = bound {r = type_end opened f.0.0 f.0.1} f.2 in
    let z = bound {r = sign 59 opened d.0.1} d.2 in
    let one = same z.2 in
    let end : Tokens d.0.1 (Sign 59 ∷ ys) = sign_sound 59 opened d.0.1 z.0 z.1 (subst (λ (v : Text). Tokens v ys) (sym (ap (λ (p : TypeDecl × Text). p.1) one)) rest) in
    let behind = type_end_sound opened f.0.0 f.0.1 d.0 d.1 end in
    let text = type_text_sound opened q.0.1 x.0 x.1 (next_sound opened x.0.1 f.0 f.1 behind.1) in
    let name = word_sound opened t n.0.0 n.0.1 n.1 (sign_sound 61 opened n.0.1 q.0 q.1 text.1) in
    let found = IsType.type {n = n.0.0} is text.2 behind.2 in
    (Word n.0.0 ∷ Sign 61 ∷ text.0, name, subst (λ (p : TypeDecl). IsType (k ∷ Word n.0.0 ∷ Sign 61 ∷ text.0) p ys) (ap (λ (p : TypeDecl × Text). p.0) one) found)

type_end_some : {zs ys : List Token} → TypeEnd zs ys → (x : Token) × (xs : List Token) × (zs ≡ x ∷ xs)
type_end_some (TypeEnd.plain {e = e} {u = u} is) = (e, Sign 59 ∷ u, refl)
type_end_some (TypeEnd.where_ {x = x} {xs = xs} is up) = (x, xs, refl)

type_end_leaves : {t : Text} {x : Token} {xs ys : List Token} (opened at : Text) → TypeEnd (x ∷ xs) ys → Tokens t xs → Leaves t (type_end opened (lexed x at) t) tt (Sign 59 ∷ ys)
unfolding type_end
type_end_leaves {t = t} opened at (TypeEnd.plain is) all = record { left = t; gives = rw is refl; others = all; less = omega arith }
type_end_leaves {x = x} opened at (TypeEnd.where_ is up) all =
    let w = to_word_comes (codes "END_TYPE") opened up all in
    record { left = w.left; gives = rw (said_other (codes "WHERE") (codes "END_TYPE") x is refl, is) w.gives; others = w.others; less = omega (arith, w.less) }

type_comes : {t : Text} {k : Token} {xs ys : List Token} {d : TypeDecl} (opened : Text) → IsType (k ∷ xs) d ys → Tokens t xs → (says (codes "TYPE") k ≡ true) × Comes t (type_decl opened t) d ys
unfolding type_decl
type_comes {ys = ys} opened (IsType.type is text end) all =
    let n = word_comes opened all in
    let q = sign_comes 61 opened n.others in
    let x = type_text_comes opened text q.others in
    let some = type_end_some end in
    let f = step opened (subst (λ (us : List Token). Tokens x.left us) some.2 x.others) in
    let d = type_end_leaves opened f.at (subst (λ (us : List Token). TypeEnd us ys) some.2 end) f.others in
    let z = sign_comes 59 opened d.others in
    (is, record { left = z.left; gives = rw (n.gives, q.gives, x.gives, f.read, d.gives, z.gives) refl; others = z.others; less = omega (arith, n.less, q.less, x.less, f.less, d.less, z.less) })

-- ---- blocks

block_up : (end : List ℕ) (at t : Text) (y : Unit {0} × Text) {ys : List Token} → block end at t ≡ Ok y → Tokens y.1 ys → (xs : List Token) × Tokens t xs × UpTo (says end) xs (Sign 59 ∷ ys)
unfolding block
block_up end at t y e rest =
    let w = bound {r = to_word end at t} e in
    to_word_sound end at t w.0 w.1 (sign_sound 59 at w.0.1 y w.2 rest)

block_sound : (x : Token) (at t : Text) (y : Unit {0} × Text) {ys : List Token} → block_or_none (block_end x) at t ≡ Ok y → Tokens y.1 ys → (xs : List Token) × Tokens t xs × IsBlock (x ∷ xs) ys
unfolding block_end
block_sound x at t y e rest =
    elim (tested (says (codes "FUNCTION") x)) [
      | inl h ↦ let f = rw h at e in let b = block_up (codes "END_FUNCTION") at t y f rest in (b.0, b.1, IsBlock.function h b.2)
      | inr h ↦ let e1 = rw h at e in
          elim (tested (says (codes "RULE") x)) [
            | inl k ↦ let f = rw k at e1 in let b = block_up (codes "END_RULE") at t y f rest in (b.0, b.1, IsBlock.rule k b.2)
            | inr k ↦ let e2 = rw k at e1 in
                elim (tested (says (codes "PROCEDURE") x)) [
                  | inl m ↦ let f = rw m at e2 in let b = block_up (codes "END_PROCEDURE") at t y f rest in (b.0, b.1, IsBlock.procedure m b.2)
                  | inr m ↦ let e3 = rw m at e2 in
                      elim (tested (says (codes "CONSTANT") x)) [
                        | inl n ↦ let f = rw n at e3 in let b = block_up (codes "END_CONSTANT") at t y f rest in (b.0, b.1, IsBlock.constant n b.2)
                        | inr n ↦ let f = rw n at e3 in absurd cc
                      ]
                ]
          ]
    ]

block_comes : {t : Text} {xs ys : List Token} (end : List ℕ) (at : Text) → UpTo (says end) xs (Sign 59 ∷ ys) → Tokens t xs → Comes t (block end at t) tt ys
unfolding block
block_comes end at up all =
    let w = to_word_comes end at up all in
    let z = sign_comes 59 at w.others in
    record { left = z.left; gives = rw w.gives z.gives; others = z.others; less = omega (arith, w.less, z.less) }

-- a word that begins a block, and begins and ends nothing else
pub record BeginsBlock (x : Token) (end : List ℕ) : Type 0 where
  pub is : block_end x ≡ Some end
  pub no_entity : says (codes "ENTITY") x ≡ false
  pub no_type : says (codes "TYPE") x ≡ false
  pub no_end : says (codes "END_SCHEMA") x ≡ false

function_begins : (x : Token) → says (codes "FUNCTION") x ≡ true → BeginsBlock x (codes "END_FUNCTION")
unfolding block_end
function_begins x is = record {
  is = rw is refl;
  no_entity = said_other (codes "FUNCTION") (codes "ENTITY") x is refl;
  no_type = said_other (codes "FUNCTION") (codes "TYPE") x is refl;
  no_end = said_other (codes "FUNCTION") (codes "END_SCHEMA") x is refl;
}

rule_begins : (x : Token) → says (codes "RULE") x ≡ true → BeginsBlock x (codes "END_RULE")
unfolding block_end
rule_begins x is = record {
  is = rw (said_other (codes "RULE") (codes "FUNCTION") x is refl, is) refl;
  no_entity = said_other (codes "RULE") (codes "ENTITY") x is refl;
  no_type = said_other (codes "RULE") (codes "TYPE") x is refl;
  no_end = said_other (codes "RULE") (codes "END_SCHEMA") x is refl;
}

procedure_begins : (x : Token) → says (codes "PROCEDURE") x ≡ true → BeginsBlock x (codes "END_PROCEDURE")
unfolding block_end
procedure_begins x is = record {
  is = rw (said_other (codes "PROCEDURE") (codes "FUNCTION") x is refl, said_other (codes "PROCEDURE") (codes "RULE") x is refl, is) refl;
  no_entity = said_other (codes "PROCEDURE") (codes "ENTITY") x is refl;
  no_type = said_other (codes "PROCEDURE") (codes "TYPE") x is refl;
  no_end = said_other (codes "PROCEDURE") (codes "END_SCHEMA") x is refl;
}

constant_begins : (x : Token) → says (codes "CONSTANT") x ≡ true → BeginsBlock x (codes "END_CONSTANT")
unfolding block_end
constant_begins x is = record {
  is = rw (said_other (codes "CONSTANT") (codes "FUNCTION") x is refl, said_other (codes "CONSTANT") (codes "RULE") x is refl, said_other (codes "CONSTANT") (codes "PROCEDURE") x is refl, is) refl;
  no_entity = said_other (codes "CONSTANT") (codes "ENTITY") x is refl;
  no_type = said_other (codes "CONSTANT") (codes "TYPE") x is refl;
  no_end = said_other (codes "CONSTANT") (codes "END_SCHEMA") x is refl;
}

-- a block: its word, and the text up to its end
pub record BlockOf (xs ys : List Token) : Type 0 where
  pub x : Token
  pub others : List Token
  pub is : xs ≡ x ∷ others
  pub end : List ℕ
  pub begins : BeginsBlock x end
  pub up : UpTo (says end) others (Sign 59 ∷ ys)

block_of : {xs ys : List Token} → IsBlock xs ys → BlockOf xs ys
block_of (IsBlock.function {x = x} {xs = xs} is up) = record { x = x; others = xs; is = refl; end = codes "END_FUNCTION"; begins = function_begins x is; up = up }
block_of (IsBlock.rule {x = x} {xs = xs} is up) = record { x = x; others = xs; is = refl; end = codes "END_RULE"; begins = rule_begins x is; up = up }
block_of (IsBlock.procedure {x = x} {xs = xs} is up) = record { x = x; others = xs; is = refl; end = codes "END_PROCEDURE"; begins = procedure_begins x is; up = up }
block_of (IsBlock.constant {x = x} {xs = xs} is up) = record { x = x; others = xs; is = refl; end = codes "END_CONSTANT"; begins = constant_begins x is; up = up }

-- ---- declarations

-- declarations behind those that are read, up to the word END_SCHEMA
pub record Declared (s : Decls) (t : Text) (r : Decls) (ys : List Token) : Type 0 where
  pub tokens : List Token
  pub spelled : Tokens t tokens
  pub e : Token
  pub entities : List EntityDecl
  pub types : List TypeDecl
  pub is : Declarations tokens entities types (e ∷ ys)
  pub ends : says (codes "END_SCHEMA") e ≡ true
  pub all_entities : r.entities ≡ s.entities ++ entities
  pub all_types : r.types ≡ s.types ++ types

abbrev decls_of : List EntityDecl → List TypeDecl → Decls
decls_of es ts = record { entities = es; types = ts }

abbrev with_entity : Decls → EntityDecl → Decls
with_entity s e = record s { entities = s.entities ++ e ∷ [] }

abbrev with_type : Decls → TypeDecl → Decls
with_type s d = record s { types = s.types ++ d ∷ [] }

module _ (opened : Text) where
  abbrev Reads : Decls → Text → Decls → Text → Type 0
  Reads s t r u = (ys : List Token) → Tokens u ys → Declared s t r ys

  decl_last : (s : Decls) (t : Text) (r : Decls) (u : Text) → declaration_turn opened s t ≡ Ok ((false, r), u) → Reads s t r u
  unfolding declaration
  decl_last s t r u e ys rest =
      let b = bound {r = next opened t} e in
      elim (tested (says (codes "ENTITY") b.0.0.token)) [
        | inl h ↦ let f = rw h at b.2 in let c = bound {r = entity b.0.0.at b.0.1} f in absurd (never_last c.2)
        | inr h ↦ let e1 = rw h at b.2 in
            elim (tested (says (codes "TYPE") b.0.0.token)) [
              | inl k ↦ let f = rw k at e1 in let c = bound {r = type_decl b.0.0.at b.0.1} f in absurd (never_last c.2)
              | inr k ↦ let e2 = rw k at e1 in
                  elim (tested (says (codes "END_SCHEMA") b.0.0.token)) [
                    | inl m ↦
                        let f = rw m at e2 in
                        let all : Tokens t (b.0.0.token ∷ ys) = next_sound opened t b.0 b.1 (subst (λ (v : Text). Tokens v ys) (sym (left_of f)) rest) in
                        record {
                          tokens = b.0.0.token ∷ ys;
                          spelled = all;
                          e = b.0.0.token;
                          entities = [];
                          types = [];
                          is = Declarations.none;
                          ends = m;
                          all_entities = sym (ap (λ (d : Decls). d.entities) (state_of f)) ∙ sym (append-nil s.entities);
                          all_types = sym (ap (λ (d : Decls). d.types) (state_of f)) ∙ sym (append-nil s.types);
                        }
                    | inr m ↦ let f = rw m at e2 in let c = bound {r = block_or_none (block_end b.0.0.token) b.0.0.at b.0.1} f in absurd (never_last c.2)
                  ]
            ]
      ]

  decl_more : (s : Decls) (t : Text) (r : Decls) (u : Text) (q : Decls) (w : Text) → declaration_turn opened s t ≡ Ok ((true, r), u) → Reads r u q w → Reads s t q w
  unfolding declaration
  decl_more s t r u q w e more ys rest =
      let b = bound {r = next opened t} e in
      elim (tested (says (codes "ENTITY") b.0.0.token)) [
        | inl h ↦
            let f = rw h at b.2 in
            let c = bound {r = entity b.0.0.at b.0.1} f in
            let from : Reads (with_entity s c.0.0) u q w = subst (λ (z : Decls). Reads z u q w) (sym (state_of c.2)) more in
            let d = from ys rest in
            let i = entity_sound b.0.0.at b.0.1 c.0 c.1 (subst (λ (v : Text). Tokens v d.tokens) (sym (left_of c.2)) d.spelled) b.0.0.token h in
            record {
              tokens = b.0.0.token ∷ i.0;
              spelled = next_sound opened t b.0 b.1 i.1;
              e = d.e;
              entities = c.0.0 ∷ d.entities;
              types = d.types;
              is = Declarations.entity i.2 d.is;
              ends = d.ends;
              all_entities = d.all_entities ∙ append_assoc s.entities (c.0.0 ∷ []) d.entities;
              all_types = d.all_types;
            }
        | inr h ↦ let e1 = rw h at b.2 in
            elim (tested (says (codes "TYPE") b.0.0.token)) [
              | inl k ↦
                  let f = rw k at e1 in
                  let c = bound {r = type_decl b.0.0.at b.0.1} f in
                  let from : Reads (with_type s c.0.0) u q w = subst (λ (z : Decls). Reads z u q w) (sym (state_of c.2)) more in
                  let d = from ys rest in
                  let i = type_sound b.0.0.at b.0.1 c.0 c.1 (subst (λ (v : Text). Tokens v d.tokens) (sym (left_of c.2)) d.spelled) b.0.0.token k in
                  record {
                    tokens = b.0.0.token ∷ i.0;
                    spelled = next_sound opened t b.0 b.1 i.1;
                    e = d.e;
                    entities = d.entities;
                    types = c.0.0 ∷ d.types;
                    is = Declarations.type i.2 d.is;
                    ends = d.ends;
                    all_entities = d.all_entities;
                    all_types = d.all_types ∙ append_assoc s.types (c.0.0 ∷ []) d.types;
                  }
              | inr k ↦ let e2 = rw k at e1 in
                  elim (tested (says (codes "END_SCHEMA") b.0.0.token)) [
                    | inl m ↦ let f = rw m at e2 in absurd (never_more f)
                    | inr m ↦
                        let f = rw m at e2 in
                        let c = bound {r = block_or_none (block_end b.0.0.token) b.0.0.at b.0.1} f in
                        let from : Reads s u q w = subst (λ (z : Decls). Reads z u q w) (sym (state_of c.2)) more in
                        let d = from ys rest in
                        let i = block_sound b.0.0.token b.0.0.at b.0.1 c.0 c.1 (subst (λ (v : Text). Tokens v d.tokens) (sym (left_of c.2)) d.spelled) in
                        record {
                          tokens = b.0.0.token ∷ i.0;
                          spelled = next_sound opened t b.0 b.1 i.1;
                          e = d.e;
                          entities = d.entities;
                          types = d.types;
                          is = Declarations.block i.2 d.is;
                          ends = d.ends;
                          all_entities = d.all_entities;
                          all_types = d.all_types;
                        }
                  ]
            ]
      ]

declarations_sound : (opened t : Text) (y : Decls × Text) {ys : List Token} → declarations opened t ≡ Ok y → Tokens y.1 ys → Declared no_decls t y.0 ys
unfolding declarations
declarations_sound opened t y {ys = ys} e rest = each_sound Unexpected (declaration_turn opened) (Reads opened) (decl_last opened) (decl_more opened) (turns t) no_decls t y.0 y.1 e ys rest

-- ---- what is of the grammar is read

entity_some : {xs ys : List Token} {e : EntityDecl} → IsEntity xs e ys → (k : Token) × (us : List Token) × (xs ≡ k ∷ us)
entity_some (IsEntity.entity {x = x} {n = n} {xs = xs} is a super sub own sections ends) = (x, Word n ∷ xs, refl)

type_some : {xs ys : List Token} {d : TypeDecl} → IsType xs d ys → (k : Token) × (us : List Token) × (xs ≡ k ∷ us)
type_some (IsType.type {x = x} {n = n} {xs = xs} is text end) = (x, Word n ∷ Sign 61 ∷ xs, refl)

module _ (opened : Text) where
  end_turn : {t : Text} {x : Token} {xs : List Token} (s : Decls) → says (codes "END_SCHEMA") x ≡ true → (all : Tokens t (x ∷ xs)) → declaration_turn opened s t ≡ Ok ((false, s), (step opened all).left)
  unfolding declaration
  end_turn {x = x} s is all =
      let n = step opened all in
      rw (n.read, said_other (codes "END_SCHEMA") (codes "ENTITY") x is refl, said_other (codes "END_SCHEMA") (codes "TYPE") x is refl, is) refl

  entity_turn : {t : Text} {x : Token} {xs : List Token} {e : EntityDecl} {v : Text} (s : Decls) → says (codes "ENTITY") x ≡ true → (all : Tokens t (x ∷ xs)) → entity (step opened all).at (step opened all).left ≡ Ok (e, v)
      → declaration_turn opened s t ≡ Ok ((true, with_entity s e), v)
  unfolding declaration
  entity_turn s is all went = let n = step opened all in rw (n.read, is, went) refl

  type_turn : {t : Text} {x : Token} {xs : List Token} {d : TypeDecl} {v : Text} (s : Decls) → says (codes "TYPE") x ≡ true → (all : Tokens t (x ∷ xs)) → type_decl (step opened all).at (step opened all).left ≡ Ok (d, v)
      → declaration_turn opened s t ≡ Ok ((true, with_type s d), v)
  unfolding declaration
  type_turn {x = x} s is all went = let n = step opened all in rw (n.read, said_other (codes "TYPE") (codes "ENTITY") x is refl, is, went) refl

  block_turn : {t : Text} {x : Token} {xs : List Token} {end : List ℕ} {v : Text} (s : Decls) → BeginsBlock x end → (all : Tokens t (x ∷ xs)) → block end (step opened all).at (step opened all).left ≡ Ok (tt, v)
      → declaration_turn opened s t ≡ Ok ((true, s), v)
  unfolding declaration
  block_turn s begins all went = let n = step opened all in rw (n.read, begins.no_entity, begins.no_type, begins.no_end, begins.is, went) refl

  abbrev all_of : Decls → List EntityDecl → List TypeDecl → Decls
  all_of s es ts = decls_of (s.entities ++ es) (s.types ++ ts)

  -- turns up to the end of the schema
  abbrev Ends : Text → Decls → Decls → List Token → Type 0
  Ends t s r ys = (left : Text) × Tokens left ys × (length left ≤ length t) × Run (declaration_turn opened) s t r left

  declarations_end : {t : Text} {xs us ys : List Token} {e : Token} {es : List EntityDecl} {ts : List TypeDecl} (s : Decls) → Declarations xs es ts us → us ≡ e ∷ ys → says (codes "END_SCHEMA") e ≡ true → Tokens t xs
      → Ends t s (all_of s es ts) ys
  declarations_end {t = t} {ys = ys} {e = e} s Declarations.none alike is all =
      let here : Tokens t (e ∷ ys) = subst (λ (us : List Token). Tokens t us) alike all in
      let n = step opened here in
      let none : all_of s [] [] ≡ s = ap (λ (l : List EntityDecl). decls_of l (s.types ++ [])) (append-nil s.entities) ∙ ap (λ (l : List TypeDecl). decls_of s.entities l) (append-nil s.types) in
      subst (λ (r : Decls). Ends t s r ys) (sym none) (n.left, n.others, omega (arith, n.less), Run.last s t s n.left (end_turn s is here))
  declarations_end {t = t} {ys = ys} s (Declarations.entity {ys = zs} {e = e} {es = es} {ts = ts} found more) alike is all =
      let some = entity_some found in
      let here = subst (λ (us : List Token). Tokens t us) some.2 all in
      let n = step opened here in
      let c = entity_comes n.at (subst (λ (us : List Token). IsEntity us e zs) some.2 found) n.others in
      let j = declarations_end {t = c.1.left} (with_entity s e) more alike is c.1.others in
      let less : length c.1.left < length t = omega (arith, n.less, c.1.less) in
      let value : all_of (with_entity s e) es ts ≡ all_of s (e ∷ es) ts = ap (λ (l : List EntityDecl). decls_of l (s.types ++ ts)) (append_assoc s.entities (e ∷ []) es) in
      subst (λ (r : Decls). Ends t s r ys) value (j.0, j.1, omega (arith, less, j.2), Run.more s t (with_entity s e) c.1.left (all_of (with_entity s e) es ts) j.0 (entity_turn s c.0 here c.1.gives) less j.3)
  declarations_end {t = t} {ys = ys} s (Declarations.type {ys = zs} {d = d} {es = es} {ts = ts} found more) alike is all =
      let some = type_some found in
      let here = subst (λ (us : List Token). Tokens t us) some.2 all in
      let n = step opened here in
      let c = type_comes n.at (subst (λ (us : List Token). IsType us d zs) some.2 found) n.others in
      let j = declarations_end {t = c.1.left} (with_type s d) more alike is c.1.others in
      let less : length c.1.left < length t = omega (arith, n.less, c.1.less) in
      let value : all_of (with_type s d) es ts ≡ all_of s es (d ∷ ts) = ap (λ (l : List TypeDecl). decls_of (s.entities ++ es) l) (append_assoc s.types (d ∷ []) ts) in
      subst (λ (r : Decls). Ends t s r ys) value (j.0, j.1, omega (arith, less, j.2), Run.more s t (with_type s d) c.1.left (all_of (with_type s d) es ts) j.0 (type_turn s c.0 here c.1.gives) less j.3)
  declarations_end {t = t} s (Declarations.block {es = es} {ts = ts} found more) alike is all =
      let b = block_of found in
      let here = subst (λ (us : List Token). Tokens t us) b.is all in
      let n = step opened here in
      let c = block_comes b.end n.at b.up n.others in
      let j = declarations_end {t = c.left} s more alike is c.others in
      let less : length c.left < length t = omega (arith, n.less, c.less) in
      (j.0, j.1, omega (arith, less, j.2), Run.more s t s c.left (all_of s es ts) j.0 (block_turn s b.begins here c.gives) less j.3)

-- ---- schemas

end_is : (s : Decls) (o : Option Lexed) (d : Decls) → whole_end s o ≡ Ok d → (o ≡ None) × (s ≡ d)
end_is s None d e = (refl, same e)
end_is s (Some x) d e = absurd cc

pub whole_sound : (t : Text) (d : Decls) → whole t ≡ Ok d → (xs : List Token) × Tokens t xs × IsSchema xs d
unfolding whole
whole_sound t d e =
    let k = bound {r = keyword (codes "SCHEMA") [] t} e in
    let n = bound {r = word [] k.0.1} k.2 in
    let h = bound {r = sign 59 [] n.0.1} n.2 in
    let f = bound {r = declarations k.0.0 h.0.1} h.2 in
    let z = bound {r = sign 59 k.0.0 f.0.1} f.2 in
    let x = bound {r = token z.0.1} z.2 in
    let last = end_is f.0.0 x.0.0 d x.2 in
    let none : Tokens z.0.1 [] = Tokens.none (token_none z.0.1 x.0.1 (x.1 ∙ ap (λ (o : Option Lexed). given o x.0.1) last.0)) in
    let inside = declarations_sound k.0.0 h.0.1 f.0 f.1 (sign_sound 59 k.0.0 f.0.1 z.0 z.1 none) in
    let name = word_sound [] k.0.1 n.0.0 n.0.1 n.1 (sign_sound 59 [] n.0.1 h.0 h.1 inside.spelled) in
    let first = keyword_sound (codes "SCHEMA") [] t k.0 k.1 name in
    let found : IsSchema (first.0 ∷ Word n.0.0 ∷ Sign 59 ∷ inside.tokens) (decls_of inside.entities inside.types) = IsSchema.schema first.1 inside.is inside.ends in
    let value : decls_of inside.entities inside.types ≡ d =
    ap (λ (l : List EntityDecl). decls_of l inside.types) (sym inside.all_entities) ∙ ap (λ (l : List TypeDecl). decls_of f.0.0.entities l) (sym inside.all_types) ∙ last.1 in
    (first.0 ∷ Word n.0.0 ∷ Sign 59 ∷ inside.tokens, first.2, subst (λ (q : Decls). IsSchema (first.0 ∷ Word n.0.0 ∷ Sign 59 ∷ inside.tokens) q) value found)

declarations_are : {t : Text} {xs ys : List Token} {e : Token} {es : List EntityDecl} {ts : List TypeDecl} (opened : Text) → Declarations xs es ts (e ∷ ys) → says (codes "END_SCHEMA") e ≡ true → Tokens t xs
    → Leaves t (declarations opened t) (decls_of es ts) ys
unfolding declarations
declarations_are opened found is all =
    let j = declarations_end opened no_decls found refl is all in
    record { left = j.0; gives = all_run Unexpected (declaration_turn opened) j.3; others = j.1; less = j.2 }

pub whole_complete : {t : Text} {xs : List Token} {d : Decls} → Tokens t xs → IsSchema xs d → whole t ≡ Ok d
unfolding whole
whole_complete all (IsSchema.schema is found ends) =
    let k = keyword_comes (codes "SCHEMA") [] is all in
    let n = word_comes [] k.1.others in
    let h = sign_comes 59 [] n.others in
    let f = declarations_are k.0 found ends h.others in
    let z = sign_comes 59 k.0 f.others in
    rw (k.1.gives, n.gives, h.gives, f.gives, z.gives, ended z.others) refl
