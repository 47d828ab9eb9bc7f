-- Each turn of a loop leaves less than it found, if it goes on: so no fault comes from the bound of a loop.
use Rattle.std.proofs.Common.{◌≡◌, ℕ, ◌<◌, ◌≤◌, Bool, true, false, ◌&&◌, eqb, List, [], ◌∷◌, ◌++◌, length, Option, Some, None, Ok, ap, inl, inr, arith}
use Rattle.std.specs.Prelude.{codes}
use Rattle.ifc_base.specs.declared.decl.EntityDecl.{EntityDecl}
use Rattle.ifc_base.specs.declared.decl.TypeDecl.{TypeDecl}
use Rattle.reading.specs.Reading.{Text, Turn, turns, all_turns}
use Rattle.reading.proofs.Tools.{bound, kept, passed, tested, each_sound}
use Rattle.express_decl.specs.declared.decl.Decls.{Decls}
use Rattle.express_decl.specs.declared.decl.DeclCause.{DeclCause}
use Rattle.express_decl.specs.declared.decl.DeclCause.TheVariants.{Unexpected}
use Rattle.express_decl.specs.declared.section.Heading.{Heading}
use Rattle.express_decl.specs.declared.section.Heading.TheVariants as heading
use Rattle.express_decl.specs.declared.section.Section.{Section}
use Rattle.express_decl.specs.declared.section.Section.TheVariants as section
use Rattle.express_decl.specs.declared.section.Body.{Body}
use Rattle.express_decl.specs.Tokens.{Remarks, remark_turn, remark, behind, next_is, is_blank, gap_turn, Token, Word, Quoted, Sign, Lexed, says, is_sign}
use Rattle.express_decl.specs.Steps.{next, word, keyword, sign, to_word_turn, to_word, to_semicolon_turn, to_semicolon, type_text, parenthesis_turn, in_parentheses}
use Rattle.express_decl.specs.Entities.{abstract_part, subtypes_part, supertype_part, parent_end, parent, parent_part, name_turn, attributes, redeclared, self_line, line_from, attribute_line, heading_of, within, body_step, body_turn, no_body, body, entity}
use Rattle.express_decl.specs.Schemas.{type_end, type_decl, block_end, block, block_or_none, declaration, declaration_turn}
use Rattle.express_decl.proofs.DeclTools.{same, left_of, never_more}
use Rattle.express_decl.proofs.LexicalLaws.{remark_sound, remark_shorter, tail_is, tail_shorter}
use Rattle.express_decl.proofs.StepLaws.{next_less}
use Rattle.express_decl.proofs.PassLaws.{word_of_is}

-- ---- remarks and blanks

behind_less : (t : Text) → length (behind t) ≤ length t
unfolding behind
behind_less [] = omega arith
behind_less (c ∷ t) = omega arith

pub remark_shortens : (s : Remarks) (t : Text) (r : Remarks) (u : Text) → remark_turn s t ≡ Ok ((true, r), u) → length u < length t
unfolding remark_turn
remark_shortens s [] r u e = absurd cc
remark_shortens s (c ∷ t) r u e =
    elim (tested (eqb c 40 && next_is 42 t)) [
      | inl o ↦ let f = rw o at e in omega (arith, behind_less t, ap length (left_of f))
      | inr o ↦ let e1 = rw o at e in
          elim (tested (eqb c 42 && next_is 41 t)) [
            | inl k ↦ let f = rw k at e1 in omega (arith, behind_less t, ap length (left_of f))
            | inr k ↦ let f = rw k at e1 in omega (arith, ap length (left_of f))
          ]
    ]

pub gap_shortens : (s : Unit {0}) (t : Text) (r : Unit {0}) (u : Text) → gap_turn s t ≡ Ok ((true, r), u) → length u < length t
unfolding gap_turn
gap_shortens s [] r u e = absurd (never_more e)
gap_shortens s (c ∷ t) r u e =
    elim (tested (is_blank c)) [
      | inl h ↦ let f = rw h at e in omega (arith, ap length (left_of f))
      | inr h ↦ let e1 = rw h at e in
          elim (tested (eqb c 45 && next_is 45 t)) [
            | inl k ↦ let f = rw k at e1 in omega (arith, behind_less t, tail_shorter (tail_is (behind t)), ap length (left_of f))
            | inr k ↦ let e2 = rw k at e1 in
                elim (tested (eqb c 40 && next_is 42 t)) [
                  | inl m ↦
                      let f = rw m at e2 in
                      let b = bound {r = remark (c ∷ t) (behind t)} f in
                      omega (arith, behind_less t, remark_shorter (remark_sound (c ∷ t) (behind t) b.0.1 b.1), ap length (left_of b.2))
                  | inr m ↦ let f = rw m at e2 in absurd (never_more f)
                ]
          ]
    ]

-- ---- steps and loops of steps

-- every turn leaves less, also the last one
abbrev Shrinks : {S : Type 0} → Turn DeclCause S → Type 0
Shrinks {S} turn = (s : S) (t : Text) (x : (Bool × S) × Text) → turn s t ≡ Ok x → length x.1 < length t

goes_on : {S : Type 0} (turn : Turn DeclCause S) → Shrinks turn → (s : S) (t : Text) (r : S) (u : Text) → turn s t ≡ Ok ((true, r), u) → length u < length t
goes_on turn less s t r u e = less s t ((true, r), u) e

all_less : {S : Type 0} (turn : Turn DeclCause S) → Shrinks turn → (s : S) (t : Text) (y : S × Text) → all_turns Unexpected turn s t ≡ Ok y → length y.1 < length t
all_less {S = S} turn less s t y e =
    each_sound Unexpected turn (λ (a : S) (v : Text) (b : S) (w : Text). length w < length v)
    (λ a v b w went. less a v ((false, b), w) went)
    (λ a v b w q z went rest. let first = less a v ((true, b), w) went in omega (arith, first, rest))
    (turns t) s t y.0 y.1 e

word_less : (opened t : Text) (y : List ℕ × Text) → word opened t ≡ Ok y → length y.1 < length t
unfolding word
word_less opened t y e =
    let b = bound {r = next opened t} e in
    let is = word_of_is b.0.0.at b.0.0.token b.0.1 y.0 y.1 b.2 in
    omega (arith, next_less opened t b.0 b.1, ap length is.1)

keyword_less : (wanted : List ℕ) (opened t : Text) (y : Text × Text) → keyword wanted opened t ≡ Ok y → length y.1 < length t
unfolding keyword
keyword_less wanted opened t y e =
    let b = bound {r = next opened t} e in
    let k = kept (says wanted b.0.0.token) (Ok (b.0.0.at, b.0.1)) Unexpected b.0.0.at y b.2 in
    omega (arith, next_less opened t b.0 b.1, ap (λ (z : Text × Text). length z.1) (same k.1))

sign_less : (c : ℕ) (opened t : Text) (y : Unit {0} × Text) → sign c opened t ≡ Ok y → length y.1 < length t
unfolding sign
sign_less c opened t y e =
    let b = bound {r = next opened t} e in
    let k = kept (is_sign c b.0.0.token) (Ok (tt, b.0.1)) Unexpected b.0.0.at y b.2 in
    omega (arith, next_less opened t b.0 b.1, ap (λ (z : Unit {0} × Text). length z.1) (same k.1))

abbrev UnitTurn : Type 0
UnitTurn = (Bool × Unit {0}) × Text

word_turns : (wanted : List ℕ) (opened : Text) → Shrinks (to_word_turn wanted opened)
word_turns wanted opened s t x e = let b = bound {r = next opened t} e in omega (arith, next_less opened t b.0 b.1, ap (λ (z : UnitTurn). length z.1) (same b.2))

semicolon_turns : (opened : Text) → Shrinks (to_semicolon_turn opened)
semicolon_turns opened s t x e = let b = bound {r = next opened t} e in omega (arith, next_less opened t b.0 b.1, ap (λ (z : UnitTurn). length z.1) (same b.2))

to_word_less : (wanted : List ℕ) (opened t : Text) (y : Unit {0} × Text) → to_word wanted opened t ≡ Ok y → length y.1 < length t
unfolding to_word
to_word_less wanted opened t y e = all_less (to_word_turn wanted opened) (word_turns wanted opened) tt t y e

type_text_less : (opened t : Text) (y : Unit {0} × Text) → type_text opened t ≡ Ok y → length y.1 < length t
unfolding type_text to_semicolon
type_text_less opened t y e =
    let b = bound {r = next opened t} e in
    let k = passed (is_sign 59 b.0.0.token) (to_semicolon opened b.0.1) Unexpected b.0.0.at y b.2 in
    omega (arith, next_less opened t b.0 b.1, all_less (to_semicolon_turn opened) (semicolon_turns opened) tt b.0.1 y k.1)

abbrev CountTurn : Type 0
CountTurn = (Bool × ℕ) × Text

parenthesis_turns : (opened : Text) → Shrinks (parenthesis_turn opened)
unfolding parenthesis_turn
parenthesis_turns opened n t x e =
    let b = bound {r = next opened t} e in
    elim (tested (is_sign 40 b.0.0.token)) [
      | inl o ↦ let f = rw o at b.2 in omega (arith, next_less opened t b.0 b.1, ap (λ (z : CountTurn). length z.1) (same f))
      | inr o ↦ let f = rw o at b.2 in
          elim (tested (is_sign 41 b.0.0.token)) [
            | inl k ↦ let g = rw k at f in omega (arith, next_less opened t b.0 b.1, ap (λ (z : CountTurn). length z.1) (same g))
            | inr k ↦ let g = rw k at f in omega (arith, next_less opened t b.0 b.1, ap (λ (z : CountTurn). length z.1) (same g))
          ]
    ]

in_parentheses_less : (opened t : Text) (y : Unit {0} × Text) → in_parentheses opened t ≡ Ok y → length y.1 < length t
unfolding in_parentheses
in_parentheses_less opened t y e =
    let b = bound e in
    omega (arith, all_less (parenthesis_turn opened) (parenthesis_turns opened) 0 t b.0 b.1, ap (λ (z : Unit {0} × Text). length z.1) (same b.2))

-- ---- attributes

abbrev Texts : Type 0
Texts = List (List ℕ)

abbrev NamesTurn : Type 0
NamesTurn = (Bool × Texts) × Text

name_turns : (opened : Text) → Shrinks (name_turn opened)
unfolding name_turn
name_turns opened own t x e =
    let b = bound {r = next opened t} e in
    elim (tested (is_sign 44 b.0.0.token)) [
      | inl o ↦
          let f = rw o at b.2 in
          let w = bound {r = word opened b.0.1} f in
          omega (arith, next_less opened t b.0 b.1, word_less opened b.0.1 w.0 w.1, ap (λ (z : NamesTurn). length z.1) (same w.2))
      | inr o ↦
          let f = rw o at b.2 in
          let k = kept (is_sign 58 b.0.0.token) (Ok ((false, own), b.0.1)) Unexpected b.0.0.at x f in
          omega (arith, next_less opened t b.0 b.1, ap (λ (z : NamesTurn). length z.1) (same k.1))
    ]

attributes_less : (opened : Text) (own : Texts) (first : List ℕ) (t : Text) (y : Texts × Text) → attributes opened own first t ≡ Ok y → length y.1 < length t
unfolding attributes
attributes_less opened own first t y e =
    let b = bound {r = all_turns Unexpected (name_turn opened) (own ++ first ∷ []) t} e in
    let c = bound {r = type_text opened b.0.1} b.2 in
    omega (arith, all_less (name_turn opened) (name_turns opened) (own ++ first ∷ []) t b.0 b.1, type_text_less opened b.0.1 c.0 c.1, ap (λ (z : Texts × Text). length z.1) (same c.2))

redeclared_less : (opened : Text) (own : Texts) (t : Text) (y : Texts × Text) → redeclared opened own t ≡ Ok y → length y.1 < length t
unfolding redeclared
redeclared_less opened own t y e =
    let a = bound {r = word opened t} e in
    let b = bound {r = sign 46 opened a.0.1} a.2 in
    let c = bound {r = word opened b.0.1} b.2 in
    let d = bound {r = sign 58 opened c.0.1} c.2 in
    let x = bound {r = type_text opened d.0.1} d.2 in
    omega (
      arith,
      word_less opened t a.0 a.1,
      sign_less 46 opened a.0.1 b.0 b.1,
      word_less opened b.0.1 c.0 c.1,
      sign_less 58 opened c.0.1 d.0 d.1,
      type_text_less opened d.0.1 x.0 x.1,
      ap (λ (z : Texts × Text). length z.1) (same x.2),
    )

self_less : (opened : Text) (own : Texts) (w : List ℕ) (t : Text) (y : Texts × Text) → self_line opened own w t ≡ Ok y → length y.1 < length t
unfolding self_line
self_less opened own w t y e =
    let b = bound {r = next opened t} e in
    elim (tested (is_sign 92 b.0.0.token)) [
      | inl h ↦ let f = rw h at b.2 in omega (arith, next_less opened t b.0 b.1, redeclared_less opened own b.0.1 y f)
      | inr h ↦ let f = rw h at b.2 in attributes_less opened own w t y f
    ]

from_less : (opened : Text) (own : Texts) (at : Text) (x : Token) (t : Text) (y : Texts × Text) → line_from opened own at x t ≡ Ok y → length y.1 < length t
from_less opened own at (Word w) t y e =
    elim (tested (says (codes "SELF") (Word w))) [
      | inl h ↦ let f = rw h at e in self_less opened own w t y f
      | inr h ↦ let f = rw h at e in attributes_less opened own w t y f
    ]
from_less opened own at Quoted t y e = absurd cc
from_less opened own at (Sign c) t y e = absurd cc

line_less : (opened : Text) (own : Texts) (x : Lexed) (t : Text) (y : Texts × Text) → attribute_line opened own x t ≡ Ok y → length y.1 < length t
unfolding attribute_line
line_less opened own x t y e = from_less opened own x.at x.token t y e

-- ---- bodies

abbrev BodyTurn : Type 0
BodyTurn = (Bool × Body) × Text

within_less : (opened : Text) (s : Body) (now : Section) (x : Lexed) (t : Text) (y : BodyTurn) → within opened s now x t ≡ Ok y → length y.1 ≤ length t
within_less opened s section.Attributes x t y e =
    let b = bound {r = attribute_line opened s.own x t} e in
    let less = line_less opened s.own x t b.0 b.1 in
    omega (arith, less, ap (λ (z : BodyTurn). length z.1) (same b.2))
within_less opened s (section.Derive l) x t y e = omega (arith, ap (λ (z : BodyTurn). length z.1) (same e))
within_less opened s section.Other x t y e = omega (arith, ap (λ (z : BodyTurn). length z.1) (same e))

step_less : (opened : Text) (s : Body) (h : Heading) (x : Lexed) (t : Text) (y : BodyTurn) → body_step opened s h x t ≡ Ok y → length y.1 ≤ length t
step_less opened s heading.End x t y e = omega (arith, ap (λ (z : BodyTurn). length z.1) (same e))
step_less opened s heading.Derive x t y e = omega (arith, ap (λ (z : BodyTurn). length z.1) (same e))
step_less opened s heading.Other x t y e = omega (arith, ap (λ (z : BodyTurn). length z.1) (same e))
step_less opened s heading.Plain x t y e = within_less opened s s.section x t y e

body_turns : (opened : Text) → Shrinks (body_turn opened)
unfolding body_turn
body_turns opened s t x e =
    let b = bound {r = next opened t} e in
    omega (arith, next_less opened t b.0 b.1, step_less opened s (heading_of b.0.0.token) b.0.0 b.0.1 x b.2)

body_less : (opened t : Text) (y : Body × Text) → body opened t ≡ Ok y → length y.1 < length t
unfolding body
body_less opened t y e = all_less (body_turn opened) (body_turns opened) no_body t y e

-- ---- entities

abbrev AbstractRead : Type 0
AbstractRead = (Bool × Lexed) × Text

abstract_less : (opened : Text) (x : Lexed) (t : Text) (y : AbstractRead) → abstract_part opened x t ≡ Ok y → length y.1 ≤ length t
unfolding abstract_part
abstract_less opened x t y e =
    elim (tested (says (codes "ABSTRACT") x.token)) [
      | inl h ↦
          let f = rw h at e in
          let b = bound {r = next opened t} f in
          let less = next_less opened t b.0 b.1 in
          omega (arith, less, ap (λ (z : AbstractRead). length z.1) (same b.2))
      | inr h ↦ let f = rw h at e in omega (arith, ap (λ (z : AbstractRead). length z.1) (same f))
    ]

of_less : (opened : Text) (x : Lexed) (t : Text) (y : Lexed × Text) → subtypes_part opened x t ≡ Ok y → length y.1 ≤ length t
unfolding subtypes_part
of_less opened x t y e =
    elim (tested (says (codes "OF") x.token)) [
      | inl h ↦
          let f = rw h at e in
          let a = bound {r = sign 40 opened t} f in
          let b = bound {r = in_parentheses opened a.0.1} a.2 in
          omega (arith, sign_less 40 opened t a.0 a.1, in_parentheses_less opened a.0.1 b.0 b.1, next_less opened b.0.1 y b.2)
      | inr h ↦ let f = rw h at e in omega (arith, ap (λ (z : Lexed × Text). length z.1) (same f))
    ]

supertype_less : (opened : Text) (x : Lexed) (t : Text) (y : Lexed × Text) → supertype_part opened x t ≡ Ok y → length y.1 ≤ length t
unfolding supertype_part
supertype_less opened x t y e =
    elim (tested (says (codes "SUPERTYPE") x.token)) [
      | inl h ↦
          let f = rw h at e in
          let b = bound {r = next opened t} f in
          omega (arith, next_less opened t b.0 b.1, of_less opened b.0.0 b.0.1 y b.2)
      | inr h ↦ let f = rw h at e in omega (arith, ap (λ (z : Lexed × Text). length z.1) (same f))
    ]

parent_end_less : (opened : Text) (m : List ℕ) (x : Lexed) (t : Text) (y : List ℕ × Text) → parent_end opened m x t ≡ Ok y → length y.1 ≤ length t
parent_end_less opened m x t y e =
    elim (tested (is_sign 41 x.token)) [
      | inl h ↦
          let f = rw h at e in
          let b = bound {r = sign 59 opened t} f in
          omega (arith, sign_less 59 opened t b.0 b.1, ap (λ (z : List ℕ × Text). length z.1) (same b.2))
      | inr h ↦ let f = rw h at e in
          elim (tested (is_sign 44 x.token)) [
            | inl k ↦ let g = rw k at f in absurd cc
            | inr k ↦ let g = rw k at f in absurd cc
          ]
    ]

parent_less : (opened t : Text) (y : List ℕ × Text) → parent opened t ≡ Ok y → length y.1 ≤ length t
unfolding parent
parent_less opened t y e =
    let a = bound {r = keyword (codes "OF") opened t} e in
    let b = bound {r = sign 40 opened a.0.1} a.2 in
    let m = bound {r = word opened b.0.1} b.2 in
    let n = bound {r = next opened m.0.1} m.2 in
    omega (arith, keyword_less (codes "OF") opened t a.0 a.1, sign_less 40 opened a.0.1 b.0 b.1, word_less opened b.0.1 m.0 m.1, next_less opened m.0.1 n.0 n.1, parent_end_less opened m.0.0 n.0.0 n.0.1 y n.2)

parent_part_less : (opened : Text) (x : Lexed) (t : Text) (y : Option (List ℕ) × Text) → parent_part opened x t ≡ Ok y → length y.1 ≤ length t
unfolding parent_part
parent_part_less opened x t y e =
    elim (tested (says (codes "SUBTYPE") x.token)) [
      | inl h ↦
          let f = rw h at e in
          let b = bound {r = parent opened t} f in
          omega (arith, parent_less opened t b.0 b.1, ap (λ (z : Option (List ℕ) × Text). length z.1) (same b.2))
      | inr h ↦
          let f = rw h at e in
          let k = kept (is_sign 59 x.token) (Ok (None, t)) Unexpected x.at y f in
          omega (arith, ap (λ (z : Option (List ℕ) × Text). length z.1) (same k.1))
    ]

entity_less : (opened t : Text) (y : EntityDecl × Text) → entity opened t ≡ Ok y → length y.1 < length t
unfolding entity
entity_less opened t y e =
    let n = bound {r = word opened t} e in
    let f = bound {r = next opened n.0.1} n.2 in
    let a = bound {r = abstract_part opened f.0.0 f.0.1} f.2 in
    let s = bound {r = supertype_part opened a.0.0.1 a.0.1} a.2 in
    let p = bound {r = parent_part opened s.0.0 s.0.1} s.2 in
    let b = bound {r = body opened p.0.1} p.2 in
    let z = bound {r = sign 59 opened b.0.1} b.2 in
    omega (
      arith,
      word_less opened t n.0 n.1,
      next_less opened n.0.1 f.0 f.1,
      abstract_less opened f.0.0 f.0.1 a.0 a.1,
      supertype_less opened a.0.0.1 a.0.1 s.0 s.1,
      parent_part_less opened s.0.0 s.0.1 p.0 p.1,
      body_less opened p.0.1 b.0 b.1,
      sign_less 59 opened b.0.1 z.0 z.1,
      ap (λ (q : EntityDecl × Text). length q.1) (same z.2),
    )

-- ---- declarations

type_end_less : (opened : Text) (x : Lexed) (t : Text) (y : Unit {0} × Text) → type_end opened x t ≡ Ok y → length y.1 ≤ length t
unfolding type_end
type_end_less opened x t y e =
    elim (tested (says (codes "END_TYPE") x.token)) [
      | inl h ↦ let f = rw h at e in omega (arith, ap (λ (z : Unit {0} × Text). length z.1) (same f))
      | inr h ↦
          let f = rw h at e in
          let k = kept (says (codes "WHERE") x.token) (to_word (codes "END_TYPE") opened t) Unexpected x.at y f in
          omega (arith, to_word_less (codes "END_TYPE") opened t y k.1)
    ]

type_less : (opened t : Text) (y : TypeDecl × Text) → type_decl opened t ≡ Ok y → length y.1 < length t
unfolding type_decl
type_less opened t y e =
    let n = bound {r = word opened t} e in
    let q = bound {r = sign 61 opened n.0.1} n.2 in
    let x = bound {r = type_text opened q.0.1} q.2 in
    let f = bound {r = next opened x.0.1} x.2 in
    let d = bound {r = type_end opened f.0.0 f.0.1} f.2 in
    let z = bound {r = sign 59 opened d.0.1} d.2 in
    omega (
      arith,
      word_less opened t n.0 n.1,
      sign_less 61 opened n.0.1 q.0 q.1,
      type_text_less opened q.0.1 x.0 x.1,
      next_less opened x.0.1 f.0 f.1,
      type_end_less opened f.0.0 f.0.1 d.0 d.1,
      sign_less 59 opened d.0.1 z.0 z.1,
      ap (λ (p : TypeDecl × Text). length p.1) (same z.2),
    )

block_less : (o : Option (List ℕ)) (at t : Text) (y : Unit {0} × Text) → block_or_none o at t ≡ Ok y → length y.1 < length t
unfolding block
block_less None at t y e = absurd cc
block_less (Some end) at t y e =
    let w = bound {r = to_word end at t} e in
    omega (arith, to_word_less end at t w.0 w.1, sign_less 59 at w.0.1 y w.2)

abbrev DeclTurn : Type 0
DeclTurn = (Bool × Decls) × Text

declaration_turns : (opened : Text) → Shrinks (declaration_turn opened)
unfolding declaration
declaration_turns opened s t y e =
    let b = bound {r = next opened t} e in
    elim (tested (says (codes "ENTITY") b.0.0.token)) [
      | inl h ↦
          let f = rw h at b.2 in
          let c = bound {r = entity b.0.0.at b.0.1} f in
          omega (arith, next_less opened t b.0 b.1, entity_less b.0.0.at b.0.1 c.0 c.1, ap (λ (z : DeclTurn). length z.1) (same c.2))
      | inr h ↦ let e1 = rw h at b.2 in
          elim (tested (says (codes "TYPE") b.0.0.token)) [
            | inl k ↦
                let f = rw k at e1 in
                let c = bound {r = type_decl b.0.0.at b.0.1} f in
                omega (arith, next_less opened t b.0 b.1, type_less b.0.0.at b.0.1 c.0 c.1, ap (λ (z : DeclTurn). length z.1) (same c.2))
            | inr k ↦ let e2 = rw k at e1 in
                elim (tested (says (codes "END_SCHEMA") b.0.0.token)) [
                  | inl m ↦ let f = rw m at e2 in omega (arith, next_less opened t b.0 b.1, ap (λ (z : DeclTurn). length z.1) (same f))
                  | inr m ↦
                      let f = rw m at e2 in
                      let c = bound {r = block_or_none (block_end b.0.0.token) b.0.0.at b.0.1} f in
                      omega (arith, next_less opened t b.0 b.1, block_less (block_end b.0.0.token) b.0.0.at b.0.1 c.0 c.1, ap (λ (z : DeclTurn). length z.1) (same c.2))
                ]
          ]
    ]

-- ---- for the law

pub words_shorten : (wanted : List ℕ) (opened : Text) (s : Unit {0}) (t : Text) (r : Unit {0}) (u : Text) → to_word_turn wanted opened s t ≡ Ok ((true, r), u) → length u < length t
words_shorten wanted opened = goes_on (to_word_turn wanted opened) (word_turns wanted opened)

pub semicolons_shorten : (opened : Text) (s : Unit {0}) (t : Text) (r : Unit {0}) (u : Text) → to_semicolon_turn opened s t ≡ Ok ((true, r), u) → length u < length t
semicolons_shorten opened = goes_on (to_semicolon_turn opened) (semicolon_turns opened)

pub parentheses_shorten : (opened : Text) (s : ℕ) (t : Text) (r : ℕ) (u : Text) → parenthesis_turn opened s t ≡ Ok ((true, r), u) → length u < length t
parentheses_shorten opened = goes_on (parenthesis_turn opened) (parenthesis_turns opened)

pub names_shorten : (opened : Text) (s : Texts) (t : Text) (r : Texts) (u : Text) → name_turn opened s t ≡ Ok ((true, r), u) → length u < length t
names_shorten opened = goes_on (name_turn opened) (name_turns opened)

pub bodies_shorten : (opened : Text) (s : Body) (t : Text) (r : Body) (u : Text) → body_turn opened s t ≡ Ok ((true, r), u) → length u < length t
bodies_shorten opened = goes_on (body_turn opened) (body_turns opened)

pub declarations_shorten : (opened : Text) (s : Decls) (t : Text) (r : Decls) (u : Text) → declaration_turn opened s t ≡ Ok ((true, r), u) → length u < length t
declarations_shorten opened = goes_on (declaration_turn opened) (declaration_turns opened)
