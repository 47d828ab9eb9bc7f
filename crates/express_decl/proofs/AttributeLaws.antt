-- Lines of attributes: what is read is of the grammar, and what is of the grammar is read.
use Rattle.std.proofs.Common.{◌≡◌, ℕ, ◌<◌, true, false, List, [], ◌∷◌, ◌++◌, length, Ok, refl, sym, ap, ◌∙◌, subst, inl, inr, arith, append_assoc}
use Rattle.std.specs.Prelude.{codes}
use Rattle.std.proofs.lemmas.List.{append-nil}
use Rattle.reading.specs.Reading.{Text, turns, all_turns}
use Rattle.reading.proofs.Tools.{bound, kept, tested, each_sound, Run, all_run}
use Rattle.express_decl.specs.declared.decl.DeclCause.TheVariants.{Unexpected}
use Rattle.express_decl.specs.Tokens.{Token, Word, Quoted, Sign, Lexed, says, is_sign}
use Rattle.express_decl.specs.Steps.{next, word, sign, type_text}
use Rattle.express_decl.specs.Entities.{name_turn, attributes, redeclared, self_line, line_from, attribute_line}
use Rattle.express_decl.specs.Lexical.{Tokens}
use Rattle.express_decl.specs.Grammar.{TypeText, Names}
use Rattle.express_decl.proofs.DeclTools.{lexed, same, left_of, state_of, never_last, never_more}
use Rattle.express_decl.proofs.StepLaws.{sign_is, next_sound, step}
use Rattle.express_decl.proofs.PassLaws.{word_sound, word_comes, sign_sound, sign_comes, type_text_sound, type_text_comes}
use Rattle.express_decl.proofs.PartLaws.{Leaves}

abbrev pub Texts : Type 0
Texts = List (List ℕ)

-- ---- what is read is of the grammar

module _ (opened : Text) where
  -- the names that are added behind the name n
  abbrev Adds : Texts → Text → Texts → Text → Type 0
  Adds own t r u = (n : List ℕ) (ys : List Token) → Tokens u ys → (xs : List Token) × (ns : Texts) × Tokens t xs × Names (Word n ∷ xs) (n ∷ ns) ys × (r ≡ own ++ ns)

  names_last : (own : Texts) (t : Text) (r : Texts) (u : Text) → name_turn opened own t ≡ Ok ((false, r), u) → Adds own t r u
  unfolding name_turn
  names_last own t r u e n ys rest =
      let b = bound {r = next opened t} e in
      elim (tested (is_sign 44 b.0.0.token)) [
        | inl h ↦ let f = rw h at b.2 in let w = bound {r = word opened b.0.1} f in absurd (never_last w.2)
        | inr h ↦
            let f = rw h at b.2 in
            let k = kept (is_sign 58 b.0.0.token) (Ok ((false, own), b.0.1)) Unexpected b.0.0.at ((false, r), u) f in
            let all : Tokens t (b.0.0.token ∷ ys) = next_sound opened t b.0 b.1 (subst (λ (v : Text). Tokens v ys) (sym (left_of k.1)) rest) in
            (Sign 58 ∷ ys, [], subst (λ (x : Token). Tokens t (x ∷ ys)) (sign_is 58 b.0.0.token k.0) all, Names.one, sym (state_of k.1) ∙ sym (append-nil own))
      ]

  names_more : (own : Texts) (t : Text) (r : Texts) (u : Text) (q : Texts) (w : Text) → name_turn opened own t ≡ Ok ((true, r), u) → Adds r u q w → Adds own t q w
  unfolding name_turn
  names_more own t r u q w e more n ys rest =
      let b = bound {r = next opened t} e in
      elim (tested (is_sign 44 b.0.0.token)) [
        | inl h ↦
            let f = rw h at b.2 in
            let m = bound {r = word opened b.0.1} f in
            let c = more m.0.0 ys rest in
            let name : Tokens b.0.1 (Word m.0.0 ∷ c.0) = word_sound opened b.0.1 m.0.0 m.0.1 m.1 (subst (λ (v : Text). Tokens v c.0) (sym (left_of m.2)) c.2) in
            let all : Tokens t (Sign 44 ∷ Word m.0.0 ∷ c.0) = subst (λ (x : Token). Tokens t (x ∷ Word m.0.0 ∷ c.0)) (sign_is 44 b.0.0.token h) (next_sound opened t b.0 b.1 name) in
            let value : q ≡ own ++ m.0.0 ∷ c.1 = c.4 ∙ (ap (λ (s : Texts). s ++ c.1) (sym (state_of m.2)) ∙ append_assoc own (m.0.0 ∷ []) c.1) in
            (Sign 44 ∷ Word m.0.0 ∷ c.0, m.0.0 ∷ c.1, all, Names.more c.3, value)
        | inr h ↦
            let f = rw h at b.2 in
            let k = kept (is_sign 58 b.0.0.token) (Ok ((false, own), b.0.1)) Unexpected b.0.0.at ((true, r), u) f in absurd (never_more k.1)
      ]

attributes_sound : (opened : Text) (own : Texts) (first : List ℕ) (t : Text) (y : Texts × Text) {zs : List Token} → attributes opened own first t ≡ Ok y → Tokens y.1 zs
    → (xs : List Token) × (ns : Texts) × (ys : List Token) × Tokens t xs × Names (Word first ∷ xs) ns ys × TypeText ys zs × (y.0 ≡ own ++ ns)
unfolding attributes
attributes_sound opened own first t y {zs = zs} e rest =
    let b = bound {r = all_turns Unexpected (name_turn opened) (own ++ first ∷ []) t} e in
    let c = bound {r = type_text opened b.0.1} b.2 in
    let one : (b.0.0, c.0.1) ≡ y = same c.2 in
    let type = type_text_sound opened b.0.1 c.0 c.1 (subst (λ (v : Text). Tokens v zs) (sym (ap (λ (z : Texts × Text). z.1) one)) rest) in
    let n = each_sound Unexpected (name_turn opened) (Adds opened) (names_last opened) (names_more opened) (turns t) (own ++ first ∷ []) t b.0.0 b.0.1 b.1 first type.0 type.1 in
    let value : y.0 ≡ own ++ first ∷ n.1 = sym (ap (λ (z : Texts × Text). z.0) one) ∙ (n.4 ∙ append_assoc own (first ∷ []) n.1) in
    (n.0, first ∷ n.1, type.0, n.2, n.3, type.2, value)

-- a line
pub data LineOf : List Token → Texts → List Token → Type 0 where
  listed : {x : Token} {xs ys zs : List Token} {ns : Texts} → Names (x ∷ xs) ns ys → TypeText ys zs → LineOf (x ∷ xs) ns zs
  again : {x : Token} {e a : List ℕ} {xs ys : List Token} → says (codes "SELF") x ≡ true → TypeText xs ys
      → LineOf (x ∷ Sign 92 ∷ Word e ∷ Sign 46 ∷ Word a ∷ Sign 58 ∷ xs) [] ys

-- what is read of a line behind its first token x
abbrev LineRead : Texts → Text → Token → Texts → List Token → Type 0
LineRead own t x r zs = (xs : List Token) × (ns : Texts) × Tokens t xs × LineOf (x ∷ xs) ns zs × (r ≡ own ++ ns)

names_line : (opened : Text) (own : Texts) (w : List ℕ) (t : Text) (y : Texts × Text) {zs : List Token} → attributes opened own w t ≡ Ok y → Tokens y.1 zs → LineRead own t (Word w) y.0 zs
names_line opened own w t y e rest = let a = attributes_sound opened own w t y e rest in (a.0, a.1, a.3, LineOf.listed a.4 a.5, a.6)

redeclared_sound : (opened : Text) (own : Texts) (t : Text) (y : Texts × Text) {zs : List Token} → redeclared opened own t ≡ Ok y → Tokens y.1 zs
    → (e : List ℕ) × (a : List ℕ) × (xs : List Token) × Tokens t (Word e ∷ Sign 46 ∷ Word a ∷ Sign 58 ∷ xs) × TypeText xs zs × (y.0 ≡ own)
unfolding redeclared
redeclared_sound opened own t y {zs = zs} e rest =
    let a = bound {r = word opened t} e in
    let b = bound {r = sign 46 opened a.0.1} a.2 in
    let c = bound {r = word opened b.0.1} b.2 in
    let d = bound {r = sign 58 opened c.0.1} c.2 in
    let x = bound {r = type_text opened d.0.1} d.2 in
    let one : (own, x.0.1) ≡ y = same x.2 in
    let type = type_text_sound opened d.0.1 x.0 x.1 (subst (λ (v : Text). Tokens v zs) (sym (ap (λ (z : Texts × Text). z.1) one)) rest) in
    let colon = sign_sound 58 opened c.0.1 d.0 d.1 type.1 in
    let name = word_sound opened b.0.1 c.0.0 c.0.1 c.1 colon in
    let dot = sign_sound 46 opened a.0.1 b.0 b.1 name in
    (a.0.0, c.0.0, type.0, word_sound opened t a.0.0 a.0.1 a.1 dot, type.2, sym (ap (λ (z : Texts × Text). z.0) one))

self_sound : (opened : Text) (own : Texts) (w : List ℕ) (t : Text) (y : Texts × Text) {zs : List Token} → says (codes "SELF") (Word w) ≡ true → self_line opened own w t ≡ Ok y → Tokens y.1 zs
    → LineRead own t (Word w) y.0 zs
unfolding self_line
self_sound opened own w t y {zs = zs} is e rest =
    let b = bound {r = next opened t} e in
    elim (tested (is_sign 92 b.0.0.token)) [
      | inl h ↦
          let f = rw h at b.2 in
          let r = redeclared_sound opened own b.0.1 y f rest in
          let us : List Token = Word r.0 ∷ Sign 46 ∷ Word r.1 ∷ Sign 58 ∷ r.2 in
          let all : Tokens t (Sign 92 ∷ us) = subst (λ (x : Token). Tokens t (x ∷ us)) (sign_is 92 b.0.0.token h) (next_sound opened t b.0 b.1 r.3) in
          (Sign 92 ∷ us, [], all, LineOf.again is r.4, r.5 ∙ sym (append-nil own))
      | inr h ↦ let f = rw h at b.2 in names_line opened own w t y f rest
    ]

from_sound : (opened : Text) (own : Texts) (at : Text) (x : Token) (t : Text) (y : Texts × Text) {zs : List Token} → line_from opened own at x t ≡ Ok y → Tokens y.1 zs → LineRead own t x y.0 zs
from_sound opened own at (Word w) t y e rest =
    elim (tested (says (codes "SELF") (Word w))) [
      | inl h ↦ let f = rw h at e in self_sound opened own w t y h f rest
      | inr h ↦ let f = rw h at e in names_line opened own w t y f rest
    ]
from_sound opened own at Quoted t y e rest = absurd cc
from_sound opened own at (Sign c) t y e rest = absurd cc

pub line_sound : (opened : Text) (own : Texts) (x : Lexed) (t : Text) (y : Texts × Text) {zs : List Token} → attribute_line opened own x t ≡ Ok y → Tokens y.1 zs
    → (xs : List Token) × (ns : Texts) × Tokens t xs × LineOf (x.token ∷ xs) ns zs × (y.0 ≡ own ++ ns)
unfolding attribute_line
line_sound opened own x t y e rest = from_sound opened own x.at x.token t y e rest

-- ---- what is of the grammar is read

module _ (opened : Text) where
  no_comma : (is_sign 44 (Sign 58) ≡ false) × (is_sign 58 (Sign 58) ≡ true) × (is_sign 44 (Sign 44) ≡ true)
  unfolding is_sign
  no_comma = (refl, refl, refl)

  colon_turn : {t : Text} {ys : List Token} (own : Texts) (all : Tokens t (Sign 58 ∷ ys)) → name_turn opened own t ≡ Ok ((false, own), (step opened all).left)
  unfolding name_turn
  colon_turn own all = let s = step opened all in rw (s.read, no_comma.0, no_comma.1) refl

  comma_turn : {t : Text} {ys : List Token} {m : List ℕ} {v : Text} (own : Texts) (all : Tokens t (Sign 44 ∷ ys)) → word opened (step opened all).left ≡ Ok (m, v) → name_turn opened own t ≡ Ok ((true, own ++ m ∷ []), v)
  unfolding name_turn
  comma_turn own all w = let s = step opened all in rw (s.read, no_comma.2, w) refl

  -- the first name, and the turns behind it
  abbrev NamesRead : Text → Texts → Texts → List Token → Type 0
  NamesRead t own ns zs =
      (n : List ℕ) × (mid : Text) × (left : Text) × (word opened t ≡ Ok (n, mid)) × Run (name_turn opened) (own ++ n ∷ []) mid (own ++ ns) left × Tokens left zs × (length mid < length t) × (length left < length mid)

  names_read : {t : Text} {xs zs : List Token} {ns : Texts} (own : Texts) → Names xs ns zs → Tokens t xs → NamesRead t own ns zs
  names_read own (Names.one {n = n}) all =
      let w = word_comes opened all in
      let s = step opened w.others in
      (n, w.left, s.left, w.gives, Run.last (own ++ n ∷ []) w.left (own ++ n ∷ []) s.left (colon_turn (own ++ n ∷ []) w.others), s.others, w.less, s.less)
  names_read own (Names.more {n = n} {ns = ns} rest) all =
      let w = word_comes opened all in
      let s = step opened w.others in
      let r = names_read {t = s.left} (own ++ n ∷ []) rest s.others in
      let turn = comma_turn (own ++ n ∷ []) w.others r.3 in
      let less : length r.1 < length w.left = omega (arith, s.less, r.6) in
      let run = Run.more (own ++ n ∷ []) w.left ((own ++ n ∷ []) ++ r.0 ∷ []) r.1 ((own ++ n ∷ []) ++ ns) r.2 turn less r.4 in
      (n, w.left, r.2, w.gives, subst (λ (q : Texts). Run (name_turn opened) (own ++ n ∷ []) w.left q r.2) (append_assoc own (n ∷ []) ns) run, r.5, w.less, omega (arith, s.less, r.6, r.7))

  -- the same behind the first name
  abbrev NamesBehind : Text → Token → Texts → Texts → List Token → Type 0
  NamesBehind t x own ns zs =
      (n : List ℕ) × (left : Text) × (x ≡ Word n) × Run (name_turn opened) (own ++ n ∷ []) t (own ++ ns) left × Tokens left zs × (length left < length t)

  names_behind : {t : Text} {x : Token} {xs zs : List Token} {ns : Texts} (own : Texts) → Names (x ∷ xs) ns zs → Tokens t xs → NamesBehind t x own ns zs
  names_behind {t = t} own (Names.one {n = n}) all =
      let s = step opened all in
      (n, s.left, refl, Run.last (own ++ n ∷ []) t (own ++ n ∷ []) s.left (colon_turn (own ++ n ∷ []) all), s.others, s.less)
  names_behind {t = t} own (Names.more {n = n} {ns = ns} rest) all =
      let s = step opened all in
      let r = names_read {t = s.left} (own ++ n ∷ []) rest s.others in
      let turn = comma_turn (own ++ n ∷ []) all r.3 in
      let less : length r.1 < length t = omega (arith, s.less, r.6) in
      let run = Run.more (own ++ n ∷ []) t ((own ++ n ∷ []) ++ r.0 ∷ []) r.1 ((own ++ n ∷ []) ++ ns) r.2 turn less r.4 in
      (n, r.2, refl, subst (λ (q : Texts). Run (name_turn opened) (own ++ n ∷ []) t q r.2) (append_assoc own (n ∷ []) ns) run, r.5, omega (arith, s.less, r.6, r.7))

  attributes_leave : {t : Text} {x : Token} {xs ys zs : List Token} {ns : Texts} (own : Texts) → Names (x ∷ xs) ns ys → TypeText ys zs → Tokens t xs
      → (n : List ℕ) × (x ≡ Word n) × Leaves t (attributes opened own n t) (own ++ ns) zs
  unfolding attributes
  attributes_leave own names type all =
      let n = names_behind own names all in
      let y = type_text_comes opened type n.4 in
      (n.0, n.2, record { left = y.left; gives = rw (all_run Unexpected (name_turn opened) n.3, y.gives) refl; others = y.others; less = omega (arith, n.5, y.less) })

  no_backslash : (is_sign 92 (Sign 58) ≡ false) × (is_sign 92 (Sign 44) ≡ false)
  unfolding is_sign
  no_backslash = (refl, refl)

  self_is_name : {t : Text} {x : Token} {xs zs : List Token} {ns : Texts} (own : Texts) (w : List ℕ) → Names (x ∷ xs) ns zs → Tokens t xs → self_line opened own w t ≡ attributes opened own w t
  unfolding self_line
  self_is_name own w Names.one all = let s = step opened all in rw (s.read, no_backslash.0) refl
  self_is_name own w (Names.more rest) all = let s = step opened all in rw (s.read, no_backslash.1) refl

  from_word : {t : Text} {x : Token} {xs zs : List Token} {ns : Texts} (own : Texts) (at : Text) (w : List ℕ) → Names (x ∷ xs) ns zs → Tokens t xs → line_from opened own at (Word w) t ≡ attributes opened own w t
  from_word own at w names all =
      elim (tested (says (codes "SELF") (Word w))) [
        | inl h ↦ rw h (self_is_name own w names all)
        | inr h ↦ rw h refl
      ]

  pub names_line_leaves : {t : Text} {x : Token} {xs ys zs : List Token} {ns : Texts} (own : Texts) (at : Text) → Names (x ∷ xs) ns ys → TypeText ys zs → Tokens t xs
      → Leaves t (attribute_line opened own (lexed x at) t) (own ++ ns) zs
  unfolding attribute_line
  names_line_leaves {t = t} {x = x} own at names type all =
      let a = attributes_leave own names type all in
      let line : line_from opened own at x t ≡ attributes opened own a.0 t = ap (λ (z : Token). line_from opened own at z t) a.1 ∙ from_word own at a.0 names all in
      record { left = a.2.left; gives = line ∙ a.2.gives; others = a.2.others; less = a.2.less }

  said_word : (a : List ℕ) (x : Token) → says a x ≡ true → (w : List ℕ) × (x ≡ Word w)
  unfolding says
  said_word a (Word w) is = (w, refl)
  said_word a Quoted is = absurd cc
  said_word a (Sign c) is = absurd cc

  backslash : is_sign 92 (Sign 92) ≡ true
  unfolding is_sign
  backslash = refl

  redeclared_comes : {t : Text} {e a : List ℕ} {xs ys : List Token} (own : Texts) → TypeText xs ys → Tokens t (Word e ∷ Sign 46 ∷ Word a ∷ Sign 58 ∷ xs) → Leaves t (redeclared opened own t) own ys
  unfolding redeclared
  redeclared_comes own type all =
      let a = word_comes opened all in
      let b = sign_comes 46 opened a.others in
      let c = word_comes opened b.others in
      let d = sign_comes 58 opened c.others in
      let y = type_text_comes opened type d.others in
      record { left = y.left; gives = rw (a.gives, b.gives, c.gives, d.gives, y.gives) refl; others = y.others; less = omega (arith, a.less, b.less, c.less, d.less, y.less) }

  self_redeclares : {t : Text} {e a : List ℕ} {xs ys : List Token} (own : Texts) (w : List ℕ) → TypeText xs ys → Tokens t (Sign 92 ∷ Word e ∷ Sign 46 ∷ Word a ∷ Sign 58 ∷ xs)
      → Leaves t (self_line opened own w t) own ys
  unfolding self_line
  self_redeclares own w type all =
      let s = step opened all in
      let r = redeclared_comes own type s.others in
      record { left = r.left; gives = rw (s.read, backslash) r.gives; others = r.others; less = omega (arith, s.less, r.less) }

  from_self : (own : Texts) (at : Text) (w : List ℕ) (t : Text) → says (codes "SELF") (Word w) ≡ true → line_from opened own at (Word w) t ≡ self_line opened own w t
  from_self own at w t is = rw is refl

  pub redeclared_line_leaves : {t : Text} {e a : List ℕ} {xs ys : List Token} (own : Texts) (x : Token) (at : Text) → says (codes "SELF") x ≡ true → TypeText xs ys
      → Tokens t (Sign 92 ∷ Word e ∷ Sign 46 ∷ Word a ∷ Sign 58 ∷ xs) → Leaves t (attribute_line opened own (lexed x at) t) own ys
  unfolding attribute_line
  redeclared_line_leaves {t = t} own x at is type all =
      let w = said_word (codes "SELF") x is in
      let said : says (codes "SELF") (Word w.0) ≡ true = subst (λ (z : Token). says (codes "SELF") z ≡ true) w.1 is in
      let r = self_redeclares own w.0 type all in
      let line : line_from opened own at x t ≡ self_line opened own w.0 t = ap (λ (z : Token). line_from opened own at z t) w.1 ∙ from_self own at w.0 t said in
      record { left = r.left; gives = line ∙ r.gives; others = r.others; less = r.less }
