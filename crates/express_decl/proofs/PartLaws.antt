-- What stands between an entity's name and its attributes: what is read is of the grammar, and what is of the grammar is read.
use Rattle.std.proofs.Common.{◌≡◌, ℕ, ◌≤◌, Bool, true, false, List, ◌∷◌, length, Option, Some, None, Ok, refl, sym, ap, ◌∙◌, subst, inl, inr, arith}
use Rattle.std.specs.Prelude.{codes}
use Rattle.reading.specs.Reading.{Text, Read}
use Rattle.reading.proofs.Tools.{bound, kept, tested}
use Rattle.express_decl.specs.declared.decl.DeclCause.{DeclCause}
use Rattle.express_decl.specs.declared.decl.DeclCause.TheVariants.{Unexpected}
use Rattle.express_decl.specs.Tokens.{Token, Word, Sign, Lexed, says, is_sign}
use Rattle.express_decl.specs.Steps.{next, word, keyword, sign, in_parentheses}
use Rattle.express_decl.specs.Entities.{upper, abstract_part, subtypes_part, supertype_part, parent_end, parent, parent_part}
use Rattle.express_decl.specs.Lexical.{Tokens}
use Rattle.express_decl.specs.Grammar.{InParentheses, in_upper_case, Abstract, Supertype, Subtype}
use Rattle.express_decl.proofs.DeclTools.{lexed, same}
use Rattle.express_decl.proofs.StepLaws.{sign_is, sign_says, said_other, next_sound, step}
use Rattle.express_decl.proofs.PassLaws.{Comes, word_sound, word_comes, keyword_sound, keyword_comes, sign_sound, sign_comes, in_parentheses_sound, in_parentheses_comes}

-- ---- ABSTRACT

pub abstract_sound : (opened : Text) (x : Lexed) (t : Text) (y : (Bool × Lexed) × Text) {ys : List Token} → abstract_part opened x t ≡ Ok y → Tokens y.1 ys
    → (xs : List Token) × Tokens t xs × Abstract (x.token ∷ xs) y.0.0 (y.0.1.token ∷ ys)
unfolding abstract_part
abstract_sound opened x t y {ys = ys} e rest =
    elim (tested (says (codes "ABSTRACT") x.token)) [
      | inl h ↦
          let f = rw h at e in
          let b = bound {r = next opened t} f in
          let one : ((true, b.0.0), b.0.1) ≡ y = same b.2 in
          let all : Tokens t (b.0.0.token ∷ ys) = next_sound opened t b.0 b.1 (subst (λ (v : Text). Tokens v ys) (sym (ap (λ (z : (Bool × Lexed) × Text). z.1) one)) rest) in
          subst (λ (z : (Bool × Lexed) × Text). (xs : List Token) × Tokens t xs × Abstract (x.token ∷ xs) z.0.0 (z.0.1.token ∷ ys)) one (b.0.0.token ∷ ys, all, Abstract.is h)
      | inr h ↦
          let f = rw h at e in
          let one : ((false, x), t) ≡ y = same f in
          let all : Tokens t ys = subst (λ (v : Text). Tokens v ys) (sym (ap (λ (z : (Bool × Lexed) × Text). z.1) one)) rest in
          subst (λ (z : (Bool × Lexed) × Text). (xs : List Token) × Tokens t xs × Abstract (x.token ∷ xs) z.0.0 (z.0.1.token ∷ ys)) one (ys, all, Abstract.isnt)
    ]

-- ---- SUPERTYPE

-- `[OF (text)]`
pub data OfText : List Token → List Token → Type 0 where
  none : {u : List Token} → OfText u u
  text : {y : Token} {xs u : List Token} → says (codes "OF") y ≡ true → InParentheses xs u → OfText (y ∷ Sign 40 ∷ xs) u

with_text : {x : Token} {xs u : List Token} → says (codes "SUPERTYPE") x ≡ true → OfText xs u → Supertype (x ∷ xs) u
with_text is OfText.none = Supertype.plain is
with_text is (OfText.text of_ inside) = Supertype.of_ is of_ inside

of_text_sound : (opened : Text) (x : Lexed) (t : Text) (y : Lexed × Text) {ys : List Token} → subtypes_part opened x t ≡ Ok y → Tokens y.1 ys
    → (xs : List Token) × Tokens t xs × OfText (x.token ∷ xs) (y.0.token ∷ ys)
unfolding subtypes_part
of_text_sound opened x t y {ys = ys} e rest =
    elim (tested (says (codes "OF") x.token)) [
      | inl h ↦
          let f = rw h at e in
          let a = bound {r = sign 40 opened t} f in
          let b = bound {r = in_parentheses opened a.0.1} a.2 in
          let behind : Tokens b.0.1 (y.0.token ∷ ys) = next_sound opened b.0.1 y b.2 rest in
          let inside = in_parentheses_sound opened a.0.1 b.0 b.1 behind in
          (Sign 40 ∷ inside.0, sign_sound 40 opened t a.0 a.1 inside.1, OfText.text h inside.2)
      | inr h ↦
          let f = rw h at e in
          let one : (x, t) ≡ y = same f in
          let all : Tokens t ys = subst (λ (v : Text). Tokens v ys) (sym (ap (λ (z : Lexed × Text). z.1) one)) rest in
          subst (λ (z : Lexed × Text). (xs : List Token) × Tokens t xs × OfText (x.token ∷ xs) (z.0.token ∷ ys)) one (ys, all, OfText.none)
    ]

pub supertype_sound : (opened : Text) (x : Lexed) (t : Text) (y : Lexed × Text) {ys : List Token} → supertype_part opened x t ≡ Ok y → Tokens y.1 ys
    → (xs : List Token) × Tokens t xs × Supertype (x.token ∷ xs) (y.0.token ∷ ys)
unfolding supertype_part
supertype_sound opened x t y {ys = ys} e rest =
    elim (tested (says (codes "SUPERTYPE") x.token)) [
      | inl h ↦
          let f = rw h at e in
          let b = bound {r = next opened t} f in
          let o = of_text_sound opened b.0.0 b.0.1 y b.2 rest in
          (b.0.0.token ∷ o.0, next_sound opened t b.0 b.1 o.1, with_text h o.2)
      | inr h ↦
          let f = rw h at e in
          let one : (x, t) ≡ y = same f in
          let all : Tokens t ys = subst (λ (v : Text). Tokens v ys) (sym (ap (λ (z : Lexed × Text). z.1) one)) rest in
          subst (λ (z : Lexed × Text). (xs : List Token) × Tokens t xs × Supertype (x.token ∷ xs) (z.0.token ∷ ys)) one (ys, all, Supertype.none)
    ]

-- ---- SUBTYPE

parent_end_is : (opened : Text) (m : List ℕ) (x : Lexed) (t : Text) (y : List ℕ × Text) {ys : List Token} → parent_end opened m x t ≡ Ok y → Tokens y.1 ys
    → (x.token ≡ Sign 41) × Tokens t (Sign 59 ∷ ys) × (y.0 ≡ in_upper_case m)
parent_end_is opened m x t y {ys = ys} e rest =
    elim (tested (is_sign 41 x.token)) [
      | inl h ↦
          let f = rw h at e in
          let b = bound {r = sign 59 opened t} f in
          let one : (upper m, b.0.1) ≡ y = same b.2 in
          let all : Tokens t (Sign 59 ∷ ys) = sign_sound 59 opened t b.0 b.1 (subst (λ (v : Text). Tokens v ys) (sym (ap (λ (z : List ℕ × Text). z.1) one)) rest) in
          (sign_is 41 x.token h, all, sym (ap (λ (z : List ℕ × Text). z.0) one))
      | inr h ↦ let f = rw h at e in
          elim (tested (is_sign 44 x.token)) [
            | inl k ↦ let g = rw k at f in absurd cc
            | inr k ↦ let g = rw k at f in absurd cc
          ]
    ]

parent_sound : (opened t : Text) (y : List ℕ × Text) {ys : List Token} → parent opened t ≡ Ok y → Tokens y.1 ys
    → (o : Token) × (m : List ℕ) × (says (codes "OF") o ≡ true) × Tokens t (o ∷ Sign 40 ∷ Word m ∷ Sign 41 ∷ Sign 59 ∷ ys) × (y.0 ≡ in_upper_case m)
unfolding parent
parent_sound opened t y {ys = ys} e rest =
    let a = bound {r = keyword (codes "OF") opened t} e in
    let b = bound {r = sign 40 opened a.0.1} a.2 in
    let m = bound {r = word opened b.0.1} b.2 in
    let n = bound {r = next opened m.0.1} m.2 in
    let p = parent_end_is opened m.0.0 n.0.0 n.0.1 y n.2 rest in
    let close : Tokens m.0.1 (Sign 41 ∷ Sign 59 ∷ ys) = subst (λ (x : Token). Tokens m.0.1 (x ∷ Sign 59 ∷ ys)) p.0 (next_sound opened m.0.1 n.0 n.1 p.1) in
    let name : Tokens b.0.1 (Word m.0.0 ∷ Sign 41 ∷ Sign 59 ∷ ys) = word_sound opened b.0.1 m.0.0 m.0.1 m.1 close in
    let k = keyword_sound (codes "OF") opened t a.0 a.1 (sign_sound 40 opened a.0.1 b.0 b.1 name) in
    (k.0, m.0.0, k.1, k.2, p.2)

pub parent_part_sound : (opened : Text) (x : Lexed) (t : Text) (y : Option (List ℕ) × Text) {ys : List Token} → parent_part opened x t ≡ Ok y → Tokens y.1 ys
    → (xs : List Token) × Tokens t xs × Subtype (x.token ∷ xs) y.0 ys
unfolding parent_part
parent_part_sound opened x t y {ys = ys} e rest =
    elim (tested (says (codes "SUBTYPE") x.token)) [
      | inl h ↦
          let f = rw h at e in
          let b = bound {r = parent opened t} f in
          let one : (Some b.0.0, b.0.1) ≡ y = same b.2 in
          let p = parent_sound opened t b.0 b.1 (subst (λ (v : Text). Tokens v ys) (sym (ap (λ (z : Option (List ℕ) × Text). z.1) one)) rest) in
          let value : Some (in_upper_case p.1) ≡ y.0 = ap (λ (n : List ℕ). Some n) (sym p.4) ∙ ap (λ (z : Option (List ℕ) × Text). z.0) one in
          (p.0 ∷ Sign 40 ∷ Word p.1 ∷ Sign 41 ∷ Sign 59 ∷ ys, p.3, subst (λ (o : Option (List ℕ)). Subtype (x.token ∷ p.0 ∷ Sign 40 ∷ Word p.1 ∷ Sign 41 ∷ Sign 59 ∷ ys) o ys) value (Subtype.of_ h p.2))
      | inr h ↦
          let f = rw h at e in
          let k = kept (is_sign 59 x.token) (Ok (None, t)) Unexpected x.at y f in
          let one : (None, t) ≡ y = same k.1 in
          let all : Tokens t ys = subst (λ (v : Text). Tokens v ys) (sym (ap (λ (z : Option (List ℕ) × Text). z.1) one)) rest in
          let is : Subtype (x.token ∷ ys) None ys = subst (λ (z : Token). Subtype (z ∷ ys) None ys) (sym (sign_is 59 x.token k.0)) Subtype.none in
          (ys, all, subst (λ (o : Option (List ℕ)). Subtype (x.token ∷ ys) o ys) (ap (λ (z : Option (List ℕ) × Text). z.0) one) is)
    ]

-- ---- what is of the grammar is read

-- SUBTYPE and the semicolon say neither ABSTRACT, SUPERTYPE nor OF
pub subtype_other : (a : List ℕ) {x : Token} {xs : List Token} {m : Option (List ℕ)} {ys : List Token} → says a (Word (codes "SUBTYPE")) ≡ false → Subtype (x ∷ xs) m ys → says a x ≡ false
unfolding says
subtype_other a other Subtype.none = sign_says a 59
subtype_other a {x = x} other (Subtype.of_ is of_) = said_other (codes "SUBTYPE") a x is other

-- nor does SUPERTYPE say ABSTRACT
pub supertype_other : {x : Token} {xs zs : List Token} {m : Option (List ℕ)} {ys : List Token} → Supertype (x ∷ xs) zs → Subtype zs m ys → says (codes "ABSTRACT") x ≡ false
unfolding says
supertype_other Supertype.none sub = subtype_other (codes "ABSTRACT") refl sub
supertype_other {x = x} (Supertype.plain is) sub = said_other (codes "SUPERTYPE") (codes "ABSTRACT") x is refl
supertype_other {x = x} (Supertype.of_ is of_ inside) sub = said_other (codes "SUPERTYPE") (codes "ABSTRACT") x is refl

parent_comes : {t : Text} {o : Token} {m : List ℕ} {ys : List Token} (opened : Text) → says (codes "OF") o ≡ true → Tokens t (o ∷ Sign 40 ∷ Word m ∷ Sign 41 ∷ Sign 59 ∷ ys)
    → Comes t (parent opened t) (in_upper_case m) ys
unfolding parent is_sign
parent_comes opened is all =
    let a = keyword_comes (codes "OF") opened is all in
    let b = sign_comes 40 opened a.1.others in
    let w = word_comes opened b.others in
    let n = step opened w.others in
    let c = sign_comes 59 opened n.others in
    record { left = c.left; gives = rw (a.1.gives, b.gives, w.gives, n.read, c.gives) refl; others = c.others; less = omega (arith, a.1.less, b.less, w.less, n.less, c.less) }

-- what a part leaves
pub record Leaves {A : Type 0} (t : Text) (read : Read DeclCause A) (value : A) (ys : List Token) : Type 0 where
  pub left : Text
  pub gives : read ≡ Ok (value, left)
  pub others : Tokens left ys
  pub less : length left ≤ length t

no_subtype : says (codes "SUBTYPE") (Sign 59) ≡ false
unfolding says
no_subtype = refl

semicolon : is_sign 59 (Sign 59) ≡ true
unfolding is_sign
semicolon = refl

pub parent_part_comes : {t : Text} {x : Token} {xs : List Token} {m : Option (List ℕ)} {ys : List Token} (opened at : Text) → Subtype (x ∷ xs) m ys → Tokens t xs
    → Leaves t (parent_part opened (lexed x at) t) m ys
unfolding parent_part
parent_part_comes {t = t} opened at Subtype.none all = record { left = t; gives = rw (no_subtype, semicolon) refl; others = all; less = omega arith }
parent_part_comes opened at (Subtype.of_ is of_) all =
    let p = parent_comes opened of_ all in
    record { left = p.left; gives = rw (is, p.gives) refl; others = p.others; less = omega (arith, p.less) }

no_of : {x : Token} {xs : List Token} {m : Option (List ℕ)} {ys : List Token} → Subtype (x ∷ xs) m ys → says (codes "OF") x ≡ false
unfolding says
no_of sub = subtype_other (codes "OF") refl sub

no_supertype : {x : Token} {xs : List Token} {m : Option (List ℕ)} {ys : List Token} → Subtype (x ∷ xs) m ys → says (codes "SUPERTYPE") x ≡ false
unfolding says
no_supertype sub = subtype_other (codes "SUPERTYPE") refl sub

-- the token behind the parts, and what is behind it
pub record TokenBehind (t : Text) (read : Read DeclCause Lexed) (zs : List Token) : Type 0 where
  pub token : Token
  pub at : Text
  pub tokens : List Token
  pub is : zs ≡ token ∷ tokens
  pub left : Text
  pub gives : read ≡ Ok (lexed token at, left)
  pub others : Tokens left tokens
  pub less : length left ≤ length t

of_none : (opened : Text) (x : Lexed) (t : Text) → says (codes "OF") x.token ≡ false → subtypes_part opened x t ≡ Ok (x, t)
unfolding subtypes_part
of_none opened x t h = rw h refl

subtype_some : {m : Option (List ℕ)} {zs ys : List Token} → Subtype zs m ys → (x : Token) × (xs : List Token) × (zs ≡ x ∷ xs)
subtype_some (Subtype.none {u = u}) = (Sign 59, u, refl)
subtype_some (Subtype.of_ {x = x} {y = y} {m = m} {u = u} is of_) = (x, y ∷ Sign 40 ∷ Word m ∷ Sign 41 ∷ Sign 59 ∷ u, refl)

of_comes : {t : Text} {xs zs : List Token} (opened : Text) (y : Token) → says (codes "OF") y ≡ true → InParentheses xs zs → (x : Token) (tokens : List Token) → zs ≡ x ∷ tokens → (at : Text) → Tokens t (Sign 40 ∷ xs)
    → TokenBehind t (subtypes_part opened (lexed y at) t) zs
unfolding subtypes_part
of_comes opened y is inside x tokens some at all =
    let a = sign_comes 40 opened all in
    let b = in_parentheses_comes opened inside a.others in
    let n = step opened (subst (λ (us : List Token). Tokens b.left us) some b.others) in
    record { token = x; at = n.at; tokens = tokens; is = some; left = n.left; gives = rw (is, a.gives, b.gives) n.read; others = n.others; less = omega (arith, a.less, b.less, n.less) }

pub supertype_comes : {t : Text} {x : Token} {xs zs : List Token} {m : Option (List ℕ)} {ys : List Token} (opened at : Text) → Supertype (x ∷ xs) zs → Subtype zs m ys → Tokens t xs
    → TokenBehind t (supertype_part opened (lexed x at) t) zs
unfolding supertype_part
supertype_comes {t = t} {x = x} {xs = xs} opened at Supertype.none sub all =
    record { token = x; at = at; tokens = xs; is = refl; left = t; gives = rw (no_supertype sub) refl; others = all; less = omega arith }
supertype_comes {t = t} {m = m} {ys = ys} opened at (Supertype.plain is) sub all =
    let some = subtype_some sub in
    let n = step opened (subst (λ (us : List Token). Tokens t us) some.2 all) in
    let none : says (codes "OF") some.0 ≡ false = no_of (subst (λ (us : List Token). Subtype us m ys) some.2 sub) in
    record { token = some.0; at = n.at; tokens = some.1; is = some.2; left = n.left; gives = rw (is, n.read) (of_none opened (lexed some.0 n.at) n.left none); others = n.others; less = omega (arith, n.less) }
supertype_comes opened at (Supertype.of_ {y = y} is of_ inside) sub all =
    let some = subtype_some sub in
    let n = step opened all in
    let b = of_comes opened y of_ inside some.0 some.1 some.2 n.at n.others in
    record { token = b.token; at = b.at; tokens = b.tokens; is = b.is; left = b.left; gives = rw (is, n.read) b.gives; others = b.others; less = omega (arith, n.less, b.less) }

supertype_some : {m : Option (List ℕ)} {vs zs ys : List Token} → Supertype vs zs → Subtype zs m ys → (x : Token) × (xs : List Token) × (vs ≡ x ∷ xs)
supertype_some Supertype.none sub = subtype_some sub
supertype_some (Supertype.plain {x = x} {u = u} is) sub = (x, u, refl)
supertype_some (Supertype.of_ {x = x} {y = y} {xs = xs} is of_ inside) sub = (x, y ∷ Sign 40 ∷ xs, refl)

-- whether ABSTRACT stands there, and the token behind it
pub record Told (t : Text) (read : Read DeclCause (Bool × Lexed)) (is_abstract : Bool) (zs : List Token) : Type 0 where
  pub token : Token
  pub at : Text
  pub tokens : List Token
  pub is : zs ≡ token ∷ tokens
  pub left : Text
  pub gives : read ≡ Ok ((is_abstract, lexed token at), left)
  pub others : Tokens left tokens
  pub less : length left ≤ length t

pub abstract_comes : {t : Text} {x : Token} {xs vs zs : List Token} {a : Bool} {m : Option (List ℕ)} {ys : List Token} (opened at : Text) → Abstract (x ∷ xs) a vs → Supertype vs zs → Subtype zs m ys → Tokens t xs
    → Told t (abstract_part opened (lexed x at) t) a vs
unfolding abstract_part
abstract_comes {t = t} {x = x} {xs = xs} opened at Abstract.isnt super sub all =
    record { token = x; at = at; tokens = xs; is = refl; left = t; gives = rw (supertype_other super sub) refl; others = all; less = omega arith }
abstract_comes {t = t} opened at (Abstract.is is) super sub all =
    let some = supertype_some super sub in
    let n = step opened (subst (λ (us : List Token). Tokens t us) some.2 all) in
    record { token = some.0; at = n.at; tokens = some.1; is = some.2; left = n.left; gives = rw (is, n.read) refl; others = n.others; less = omega (arith, n.less) }

-- there is a token
pub abstract_some : {a : Bool} {m : Option (List ℕ)} {xs vs zs ys : List Token} → Abstract xs a vs → Supertype vs zs → Subtype zs m ys → (x : Token) × (us : List Token) × (xs ≡ x ∷ us)
abstract_some Abstract.isnt super sub = supertype_some super sub
abstract_some (Abstract.is {x = x} {u = u} is) super sub = (x, u, refl)
