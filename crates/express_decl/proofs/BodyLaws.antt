-- Attributes and sections of an entity: what is read is of the grammar.
use Rattle.std.proofs.Common.{◌≡◌, true, false, ◌||◌, List, [], ◌∷◌, ◌++◌, Ok, refl, sym, ap, ◌∙◌, subst, inl, inr, append_assoc}
use Rattle.std.specs.Prelude.{codes}
use Rattle.std.proofs.lemmas.List.{append-nil}
use Rattle.reading.specs.Reading.{Text, turns}
use Rattle.reading.proofs.Tools.{bound, tested, each_sound}
use Rattle.express_decl.specs.declared.decl.DeclCause.TheVariants.{Unexpected}
use Rattle.express_decl.specs.declared.section.Heading.{Heading}
use Rattle.express_decl.specs.declared.section.Heading.TheVariants as heading
use Rattle.express_decl.specs.declared.section.Line.{Line}
use Rattle.express_decl.specs.declared.section.Line.TheVariants as line
use Rattle.express_decl.specs.declared.section.Section.{Section}
use Rattle.express_decl.specs.declared.section.Section.TheVariants as section
use Rattle.express_decl.specs.declared.section.Body.{Body}
use Rattle.express_decl.specs.Tokens.{Token, Lexed, says}
use Rattle.express_decl.specs.Steps.{next}
use Rattle.express_decl.specs.Entities.{attribute_line, heading_of, line_after, names_from, derive_step, within, body_step, body_turn, no_body, body}
use Rattle.express_decl.specs.Lexical.{Tokens}
use Rattle.express_decl.specs.Grammar.{ends_section, Attributes, SectionText, Sections}
use Rattle.express_decl.proofs.DeclTools.{or_false, turned, left_of, state_of, never_last, never_more}
use Rattle.express_decl.proofs.StepLaws.{said_other, next_sound}
use Rattle.express_decl.proofs.AttributeLaws.{Texts, LineOf, line_sound}
use Rattle.express_decl.proofs.DeriveLaws.{names_after, derived_is, names_none, names_more}

-- ---- what a token begins

pub data Kind (x : Token) : Heading → Type 0 where
  is_end : says (codes "END_ENTITY") x ≡ true → Kind x heading.End
  is_derive : says (codes "DERIVE") x ≡ true → Kind x heading.Derive
  is_inverse : says (codes "INVERSE") x ≡ true → Kind x heading.Other
  is_unique : says (codes "UNIQUE") x ≡ true → Kind x heading.Other
  is_where : says (codes "WHERE") x ≡ true → Kind x heading.Other
  is_plain : ends_section x ≡ false → Kind x heading.Plain

kind_of : (x : Token) → Kind x (heading_of x)
unfolding heading_of
kind_of x =
    elim (tested (says (codes "END_ENTITY") x)) [
      | inl h ↦ rw h (Kind.is_end h)
      | inr h ↦ elim (tested (says (codes "DERIVE") x)) [
        | inl k ↦ rw (h, k) (Kind.is_derive k)
        | inr k ↦ elim (tested (says (codes "INVERSE") x)) [
          | inl m ↦ rw (h, k, m) (Kind.is_inverse m)
          | inr m ↦ elim (tested (says (codes "UNIQUE") x)) [
            | inl n ↦ rw (h, k, m, n) (Kind.is_unique n)
            | inr n ↦ elim (tested (says (codes "WHERE") x)) [
              | inl p ↦ rw (h, k, m, n, p) (Kind.is_where p)
              | inr p ↦ let none : ends_section x ≡ false = rw (h, k, m, n, p) refl in rw (h, k, m, n, p) (Kind.is_plain none)
            ]
          ]
        ]
      ]
    ]

pub heading_end : (x : Token) → says (codes "END_ENTITY") x ≡ true → heading_of x ≡ heading.End
unfolding heading_of
heading_end x is = rw is refl

pub heading_derive : (x : Token) → says (codes "DERIVE") x ≡ true → heading_of x ≡ heading.Derive
unfolding heading_of
heading_derive x is = rw (said_other (codes "DERIVE") (codes "END_ENTITY") x is refl, is) refl

pub heading_inverse : (x : Token) → says (codes "INVERSE") x ≡ true → heading_of x ≡ heading.Other
unfolding heading_of
heading_inverse x is =
    rw (said_other (codes "INVERSE") (codes "END_ENTITY") x is refl, said_other (codes "INVERSE") (codes "DERIVE") x is refl, is) refl

pub heading_unique : (x : Token) → says (codes "UNIQUE") x ≡ true → heading_of x ≡ heading.Other
unfolding heading_of
heading_unique x is =
    rw (said_other (codes "UNIQUE") (codes "END_ENTITY") x is refl, said_other (codes "UNIQUE") (codes "DERIVE") x is refl, said_other (codes "UNIQUE") (codes "INVERSE") x is refl, is) refl

pub heading_where : (x : Token) → says (codes "WHERE") x ≡ true → heading_of x ≡ heading.Other
unfolding heading_of
heading_where x is =
    rw (said_other (codes "WHERE") (codes "END_ENTITY") x is refl, said_other (codes "WHERE") (codes "DERIVE") x is refl, said_other (codes "WHERE") (codes "INVERSE") x is refl, said_other (codes "WHERE") (codes "UNIQUE") x is refl, is) refl

pub heading_plain : (x : Token) → ends_section x ≡ false → heading_of x ≡ heading.Plain
unfolding heading_of
heading_plain x none =
    let a = or_false (says (codes "DERIVE") x) (says (codes "INVERSE") x || (says (codes "UNIQUE") x || (says (codes "WHERE") x || says (codes "END_ENTITY") x))) none in
    let b = or_false (says (codes "INVERSE") x) (says (codes "UNIQUE") x || (says (codes "WHERE") x || says (codes "END_ENTITY") x)) a.1 in
    let c = or_false (says (codes "UNIQUE") x) (says (codes "WHERE") x || says (codes "END_ENTITY") x) b.1 in
    let d = or_false (says (codes "WHERE") x) (says (codes "END_ENTITY") x) c.1 in
    rw (d.1, a.0, b.0, c.0, d.0) refl

pub self_plain : (x : Token) → says (codes "SELF") x ≡ true → ends_section x ≡ false
self_plain x is =
    rw (said_other (codes "SELF") (codes "DERIVE") x is refl, said_other (codes "SELF") (codes "INVERSE") x is refl, said_other (codes "SELF") (codes "UNIQUE") x is refl, said_other (codes "SELF") (codes "WHERE") x is refl, said_other (codes "SELF") (codes "END_ENTITY") x is refl) refl

-- ---- what is left of an entity within a section, behind its END_ENTITY u

data Rest : Section → List Token → Texts → Texts → List Token → Type 0 where
  in_attributes : {xs zs u : List Token} {e : Token} {own derived : Texts} → Attributes xs own zs → Sections zs derived (e ∷ u) → says (codes "END_ENTITY") e ≡ true → Rest section.Attributes xs own derived u
  in_derive : {l : Line} {xs text zs u : List Token} {e : Token} {names : Texts} → SectionText xs text zs → Sections zs names (e ∷ u) → says (codes "END_ENTITY") e ≡ true
      → Rest (section.Derive l) xs [] (names_after l text ++ names) u
  in_other : {xs text zs u : List Token} {e : Token} {names : Texts} → SectionText xs text zs → Sections zs names (e ∷ u) → says (codes "END_ENTITY") e ≡ true → Rest section.Other xs [] names u

rest_sections : (s : Section) {zs u : List Token} {e : Token} {names : Texts} → Sections zs names (e ∷ u) → says (codes "END_ENTITY") e ≡ true → Rest s zs [] names u
rest_sections section.Attributes sections is = Rest.in_attributes Attributes.none sections is
rest_sections (section.Derive l) {zs = zs} {u = u} {names = names} sections is =
    subst (λ (d : Texts). Rest (section.Derive l) zs [] d u) (ap (λ (ns : Texts). ns ++ names) (names_none l)) (Rest.in_derive SectionText.none sections is)
rest_sections section.Other sections is = Rest.in_other SectionText.none sections is

derive_heads : (s : Section) {x : Token} {xs ys : List Token} {own derived : Texts} → says (codes "DERIVE") x ≡ true → Rest (section.Derive line.Start) xs own derived ys → Rest s (x ∷ xs) own derived ys
derive_heads s {x = x} {xs = xs} {ys = ys} said (Rest.in_derive {text = text} {e = e} {names = names} inside sections is) =
    subst (λ (d : Texts). Rest s (x ∷ xs) [] d ys) (ap (λ (ns : Texts). ns ++ names) (sym (derived_is text))) (rest_sections s (Sections.derive said inside sections) is)

inverse_heads : (s : Section) {x : Token} {xs ys : List Token} {own derived : Texts} → says (codes "INVERSE") x ≡ true → Rest section.Other xs own derived ys → Rest s (x ∷ xs) own derived ys
inverse_heads s said (Rest.in_other inside sections is) = rest_sections s (Sections.inverse said inside sections) is

unique_heads : (s : Section) {x : Token} {xs ys : List Token} {own derived : Texts} → says (codes "UNIQUE") x ≡ true → Rest section.Other xs own derived ys → Rest s (x ∷ xs) own derived ys
unique_heads s said (Rest.in_other inside sections is) = rest_sections s (Sections.unique said inside sections) is

where_heads : (s : Section) {x : Token} {xs ys : List Token} {own derived : Texts} → says (codes "WHERE") x ≡ true → Rest section.Other xs own derived ys → Rest s (x ∷ xs) own derived ys
where_heads s said (Rest.in_other inside sections is) = rest_sections s (Sections.where_ said inside sections) is

line_on : {x : Token} {xs zs ys : List Token} {ns own derived : Texts} → ends_section x ≡ false → LineOf (x ∷ xs) ns zs → Rest section.Attributes zs own derived ys → Rest section.Attributes (x ∷ xs) (ns ++ own) derived ys
line_on plain (LineOf.listed names type) (Rest.in_attributes a sections is) = Rest.in_attributes (Attributes.names plain names type a) sections is
line_on plain (LineOf.again said type) (Rest.in_attributes a sections is) = Rest.in_attributes (Attributes.redeclared said type a) sections is

derive_on : {l : Line} {x : Token} {xs ys : List Token} {own derived : Texts} → ends_section x ≡ false → Rest (section.Derive (line_after l x)) xs own derived ys
    → Rest (section.Derive l) (x ∷ xs) own (names_from l x ++ derived) ys
derive_on {l = l} {x = x} {xs = xs} {ys = ys} plain (Rest.in_derive {text = text} {names = names} inside sections is) =
    let more : names_after l (x ∷ text) ++ names ≡ names_from l x ++ (names_after (line_after l x) text ++ names) =
    ap (λ (ns : Texts). ns ++ names) (names_more l x text) ∙ append_assoc (names_from l x) (names_after (line_after l x) text) names in
    subst (λ (d : Texts). Rest (section.Derive l) (x ∷ xs) [] d ys) more (Rest.in_derive (SectionText.more plain inside) sections is)

other_on : {x : Token} {xs ys : List Token} {own derived : Texts} → ends_section x ≡ false → Rest section.Other xs own derived ys → Rest section.Other (x ∷ xs) own derived ys
other_on plain (Rest.in_other inside sections is) = Rest.in_other (SectionText.more plain inside) sections is

-- ---- turns

module _ (opened : Text) where
  -- what is read of the tokens `before` in the state s, up to r
  abbrev Found : Body → Section → List Token → Body → List Token → Type 0
  Found s now before r ys = (own : Texts) × (derived : Texts) × Rest now before own derived ys × (r.own ≡ s.own ++ own) × (r.derived ≡ s.derived ++ derived)

  abbrev Reads : Body → Text → Body → Text → Type 0
  Reads s t r u = (ys : List Token) → Tokens u ys → (xs : List Token) × Tokens t xs × Found s s.section xs r ys

  within_last : (s : Body) (now : Section) (x : Lexed) (t : Text) (r : Body) (u : Text) → within opened s now x t ≡ Ok ((false, r), u) → ⊥
  within_last s section.Attributes x t r u e = let b = bound {r = attribute_line opened s.own x t} e in never_last b.2
  within_last s (section.Derive l) x t r u e = never_last e
  within_last s section.Other x t r u e = never_last e

  step_last : (s : Body) (h : Heading) (x : Lexed) (t : Text) (r : Body) (u : Text) → Kind x.token h → body_step opened s h x t ≡ Ok ((false, r), u) → (ys : List Token) → Tokens u ys
      → Tokens t ys × Found s s.section (x.token ∷ ys) r ys
  step_last s _ x t r u (Kind.is_end is) e ys rest =
      let none : Rest s.section (x.token ∷ ys) [] [] ys = rest_sections s.section Sections.none is in
      let own : r.own ≡ s.own ++ [] = sym (ap (λ (b : Body). b.own) (state_of e)) ∙ sym (append-nil s.own) in
      let derived : r.derived ≡ s.derived ++ [] = sym (ap (λ (b : Body). b.derived) (state_of e)) ∙ sym (append-nil s.derived) in
      (subst (λ (v : Text). Tokens v ys) (sym (left_of e)) rest, ([], [], none, own, derived))
  step_last s _ x t r u (Kind.is_derive is) e ys rest = absurd (never_last e)
  step_last s _ x t r u (Kind.is_inverse is) e ys rest = absurd (never_last e)
  step_last s _ x t r u (Kind.is_unique is) e ys rest = absurd (never_last e)
  step_last s _ x t r u (Kind.is_where is) e ys rest = absurd (never_last e)
  step_last s _ x t r u (Kind.is_plain none) e ys rest = absurd (within_last s s.section x t r u e)

  turn_last : (s : Body) (t : Text) (r : Body) (u : Text) → body_turn opened s t ≡ Ok ((false, r), u) → Reads s t r u
  unfolding body_turn
  turn_last s t r u e ys rest =
      let b = bound {r = next opened t} e in
      let l = step_last s (heading_of b.0.0.token) b.0.0 b.0.1 r u (kind_of b.0.0.token) b.2 ys rest in
      (b.0.0.token ∷ ys, next_sound opened t b.0 b.1 l.0, l.1)

  -- what is read behind the token x
  abbrev ReadBehind : Body → Section → Lexed → Text → Body → List Token → Type 0
  ReadBehind s now x t q ys = (xs : List Token) × Tokens t xs × Found s now (x.token ∷ xs) q ys

  within_more : (s : Body) (now : Section) → s.section ≡ now → (x : Lexed) (t : Text) (r : Body) (u : Text) (q : Body) (w : Text) → ends_section x.token ≡ false
      → within opened s now x t ≡ Ok ((true, r), u) → Reads r u q w → (ys : List Token) → Tokens w ys → ReadBehind s now x t q ys
  unfolding derive_step
  within_more s section.Attributes at x t r u q w plain e more ys rest =
      let b = bound {r = attribute_line opened s.own x t} e in
      let from : Reads (record s { own = b.0.0 }) u q w = subst (λ (z : Body). Reads z u q w) (sym (state_of b.2)) more in
      let c = from ys rest in
      let l = line_sound opened s.own x t b.0 b.1 (subst (λ (v : Text). Tokens v c.0) (sym (left_of b.2)) c.1) in
      let here : Rest section.Attributes c.0 c.2.0 c.2.1 ys = subst (λ (z : Section). Rest z c.0 c.2.0 c.2.1 ys) at c.2.2 in
      let own : q.own ≡ s.own ++ (l.1 ++ c.2.0) = c.2.3 ∙ (ap (λ (ns : Texts). ns ++ c.2.0) l.4 ∙ append_assoc s.own l.1 c.2.0) in
      (l.0, l.2, (l.1 ++ c.2.0, c.2.1, line_on plain l.3 here, own, c.2.4))
  within_more s (section.Derive l) at x t r u q w plain e more ys rest =
      let from : Reads (record s { derived = s.derived ++ names_from l x.token; section = section.Derive (line_after l x.token) }) u q w = subst (λ (z : Body). Reads z u q w) (sym (state_of e)) more in
      let c = from ys rest in
      let derived : q.derived ≡ s.derived ++ (names_from l x.token ++ c.2.1) = c.2.4 ∙ append_assoc s.derived (names_from l x.token) c.2.1 in
      (c.0, subst (λ (v : Text). Tokens v c.0) (sym (left_of e)) c.1, (c.2.0, names_from l x.token ++ c.2.1, derive_on plain c.2.2, c.2.3, derived))
  within_more s section.Other at x t r u q w plain e more ys rest =
      let from : Reads s u q w = subst (λ (z : Body). Reads z u q w) (sym (state_of e)) more in
      let c = from ys rest in
      let here : Rest section.Other c.0 c.2.0 c.2.1 ys = subst (λ (z : Section). Rest z c.0 c.2.0 c.2.1 ys) at c.2.2 in
      (c.0, subst (λ (v : Text). Tokens v c.0) (sym (left_of e)) c.1, (c.2.0, c.2.1, other_on plain here, c.2.3, c.2.4))

  -- a word that begins the section `now`
  section_begins : (s : Body) (now : Section) (x : Lexed) (t : Text) (r : Body) (u : Text) (q : Body) (w : Text) → turned true (record s { section = now }) t ≡ turned true r u → Reads r u q w
      → (ys : List Token) → Tokens w ys → ((xs : List Token) (own derived : Texts) → Rest now xs own derived ys → Rest s.section (x.token ∷ xs) own derived ys) → ReadBehind s s.section x t q ys
  section_begins s now x t r u q w e more ys rest begins =
      let from : Reads (record s { section = now }) u q w = subst (λ (z : Body). Reads z u q w) (sym (state_of e)) more in
      let c = from ys rest in
      (c.0, subst (λ (v : Text). Tokens v c.0) (sym (left_of e)) c.1, (c.2.0, c.2.1, begins c.0 c.2.0 c.2.1 c.2.2, c.2.3, c.2.4))

  step_more : (s : Body) (h : Heading) (x : Lexed) (t : Text) (r : Body) (u : Text) (q : Body) (w : Text) → Kind x.token h → body_step opened s h x t ≡ Ok ((true, r), u) → Reads r u q w
      → (ys : List Token) → Tokens w ys → ReadBehind s s.section x t q ys
  step_more s _ x t r u q w (Kind.is_end is) e more ys rest = absurd (never_more e)
  step_more s _ x t r u q w (Kind.is_derive is) e more ys rest = section_begins s (section.Derive line.Start) x t r u q w e more ys rest (λ xs own derived left. derive_heads s.section is left)
  step_more s _ x t r u q w (Kind.is_inverse is) e more ys rest = section_begins s section.Other x t r u q w e more ys rest (λ xs own derived left. inverse_heads s.section is left)
  step_more s _ x t r u q w (Kind.is_unique is) e more ys rest = section_begins s section.Other x t r u q w e more ys rest (λ xs own derived left. unique_heads s.section is left)
  step_more s _ x t r u q w (Kind.is_where is) e more ys rest = section_begins s section.Other x t r u q w e more ys rest (λ xs own derived left. where_heads s.section is left)
  step_more s _ x t r u q w (Kind.is_plain none) e more ys rest = within_more s s.section refl x t r u q w none e more ys rest

  turn_more : (s : Body) (t : Text) (r : Body) (u : Text) (q : Body) (w : Text) → body_turn opened s t ≡ Ok ((true, r), u) → Reads r u q w → Reads s t q w
  unfolding body_turn
  turn_more s t r u q w e more ys rest =
      let b = bound {r = next opened t} e in
      let l = step_more s (heading_of b.0.0.token) b.0.0 b.0.1 r u q w (kind_of b.0.0.token) b.2 more ys rest in
      (b.0.0.token ∷ l.0, next_sound opened t b.0 b.1 l.1, l.2)

-- an entity's attributes and sections
pub record BodyOf (xs : List Token) (own derived : Texts) (ys : List Token) : Type 0 where
  pub between : List Token
  pub e : Token
  pub attributes : Attributes xs own between
  pub sections : Sections between derived (e ∷ ys)
  pub ends : says (codes "END_ENTITY") e ≡ true

whole_rest : {xs ys : List Token} {own derived : Texts} → Rest section.Attributes xs own derived ys → BodyOf xs own derived ys
whole_rest (Rest.in_attributes {zs = zs} {e = e} a sections is) = record { between = zs; e = e; attributes = a; sections = sections; ends = is }

pub body_sound : (opened t : Text) (y : Body × Text) {ys : List Token} → body opened t ≡ Ok y → Tokens y.1 ys → (xs : List Token) × Tokens t xs × BodyOf xs y.0.own y.0.derived ys
unfolding body
body_sound opened t y {ys = ys} e rest =
    let c = each_sound Unexpected (body_turn opened) (Reads opened) (turn_last opened) (turn_more opened) (turns t) no_body t y.0 y.1 e ys rest in
    let own : c.2.0 ≡ y.0.own = sym c.2.3 in
    let derived : c.2.1 ≡ y.0.derived = sym c.2.4 in
    (c.0, c.1, subst (λ (d : Texts). BodyOf c.0 y.0.own d ys) derived (subst (λ (o : Texts). BodyOf c.0 o c.2.1 ys) own (whole_rest c.2.2)))
