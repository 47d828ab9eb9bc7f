-- Attributes and sections of an entity: what is of the grammar is read.
use Rattle.std.proofs.Common.{◌≡◌, ◌<◌, ◌≤◌, true, false, List, [], ◌∷◌, ◌++◌, length, Ok, refl, sym, ap, ◌∙◌, subst, arith, append_assoc}
use Rattle.std.specs.Prelude.{codes}
use Rattle.std.proofs.lemmas.List.{append-nil}
use Rattle.reading.specs.Reading.{Text}
use Rattle.reading.proofs.Tools.{Run, all_run}
use Rattle.express_decl.specs.declared.decl.DeclCause.TheVariants.{Unexpected}
use Rattle.express_decl.specs.declared.section.Line.{Line}
use Rattle.express_decl.specs.declared.section.Line.TheVariants as line
use Rattle.express_decl.specs.declared.section.Section.{Section}
use Rattle.express_decl.specs.declared.section.Section.TheVariants as section
use Rattle.express_decl.specs.declared.section.Body.{Body}
use Rattle.express_decl.specs.Tokens.{Token, says}
use Rattle.express_decl.specs.Entities.{attribute_line, line_after, names_from, derive_step, body_turn, body}
use Rattle.express_decl.specs.Lexical.{Tokens}
use Rattle.express_decl.specs.Grammar.{ends_section, Attributes, SectionText, derived_names, Sections}
use Rattle.express_decl.proofs.DeclTools.{lexed, given}
use Rattle.express_decl.proofs.StepLaws.{step}
use Rattle.express_decl.proofs.PartLaws.{Leaves}
use Rattle.express_decl.proofs.AttributeLaws.{Texts, names_line_leaves, redeclared_line_leaves}
use Rattle.express_decl.proofs.DeriveLaws.{names_after, derived_is, names_none, names_more}
use Rattle.express_decl.proofs.BodyLaws.{heading_end, heading_derive, heading_inverse, heading_unique, heading_where, heading_plain, self_plain}

abbrev pub state : Texts → Texts → Section → Body
state own derived now = record { own = own; derived = derived; section = now }

module _ (opened : Text) where
  -- ---- one turn

  end_turn : {t : Text} {x : Token} {xs : List Token} (own derived : Texts) (now : Section) → says (codes "END_ENTITY") x ≡ true → (all : Tokens t (x ∷ xs))
      → body_turn opened (state own derived now) t ≡ Ok ((false, state own derived now), (step opened all).left)
  unfolding body_turn
  end_turn {x = x} own derived now is all = let s = step opened all in rw (s.read, heading_end x is) refl

  derive_turn : {t : Text} {x : Token} {xs : List Token} (own derived : Texts) (now : Section) → says (codes "DERIVE") x ≡ true → (all : Tokens t (x ∷ xs))
      → body_turn opened (state own derived now) t ≡ Ok ((true, state own derived (section.Derive line.Start)), (step opened all).left)
  unfolding body_turn
  derive_turn {x = x} own derived now is all = let s = step opened all in rw (s.read, heading_derive x is) refl

  inverse_turn : {t : Text} {x : Token} {xs : List Token} (own derived : Texts) (now : Section) → says (codes "INVERSE") x ≡ true → (all : Tokens t (x ∷ xs))
      → body_turn opened (state own derived now) t ≡ Ok ((true, state own derived section.Other), (step opened all).left)
  unfolding body_turn
  inverse_turn {x = x} own derived now is all = let s = step opened all in rw (s.read, heading_inverse x is) refl

  unique_turn : {t : Text} {x : Token} {xs : List Token} (own derived : Texts) (now : Section) → says (codes "UNIQUE") x ≡ true → (all : Tokens t (x ∷ xs))
      → body_turn opened (state own derived now) t ≡ Ok ((true, state own derived section.Other), (step opened all).left)
  unfolding body_turn
  unique_turn {x = x} own derived now is all = let s = step opened all in rw (s.read, heading_unique x is) refl

  where_turn : {t : Text} {x : Token} {xs : List Token} (own derived : Texts) (now : Section) → says (codes "WHERE") x ≡ true → (all : Tokens t (x ∷ xs))
      → body_turn opened (state own derived now) t ≡ Ok ((true, state own derived section.Other), (step opened all).left)
  unfolding body_turn
  where_turn {x = x} own derived now is all = let s = step opened all in rw (s.read, heading_where x is) refl

  in_derive_turn : {t : Text} {x : Token} {xs : List Token} (own derived : Texts) (l : Line) → ends_section x ≡ false → (all : Tokens t (x ∷ xs))
      → body_turn opened (state own derived (section.Derive l)) t ≡ Ok ((true, state own (derived ++ names_from l x) (section.Derive (line_after l x))), (step opened all).left)
  unfolding body_turn derive_step
  in_derive_turn {x = x} own derived l plain all = let s = step opened all in rw (s.read, heading_plain x plain) refl

  in_other_turn : {t : Text} {x : Token} {xs : List Token} (own derived : Texts) → ends_section x ≡ false → (all : Tokens t (x ∷ xs))
      → body_turn opened (state own derived section.Other) t ≡ Ok ((true, state own derived section.Other), (step opened all).left)
  unfolding body_turn
  in_other_turn {x = x} own derived plain all = let s = step opened all in rw (s.read, heading_plain x plain) refl

  line_turn : {t : Text} {x : Token} {xs : List Token} {r : Texts} {v : Text} (own derived : Texts) → ends_section x ≡ false → (all : Tokens t (x ∷ xs))
      → attribute_line opened own (lexed x (step opened all).at) (step opened all).left ≡ Ok (r, v)
      → body_turn opened (state own derived section.Attributes) t ≡ Ok ((true, state r derived section.Attributes), v)
  unfolding body_turn
  line_turn {x = x} own derived plain all went = let s = step opened all in rw (s.read, heading_plain x plain, went) refl

  -- ---- the text of a section

  -- turns that pass a text, before any that follow
  abbrev Goes : Body → Text → Body → Text → Type 0
  Goes s t r u = (q : Body) (w : Text) → Run (body_turn opened) r u q w → Run (body_turn opened) s t q w

  derive_goes : {t : Text} {xs text zs : List Token} (own derived : Texts) (l : Line) → SectionText xs text zs → Tokens t xs
      → (m : Line) × (left : Text) × Tokens left zs × (length left ≤ length t) × Goes (state own derived (section.Derive l)) t (state own (derived ++ names_after l text) (section.Derive m)) left
  derive_goes {t = t} own derived l SectionText.none all =
      let none : derived ++ names_after l [] ≡ derived = ap (λ (ns : Texts). derived ++ ns) (names_none l) ∙ append-nil derived in
      (l, t, all, omega arith, λ q w run. subst (λ (d : Texts). Run (body_turn opened) (state own d (section.Derive l)) t q w) none run)
  derive_goes {t = t} own derived l (SectionText.more {x = x} {text = text} plain rest) all =
      let s = step opened all in
      let i = derive_goes {t = s.left} own (derived ++ names_from l x) (line_after l x) rest s.others in
      let names : derived ++ names_after l (x ∷ text) ≡ (derived ++ names_from l x) ++ names_after (line_after l x) text =
      ap (λ (ns : Texts). derived ++ ns) (names_more l x text) ∙ sym (append_assoc derived (names_from l x) (names_after (line_after l x) text)) in
      let here = state own derived (section.Derive l) in
      let behind = state own (derived ++ names_from l x) (section.Derive (line_after l x)) in (
        i.0,
        i.1,
        i.2,
        omega (arith, s.less, i.3),
        λ q w run. Run.more here t behind s.left q w (in_derive_turn own derived l plain all) s.less (i.4 q w (subst (λ (d : Texts). Run (body_turn opened) (state own d (section.Derive i.0)) i.1 q w) names run)),
      )

  other_goes : {t : Text} {xs text zs : List Token} (own derived : Texts) → SectionText xs text zs → Tokens t xs
      → (left : Text) × Tokens left zs × (length left ≤ length t) × Goes (state own derived section.Other) t (state own derived section.Other) left
  other_goes {t = t} own derived SectionText.none all = (t, all, omega arith, λ q w run. run)
  other_goes {t = t} own derived (SectionText.more plain rest) all =
      let s = step opened all in
      let i = other_goes {t = s.left} own derived rest s.others in
      let here = state own derived section.Other in
      (i.0, i.1, omega (arith, s.less, i.2), λ q w run. Run.more here t here s.left q w (in_other_turn own derived plain all) s.less (i.3 q w run))

  -- ---- sections

  -- turns up to the end of the entity
  abbrev Ends : Text → Body → Texts → Texts → List Token → Type 0
  Ends t s own derived ys = (now : Section) × (left : Text) × Tokens left ys × (length left ≤ length t) × Run (body_turn opened) s t (state own derived now) left

  as_derived : {t : Text} {s : Body} {own d e : Texts} {ys : List Token} → d ≡ e → Ends t s own d ys → Ends t s own e ys
  as_derived {t = t} {s = s} {own = own} {ys = ys} same ends = subst (λ (d : Texts). Ends t s own d ys) same ends

  as_own : {t : Text} {s : Body} {o p derived : Texts} {ys : List Token} → o ≡ p → Ends t s o derived ys → Ends t s p derived ys
  as_own {t = t} {s = s} {derived = derived} {ys = ys} same ends = subst (λ (o : Texts). Ends t s o derived ys) same ends

  sections_end : {t : Text} {zs us ys : List Token} {e : Token} {names : Texts} (own derived : Texts) (now : Section) → Sections zs names us → us ≡ e ∷ ys → says (codes "END_ENTITY") e ≡ true → Tokens t zs
      → Ends t (state own derived now) own (derived ++ names) ys
  sections_end {t = t} {ys = ys} {e = e} own derived now (Sections.none {u = u}) same is all =
      let here : Tokens t (e ∷ ys) = subst (λ (us : List Token). Tokens t us) same all in
      let s = step opened here in
      as_derived (sym (append-nil derived)) (now, s.left, s.others, omega (arith, s.less), Run.last (state own derived now) t (state own derived now) s.left (end_turn own derived now is here))
  sections_end {t = t} own derived now (Sections.derive {text = text} {names = names} said inside more) same is all =
      let s = step opened all in
      let i = derive_goes own derived line.Start inside s.others in
      let j = sections_end {t = i.1} own (derived ++ names_after line.Start text) (section.Derive i.0) more same is i.2 in
      let start = state own derived (section.Derive line.Start) in
      let value : (derived ++ names_after line.Start text) ++ names ≡ derived ++ (derived_names text ++ names) =
      append_assoc derived (names_after line.Start text) names ∙ ap (λ (ns : Texts). derived ++ (ns ++ names)) (derived_is text) in
      as_derived value (
        j.0,
        j.1,
        j.2,
        omega (arith, s.less, i.3, j.3),
        Run.more (state own derived now) t start s.left (state own ((derived ++ names_after line.Start text) ++ names) j.0) j.1 (derive_turn own derived now said all) s.less (
            i.4 (state own ((derived ++ names_after line.Start text) ++ names) j.0) j.1 j.4),
      )
  sections_end {t = t} own derived now (Sections.inverse {names = names} said inside more) same is all =
      let s = step opened all in
      let i = other_goes own derived inside s.others in
      let j = sections_end {t = i.0} own derived section.Other more same is i.1 in (
        j.0,
        j.1,
        j.2,
        omega (arith, s.less, i.2, j.3),
        Run.more (state own derived now) t (state own derived section.Other) s.left (state own (derived ++ names) j.0) j.1 (inverse_turn own derived now said all) s.less (i.3 (state own (derived ++ names) j.0) j.1 j.4),
      )
  sections_end {t = t} own derived now (Sections.unique {names = names} said inside more) same is all =
      let s = step opened all in
      let i = other_goes own derived inside s.others in
      let j = sections_end {t = i.0} own derived section.Other more same is i.1 in (
        j.0,
        j.1,
        j.2,
        omega (arith, s.less, i.2, j.3),
        Run.more (state own derived now) t (state own derived section.Other) s.left (state own (derived ++ names) j.0) j.1 (unique_turn own derived now said all) s.less (i.3 (state own (derived ++ names) j.0) j.1 j.4),
      )
  sections_end {t = t} own derived now (Sections.where_ {names = names} said inside more) same is all =
      let s = step opened all in
      let i = other_goes own derived inside s.others in
      let j = sections_end {t = i.0} own derived section.Other more same is i.1 in (
        j.0,
        j.1,
        j.2,
        omega (arith, s.less, i.2, j.3),
        Run.more (state own derived now) t (state own derived section.Other) s.left (state own (derived ++ names) j.0) j.1 (where_turn own derived now said all) s.less (i.3 (state own (derived ++ names) j.0) j.1 j.4),
      )

  -- ---- attributes

  line_ends : {t : Text} {x : Token} {xs zs ys : List Token} {names : Texts} (before ns own : Texts) → ends_section x ≡ false → (all : Tokens t (x ∷ xs))
      → (l : Leaves (step opened all).left (attribute_line opened before (lexed x (step opened all).at) (step opened all).left) (before ++ ns) zs)
      → Ends l.left (state (before ++ ns) [] section.Attributes) ((before ++ ns) ++ own) names ys → Ends t (state before [] section.Attributes) (before ++ (ns ++ own)) names ys
  line_ends {t = t} {names = names} before ns own plain all l j =
      let s = step opened all in
      let less : length l.left < length t = omega (arith, s.less, l.less) in
      as_own (append_assoc before ns own) (
        j.0,
        j.1,
        j.2,
        omega (arith, less, j.3),
        Run.more (state before [] section.Attributes) t (state (before ++ ns) [] section.Attributes) l.left (state ((before ++ ns) ++ own) names j.0) j.1 (line_turn before [] plain all l.gives) less j.4,
      )

  attributes_end : {t : Text} {xs zs ys : List Token} {e : Token} {own names : Texts} (before : Texts) → Attributes xs own zs → Sections zs names (e ∷ ys) → says (codes "END_ENTITY") e ≡ true → Tokens t xs
      → Ends t (state before [] section.Attributes) (before ++ own) names ys
  attributes_end before Attributes.none sections is all = as_own (sym (append-nil before)) (sections_end before [] section.Attributes sections refl is all)
  attributes_end before (Attributes.names {ns = ns} {own = own} plain names type more) sections is all =
      let s = step opened all in
      let l = names_line_leaves opened before s.at names type s.others in
      line_ends before ns own plain all l (attributes_end {t = l.left} (before ++ ns) more sections is l.others)
  attributes_end before (Attributes.redeclared {x = x} {ys = zs} {own = own} said type more) sections is all =
      let s = step opened all in
      let r = redeclared_line_leaves opened before x s.at said type s.others in
      let l : Leaves s.left (attribute_line opened before (lexed x s.at) s.left) (before ++ []) zs =
      record { left = r.left; gives = r.gives ∙ ap (λ (ns : Texts). given ns r.left) (sym (append-nil before)); others = r.others; less = r.less } in
      line_ends before [] own (self_plain x said) all l (attributes_end {t = l.left} (before ++ []) more sections is l.others)

-- an entity's attributes and sections are read, in whatever section they end
pub body_leaves : {t : Text} {xs zs ys : List Token} {e : Token} {own names : Texts} (opened : Text) → Attributes xs own zs → Sections zs names (e ∷ ys) → says (codes "END_ENTITY") e ≡ true → Tokens t xs
    → (now : Section) × Leaves t (body opened t) (state own names now) ys
unfolding body
body_leaves opened attributes sections is all =
    let r = attributes_end opened [] attributes sections is all in
    (r.0, record { left = r.1; gives = all_run Unexpected (body_turn opened) r.4; others = r.2; less = r.3 })
