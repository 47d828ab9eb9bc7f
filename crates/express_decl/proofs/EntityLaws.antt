-- Entities: what is read is of the grammar, and what is of the grammar is read.
use Rattle.std.proofs.Common.{◌≡◌, true, List, ◌∷◌, Ok, refl, sym, ap, subst, arith}
use Rattle.std.specs.Prelude.{codes}
use Rattle.ifc_base.specs.declared.decl.EntityDecl.{EntityDecl}
use Rattle.reading.specs.Reading.{Text}
use Rattle.reading.proofs.Tools.{bound}
use Rattle.express_decl.specs.Tokens.{Token, Word, Sign, says}
use Rattle.express_decl.specs.Steps.{next, word, sign}
use Rattle.express_decl.specs.Entities.{abstract_part, supertype_part, parent_part, body, entity}
use Rattle.express_decl.specs.Lexical.{Tokens}
use Rattle.express_decl.specs.Grammar.{Abstract, Supertype, Subtype, IsEntity}
use Rattle.express_decl.proofs.DeclTools.{same}
use Rattle.express_decl.proofs.StepLaws.{next_sound, step}
use Rattle.express_decl.proofs.PassLaws.{Comes, word_sound, word_comes, sign_sound, sign_comes}
use Rattle.express_decl.proofs.PartLaws.{abstract_sound, supertype_sound, parent_part_sound, abstract_comes, supertype_comes, parent_part_comes, abstract_some}
use Rattle.express_decl.proofs.BodyLaws.{body_sound}
use Rattle.express_decl.proofs.BodyComplete.{body_leaves}

-- behind the word ENTITY
pub entity_sound : (opened t : Text) (y : EntityDecl × Text) {ys : List Token} → entity opened t ≡ Ok y → Tokens y.1 ys → (k : Token) → says (codes "ENTITY") k ≡ true
    → (xs : List Token) × Tokens t xs × IsEntity (k ∷ xs) y.0 ys
unfolding entity
entity_sound opened t y {ys = ys} e rest k is =
    let n = bound {r = word opened t} e in
    let f = bound {r = next opened n.0.1} n.2 in
    let a = bound {r = abstract_part opened f.0.0 f.0.1} f.2 in
    let s = bound {r = supertype_part opened a.0.0.1 a.0.1} a.2 in
    let p = bound {r = parent_part opened s.0.0 s.0.1} s.2 in
    let b = bound {r = body opened p.0.1} p.2 in
    let z = bound {r = sign 59 opened b.0.1} b.2 in
    let one = same z.2 in
    let end : Tokens b.0.1 (Sign 59 ∷ ys) = sign_sound 59 opened b.0.1 z.0 z.1 (subst (λ (v : Text). Tokens v ys) (sym (ap (λ (q : EntityDecl × Text). q.1) one)) rest) in
    let inside = body_sound opened p.0.1 b.0 b.1 end in
    let parent = parent_part_sound opened s.0.0 s.0.1 p.0 p.1 inside.1 in
    let super = supertype_sound opened a.0.0.1 a.0.1 s.0 s.1 parent.1 in
    let abstract_ = abstract_sound opened f.0.0 f.0.1 a.0 a.1 super.1 in
    let name = word_sound opened t n.0.0 n.0.1 n.1 (next_sound opened n.0.1 f.0 f.1 abstract_.1) in
    let found = IsEntity.entity {n = n.0.0} is abstract_.2 super.2 parent.2 inside.2.attributes inside.2.sections inside.2.ends in
    (Word n.0.0 ∷ f.0.0.token ∷ abstract_.0, name, subst (λ (q : EntityDecl). IsEntity (k ∷ Word n.0.0 ∷ f.0.0.token ∷ abstract_.0) q ys) (ap (λ (q : EntityDecl × Text). q.0) one) found)

pub entity_comes : {t : Text} {k : Token} {xs ys : List Token} {e : EntityDecl} (opened : Text) → IsEntity (k ∷ xs) e ys → Tokens t xs → (says (codes "ENTITY") k ≡ true) × Comes t (entity opened t) e ys
unfolding entity
entity_comes opened (IsEntity.entity {ys = ys} {zs = zs} {vs = vs} {is_abstract = is_abstract} {parent = parent} is a super sub own sections ends) all =
    let n = word_comes opened all in
    let some = abstract_some a super sub in
    let f = step opened (subst (λ (us : List Token). Tokens n.left us) some.2 n.others) in
    let told = abstract_comes opened f.at (subst (λ (us : List Token). Abstract us is_abstract ys) some.2 a) super sub f.others in
    let sup = supertype_comes opened told.at (subst (λ (us : List Token). Supertype us zs) told.is super) sub told.others in
    let par = parent_part_comes opened sup.at (subst (λ (us : List Token). Subtype us parent vs) sup.is sub) sup.others in
    let b = body_leaves opened own sections ends par.others in
    let z = sign_comes 59 opened b.1.others in (
      is,
      record {
        left = z.left;
        gives = rw (n.gives, f.read, told.gives, sup.gives, par.gives, b.1.gives, z.gives) refl;
        others = z.others;
        less = omega (arith, n.less, f.less, told.less, sup.less, par.less, b.1.less, z.less);
      },
    )
