-- Equality of values and of instances: tests that are true exactly where the two are equal.
use Rattle.std.specs.Prelude.{◌≡◌, ◌==◌, Bool, true, false, ◌&&◌, refl}
use Rattle.std.specs.Bool.{Decides, one_answer}
use Rattle.std.specs.Cmp.{IsEquivalence, unsigned_Decides}
use Rattle.std.proofs.Common.{ap, sym}
use Rattle.std.specs.Cmp.Lexicographic.{pointwise, pointwise_decides}
use Rattle.std.specs.Str.{bytes_eq}
use Rattle.std.proofs.lemmas.Slice.Eq.{bytes_eq-Decides}
use Rattle.ifc_base.specs.declared.value.Instance.{Instance}
use base.Stored.{Gv, gnil, gnum, gcons}
use Rattle.ifc_base.specs.declared.value.Value.{Value}
use Rattle.ifc_base.specs.contracts.value.Value.{the_row}

-- a test of the codes by which a proof tells values apart
unfoldable pub same_code : Gv → Gv → Bool
same_code gnil gnil = true
same_code gnil (gnum n) = false
same_code gnil (gcons b d) = false
same_code (gnum m) gnil = false
same_code (gnum m) (gnum n) = m == n
same_code (gnum m) (gcons b d) = false
same_code (gcons a c) gnil = false
same_code (gcons a c) (gnum n) = false
same_code (gcons a c) (gcons b d) = same_code a b && same_code c d

-- two tests together decide what each decides
pub both-Decides : {P Q : Type 0} (p q : Bool) → Decides p P → Decides q Q → Decides (p && q) (P × Q)
both-Decides true true h k = (λ e. (h.0 e, k.0 e), λ e. refl)
both-Decides true false h k = (λ e. absurd (cc), λ e. k.1 e.1)
both-Decides false q h k = (λ e. absurd (cc), λ e. absurd (let l = h.1 e.0 in cc))

-- codes are equal exactly where the test says so
same_code-Decides : (a b : Gv) → Decides (same_code a b) (a ≡ b)
unfolding same_code
same_code-Decides gnil gnil = (λ e. refl, λ e. refl)
same_code-Decides gnil (gnum n) = (λ e. cc, λ e. cc)
same_code-Decides gnil (gcons b d) = (λ e. cc, λ e. cc)
same_code-Decides (gnum m) gnil = (λ e. cc, λ e. cc)
same_code-Decides (gnum m) (gnum n) = (λ e. ap gnum ((unsigned_Decides m n).0 e), λ e. (unsigned_Decides m n).1 (cc))
same_code-Decides (gnum m) (gcons b d) = (λ e. cc, λ e. cc)
same_code-Decides (gcons a c) gnil = (λ e. cc, λ e. cc)
same_code-Decides (gcons a c) (gnum n) = (λ e. cc, λ e. cc)
same_code-Decides (gcons a c) (gcons b d) =
    let both = both-Decides (same_code a b) (same_code c d) (same_code-Decides a b) (same_code-Decides c d) in
    (λ e. let p = both.0 e in let first : a ≡ b = p.0 in let second : c ≡ d = p.1 in cc, λ e. both.1 (cc, cc))

-- whether the two are one tree
unfoldable pub value_eq : Value → Value → Bool
value_eq x y = same_code (the_row.coded.code x) (the_row.coded.code y)

-- `value_eq` is true exactly where the two values are equal
pub value_eq-Decides : (x y : Value) → Decides (value_eq x y) (x ≡ y)
unfolding value_eq
value_eq-Decides x y =
    let codes = same_code-Decides (the_row.coded.code x) (the_row.coded.code y) in
    (λ e. the_row.coded.inj x y (codes.0 e), λ e. codes.1 (ap the_row.coded.code e))

-- a test that is true exactly where the two are one is an equivalence
pub equivalence_from_decides : {K : Type 0} (eq : K → K → Bool) → ((x y : K) → Decides (eq x y) (x ≡ y)) → IsEquivalence eq
equivalence_from_decides eq same = record {
  refl = λ x. (same x x).1 refl;
  symm = λ x y. one_answer {P = x ≡ y} (eq x y) (eq y x) (same x y) (λ e. sym ((same y x).0 e), λ e. (same y x).1 (sym e));
  congr = λ x y z e. ap (λ w. eq w z) ((same x y).0 e);
}

-- so it is an equivalence
pub value_eq-equiv : IsEquivalence value_eq
value_eq-equiv = equivalence_from_decides value_eq value_eq-Decides

-- whether two instances have the same id, entity and parameters
abbrev pub instance_eq : Instance → Instance → Bool
instance_eq x y = x.id == y.id && (bytes_eq x.entity y.entity && pointwise value_eq x.params y.params)

-- `instance_eq` is true exactly where the two instances are equal
pub instance_eq-Decides : (x y : Instance) → Decides (instance_eq x y) (x ≡ y)
instance_eq-Decides x y =
    let names = both-Decides (bytes_eq x.entity y.entity) (pointwise value_eq x.params y.params)
    (bytes_eq-Decides x.entity y.entity) (pointwise_decides value_eq-Decides x.params y.params) in
    let all = both-Decides (x.id == y.id) (bytes_eq x.entity y.entity && pointwise value_eq x.params y.params) (unsigned_Decides x.id y.id) names in (
      λ e i. record { id = (all.0 e).0 i; entity = (all.0 e).1.0 i; params = (all.0 e).1.1 i },
      λ e. all.1 (ap (λ z. z.id) e, (ap (λ z. z.entity) e, ap (λ z. z.params) e)),
    )

-- so it is an equivalence
pub instance_eq-equiv : IsEquivalence instance_eq
instance_eq-equiv = equivalence_from_decides instance_eq instance_eq-Decides
