-- Where a commit keeps every key that the verdict on a pair needs, the element, the verdict and its needs stay. This is all that the
-- laws of histories know of facets.
use Rattle.std.proofs.Common.{◌≡◌, true, not, List, [], ◌∷◌, refl, ap, sym, Option, Some, None}
use Rattle.std.specs.Cmp.{unsigned_Decides}
use Rattle.std.specs.Cmp.Lexicographic.{pointwise_decides}
use Rattle.std.proofs.lemmas.Bool.{and_parts, not-true, not-false, false≢true}
use Rattle.ifc_base.specs.declared.value.Instance.{Instance}
use Rattle.ifc_base.specs.declared.key.Key.{Key}
use Rattle.ifc_base.specs.declared.key.Key.TheVariants.{Inst, Refs}
use Rattle.ifc_base.specs.Same.{instance_eq-Decides}
use Rattle.schema_table.specs.Schema.{Schema}
use Rattle.schema_table.specs.Relationships.{referrers}
use Rattle.audit_model.specs.declared.specification.Specification.{Specification}
use Rattle.audit_model.specs.declared.verdict.Pair.{Pair}
use Rattle.audit_model.specs.Models.{instance_at}
use Rattle.audit_model.specs.Keys.{sight, changes, keeps_all, same_place}
use Rattle.audit_model.specs.Agree.{SameContent, AgreeOn}
use Rattle.audit_model.specs.Needs.{need}
use Rattle.audit_model.specs.FacetLaws.{NeedsCoverVerdict}
use Rattle.audit_model.proofs.NeedLaws.{needs_are_enough}

same_place-true : (a b : Option Instance) → same_place a b ≡ true → a ≡ b
same_place-true None None e = refl
same_place-true None (Some y) e = absurd (false≢true e)
same_place-true (Some x) None e = absurd (false≢true e)
same_place-true (Some x) (Some y) e = ap (λ (z : Instance). Some z) ((instance_eq-Decides x y).0 e)

pub same_place-refl : (a : Option Instance) → same_place a a ≡ true
same_place-refl None = refl
same_place-refl (Some x) = (instance_eq-Decides x x).1 refl

-- a key that isn't changed has the same content
pub kept_content : (s : Schema) (m n : List Instance) (k : Key) → not (changes s m n k) ≡ true → SameContent (sight s m) (sight s n) k
unfolding changes
kept_content s m n (Inst id) e = same_place-true _ _ (not-false _ (not-true _ e))
kept_content s m n (Refs id role) e = (pointwise_decides unsigned_Decides (referrers s m id role) (referrers s n id role)).0 (not-false _ (not-true _ e))

kept_all : (s : Schema) (m n : List Instance) (ks : List Key) → keeps_all s m n ks ≡ true → AgreeOn (sight s m) (sight s n) ks
kept_all s m n [] e = tt
kept_all s m n (k ∷ ks) e = let h = and_parts _ _ e in (kept_content s m n k h.0, kept_all s m n ks h.1)

pub stays : NeedsCoverVerdict
stays s specs p m n e = needs_are_enough s specs p m n (kept_all s m n (need s specs p m) e)

-- the element is the same
pub same_at : (s : Schema) (specs : List Specification) (p : Pair) (m n : List Instance) → keeps_all s m n (need s specs p m) ≡ true → instance_at p.elem m ≡ instance_at p.elem n
same_at s specs p m n e = sym (stays s specs p m n e).element_stays
