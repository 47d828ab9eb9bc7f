-- An element's own property hides that of its type; and the new relationship that brings it is among what the verdict needed.
use Rattle.std.proofs.Common.{◌≡◌, true, false, List, [], ◌∷◌, Some, None, refl, ap, ◌∙◌, codes}
use Rattle.std.specs.List.{list_any}
use Rattle.std.proofs.lemmas.Bool.{and_right}
use Rattle.ifc_base.specs.declared.value.Instance.{Instance}
use Rattle.ifc_base.specs.declared.key.Key.TheVariants.{Refs}
use Rattle.ifc_base.specs.declared.key.Role.TheVariants as role
use Rattle.schema_table.specs.Schema.{is_kind_of, attributes, place_of}
use Rattle.audit_model.specs.declared.facet.Facet.{Facet}
use Rattle.audit_model.specs.declared.facet.Facet.TheVariants.{Entity, Property}
use Rattle.audit_model.specs.declared.specification.Cardinality.TheVariants as cardinality
use Rattle.audit_model.specs.declared.specification.Occurs.TheVariants as occurrence
use Rattle.audit_model.specs.declared.specification.Specification.{Specification}
use Rattle.audit_model.specs.declared.verdict.Verdict.TheVariants.{Applicable}
use Rattle.audit_model.specs.Models.{with_instance, instance_at}
use Rattle.audit_model.specs.Keys.{sight, changes}
use Rattle.restrictions.specs.Admitting.{admits, admits_text}
use Rattle.audit_model.specs.Verdicts.{verdict_of, weigh, numbers_of_false}
use Rattle.audit_model.specs.Needs.{need}
use Rattle.ifc_base.specs.KeyOrder.{key_eq}
use Rattle.audit_model.proofs.NeedLaws.{needs_are_looked_at}
use Rattle.audit_model.proofs.Rows.{declared_properties, rated_wall, own_rating, fold_text, fold_ref, fold_absent, fold_list, fold_typed, keyword_typed}
use Rattle.restrictions.specs.declared.condition.Condition.TheVariants.{Simple}

abbrev pub rating : Facet
rating = Property (record { set = Simple (codes "Pset_WallCommon"); base_name = Simple (codes "FireRating"); kind = Some (codes "IFCLABEL"); value = Some (Simple (codes "REI60")) })

abbrev pub rated_walls : Specification
rated_walls = record {
  number = 1;
  for_model = true;
  occurs = occurrence.Optional;
  applicability = Entity (record { name = Simple (codes "IFCWALL"); predefined = None }) ∷ [];
  requirements = record { facet = rating; cardinality = cardinality.Required } ∷ [];
}

abbrev pub with_all : List Instance → List Instance → List Instance
with_all [] m = m
with_all (x ∷ xs) m = with_all xs (with_instance x m)

abbrev pub after : List Instance
after = with_all own_rating rated_wall

-- the type's property reaches both walls
first_wall_before : verdict_of declared_properties rated_walls 10 rated_wall ≡ Applicable []
unfolding verdict_of is_kind_of place_of attributes admits_text admits
first_wall_before = simp (fold_text, fold_ref, fold_absent, fold_list, fold_typed, keyword_typed) refl

hidden : ((weigh declared_properties rating 10).answer (sight declared_properties after)).holds ≡ false
unfolding is_kind_of place_of attributes admits_text admits
hidden = simp (fold_text, fold_ref, fold_list, fold_typed, keyword_typed) (and_right _ false refl)

-- the own one reaches the first wall alone
first_wall_after : verdict_of declared_properties rated_walls 10 after ≡ Applicable (1 ∷ [])
unfolding verdict_of admits_text
first_wall_after = ap (λ holds. Applicable (numbers_of_false 1 (holds ∷ []))) hidden

-- The new relationship changes a key that the verdict needed, and no instance that it looked at.

pub relationship_is_new : changes declared_properties rated_wall after (Refs 10 role.Properties) ≡ true
unfolding changes is_kind_of place_of attributes
relationship_is_new = simp (fold_ref, fold_list) refl

same_instances : (instance_at 10 after ≡ instance_at 10 rated_wall) × (instance_at 12 after ≡ instance_at 12 rated_wall) × (instance_at 13 after ≡ instance_at 13 rated_wall) × (instance_at 20 after ≡ instance_at 20 rated_wall) × (instance_at 21 after ≡ instance_at 21 rated_wall)
same_instances = (refl, refl, refl, refl, refl)

relationships_are_needed : list_any (λ k. key_eq k (Refs 10 role.Properties)) (need declared_properties (rated_walls ∷ []) (record { spec = 1; elem = 10 }) rated_wall) ≡ true
unfolding admits_text
relationships_are_needed = needs_are_looked_at declared_properties (rated_walls ∷ []) (record { spec = 1; elem = 10 }) rated_wall (Refs 10 role.Properties) ∙ refl
