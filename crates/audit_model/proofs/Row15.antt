-- Two groups that contain each other: each is an ancestor of itself.
use Rattle.std.proofs.Common.{◌≡◌, ◌≤◌, true, List, [], ◌∷◌, Some, None, refl, codes, lit≤}
use Rattle.ifc_base.specs.declared.key.Role.{Role}
use Rattle.ifc_base.specs.declared.key.Role.TheVariants as role
use Rattle.schema_table.specs.Schema.{is_kind_of, attributes, place_of}
use Rattle.audit_model.specs.declared.facet.Facet.TheVariants.{Entity, PartOf}
use Rattle.audit_model.specs.declared.facet.Relation.TheVariants as relation
use Rattle.audit_model.specs.declared.specification.Cardinality.TheVariants as cardinality
use Rattle.audit_model.specs.declared.specification.Occurs.TheVariants as occurrence
use Rattle.audit_model.specs.declared.specification.Specification.{Specification}
use Rattle.audit_model.specs.declared.verdict.Verdict.TheVariants.{Applicable}
use Rattle.audit_model.specs.Keys.{Sight, sight}
use Rattle.restrictions.specs.Admitting.{admits_text}
use Rattle.audit_model.specs.Closures.{reached, most_after}
use Rattle.audit_model.specs.Paths.{above}
use Rattle.audit_model.specs.Verdicts.{verdict_of}
use Rattle.audit_model.proofs.ClosureLaws.{IsClosed, stays_closed}
use Rattle.audit_model.proofs.Rows.{declared_entities, two_groups, fold_ref, fold_list}
use Rattle.restrictions.specs.declared.condition.Condition.TheVariants.{Simple}

abbrev groups_in_groups : Specification
groups_in_groups = record {
  number = 1;
  for_model = true;
  occurs = occurrence.Optional;
  applicability = Entity (record { name = Simple (codes "IFCGROUP"); predefined = None }) ∷ [];
  requirements = record { facet = PartOf (record { relation = relation.Group; entity = Some (record { name = Simple (codes "IFCGROUP"); predefined = None }) }); cardinality = cardinality.Required } ∷ [];
}

abbrev by_group : List Role
by_group = role.Group ∷ []

seen : Sight
seen = sight declared_entities two_groups

closed : IsClosed (above declared_entities by_group) seen (50 ∷ 51 ∷ [])
unfolding is_kind_of place_of attributes seen
closed = simp (fold_ref, fold_list) refl

first_round : (reached (above declared_entities by_group) 1 (51 ∷ [])).answer seen ≡ 50 ∷ 51 ∷ []
unfolding is_kind_of place_of attributes seen reached
first_round = simp (fold_ref, fold_list) refl

enough : 1 ≤ most_after
unfolding most_after
enough = lit≤ tt

all_rounds : (reached (above declared_entities by_group) most_after (51 ∷ [])).answer seen ≡ 50 ∷ 51 ∷ []
all_rounds = stays_closed (above declared_entities by_group) seen (51 ∷ []) 1 (50 ∷ 51 ∷ []) first_round closed most_after enough

group_in_itself : verdict_of declared_entities groups_in_groups 50 two_groups ≡ Applicable []
unfolding verdict_of is_kind_of place_of attributes admits_text seen
group_in_itself = simp (fold_ref, fold_list, all_rounds) refl
