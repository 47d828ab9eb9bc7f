-- What is asked of a list of specifications (IDS 1.0).
use Rattle.std.specs.Prelude.{◌≡◌, ℕ, ◌≤◌, Bool, true, false, not, ◌&&◌, List, [], ◌∷◌, length, count_by}
use Rattle.std.specs.List.{list_all}
use Rattle.audit_model.specs.declared.facet.Facet.{Facet}
use Rattle.audit_model.specs.declared.facet.Facet.TheVariants.{Entity, PartOf}
use Rattle.audit_model.specs.declared.specification.Cardinality.{Cardinality}
use Rattle.audit_model.specs.declared.specification.Cardinality.TheVariants.{Required, Optional, Prohibited}
use Rattle.audit_model.specs.declared.specification.Requirement.{Requirement}
use Rattle.audit_model.specs.declared.specification.Specification.{Specification}
use Rattle.audit_model.specs.Pairs.{NumberedFrom}

abbrev pub is_entity : Facet → Bool
is_entity (Entity f) = true
is_entity _ = false

abbrev pub is_required : Cardinality → Bool
is_required Required = true
is_required Optional = false
is_required Prohibited = false

abbrev pub is_optional : Cardinality → Bool
is_optional Optional = true
is_optional Required = false
is_optional Prohibited = false

-- An entity facet is asked for as required, and a partOf facet not as optional (IDS 1.0, cardinality of a facet).
abbrev pub may_be_asked : Facet → Cardinality → Bool
may_be_asked (Entity f) cardinality = is_required cardinality
may_be_asked (PartOf f) cardinality = not (is_optional cardinality)
may_be_asked _ cardinality = true

-- A specification has at most 64 facets on each side, at most one entity facet in its applicability, and each facet of its requirements
-- has a cardinality that its kind may have.
pub record IsSpecification (q : Specification) : Type 0 where
  pub few_facets : length q.applicability ≤ 64
  pub few_requirements : length q.requirements ≤ 64
  pub one_entity : count_by is_entity q.applicability ≤ 1
  pub cardinalities : list_all (λ r. may_be_asked r.facet r.cardinality) q.requirements ≡ true

abbrev pub EachIsSpecification : List Specification → Type 0
EachIsSpecification [] = Unit {0}
EachIsSpecification (q ∷ qs) = IsSpecification q × EachIsSpecification qs

-- They are numbered by their places from 1, there are at most 1,000, and each is a specification.
pub record AreSpecifications (specs : List Specification) : Type 0 where
  pub numbered : NumberedFrom 1 specs
  pub few : length specs ≤ 1000
  pub each : EachIsSpecification specs
