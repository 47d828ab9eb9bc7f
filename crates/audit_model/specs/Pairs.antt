-- The pairs of a model: each specification with each element to which it may apply.
use Rattle.std.specs.Prelude.{◌≡◌, ℕ, ◌+◌, Bool, ◌&&◌, ◌==◌, List, [], ◌∷◌, map, filter, flat_map, if◌then◌else◌}
use Rattle.std.specs.List.{list_all, list_any}
use Rattle.ifc_base.specs.declared.value.Instance.{Instance}
use Rattle.audit_model.specs.declared.specification.Specification.{Specification}
use Rattle.audit_model.specs.declared.verdict.Pair.{Pair}
use Rattle.audit_model.specs.Facets.{admits_entity}

abbrev pub same_pair : Pair → Pair → Bool
same_pair p q = (p.spec == q.spec) && (p.elem == q.elem)

-- the entity facet of the applicability, if there is one, admits an entity of this name
abbrev pub may_apply : Specification → List ℕ → Bool
may_apply q name = list_all (admits_entity name) q.applicability

-- the pairs of one specification, by element; none where it isn't for the model
abbrev pub pairs_of : Specification → List Instance → List Pair
pairs_of q m = if q.for_model then map (λ x. record { spec = q.number; elem = x.id }) (filter (λ x. may_apply q x.entity) m) else []

-- all pairs, by specification and then by element
abbrev pub pairs : List Specification → List Instance → List Pair
pairs specs m = flat_map (λ q. pairs_of q m) specs

abbrev pub is_pair : List Specification → List Instance → Pair → Bool
is_pair specs m p = list_any (λ q. same_pair q p) (pairs specs m)

-- the specifications are numbered by their places, the first being n
abbrev pub NumberedFrom : ℕ → List Specification → Type 0
NumberedFrom n [] = Unit {0}
NumberedFrom n (q ∷ qs) = (q.number ≡ n) × NumberedFrom (n + 1) qs
