-- The pairs of a specification as one filter of the instances, whether or not it is for the model.
use Rattle.std.proofs.Common.{◌≡◌, Bool, true, false, ◌&&◌, if◌then◌else◌, List, [], ◌∷◌, ◌++◌, map, filter, refl}
use Rattle.std.specs.List.{flat_map}
use Rattle.ifc_base.specs.declared.value.Instance.{Instance}
use Rattle.audit_model.specs.declared.verdict.Pair.{Pair}
use Rattle.audit_model.specs.declared.specification.Specification.{Specification}
use Rattle.audit_model.specs.Pairs.{pairs, pairs_of, may_apply}

-- the specification makes a pair with this instance
abbrev pub makes : Specification → Instance → Bool
makes q x = q.for_model && may_apply q x.entity

abbrev pub pair_with : Specification → Instance → Pair
pair_with q x = record { spec = q.number; elem = x.id }

abbrev pub made_of : Specification → List Instance → List Pair
made_of q m = map (pair_with q) (filter (makes q) m)

abbrev pub all_made : List Specification → List Instance → List Pair
all_made specs m = flat_map (λ q. made_of q m) specs

none_kept : (m : List Instance) → [] ≡ filter (λ x. false) m
none_kept [] = refl
none_kept (x ∷ xs) = none_kept xs

pub pairs_of_made : (q : Specification) (m : List Instance) → pairs_of q m ≡ made_of q m
pairs_of_made q m =
    let F : Bool → Type 0 = λ b. (if b then map (pair_with q) (filter (λ x. may_apply q x.entity) m) else []) ≡ map (pair_with q) (filter (λ x. b && may_apply q x.entity) m) in
    elim q.for_model as F [ true ↦ refl | false ↦ λ i. map (pair_with q) (none_kept m i) ]

pub pairs_made : (specs : List Specification) (m : List Instance) → pairs specs m ≡ all_made specs m
pairs_made [] m = refl
pairs_made (q ∷ qs) m = λ i. pairs_of_made q m i ++ pairs_made qs m i
