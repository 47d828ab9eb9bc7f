-- All that the verdict on a wall needs where its type's property is asked for; and which of these keys a new relationship changes.
use Rattle.std.proofs.Common.{◌≡◌, ℕ, true, false, not, ◌&&◌, cond, List, [], ◌∷◌, ◌++◌, flat_map, Some, refl, ap, find, codes, ◌∙◌}
use Rattle.ifc_base.specs.declared.value.Instance.{Instance}
use Rattle.ifc_base.specs.declared.key.Key.{Key}
use Rattle.ifc_base.specs.declared.key.Key.TheVariants.{Inst, Refs}
use Rattle.ifc_base.specs.declared.key.Role.TheVariants as role
use Rattle.schema_table.specs.Schema.{is_kind_of, attributes, place_of}
use Rattle.audit_model.specs.declared.verdict.Pair.{Pair}
use Rattle.audit_model.specs.Models.{instance_at}
use Rattle.audit_model.specs.Keys.{Sight, sight, changes}
use Rattle.audit_model.specs.Ascending.{ascending_keys}
use Rattle.restrictions.specs.Admitting.{admits_text}
use Rattle.restrictions.specs.declared.condition.Condition.TheVariants.{Simple}
use Rattle.audit_model.specs.Hops.{relating_things, references_in}
use Rattle.audit_model.specs.Paths.{types, property_path, set_path}
use Rattle.std.specs.Option.{option_map_or}
use Rattle.schema_table.specs.Schema.{Schema}
use Rattle.audit_model.specs.declared.specification.Specification.{Specification}
use Rattle.audit_model.specs.Verdicts.{assess, assess_pair, assess_when}
use Rattle.audit_model.specs.Needs.{need}
use Rattle.audit_model.proofs.Rows.{declared_properties, rated_wall, fold_ref, fold_list}
use Rattle.audit_model.proofs.Frame.{same_place-refl}
use Rattle.audit_model.proofs.Row4.{rated_walls, after, relationship_is_new}

seen : Sight
seen = sight declared_properties rated_wall

-- what is seen from the wall

no_own_sets : seen.referrers 10 role.Properties ≡ []
unfolding seen is_kind_of
no_own_sets = refl

no_sets_of_its_own : references_in declared_properties (seen.instance 10) (codes "HasPropertySets") ≡ []
unfolding seen place_of attributes
no_sets_of_its_own = refl

by_type : seen.referrers 10 role.Kind ≡ 13 ∷ []
unfolding seen is_kind_of place_of attributes
by_type = simp (fold_ref, fold_list) refl

to_type : references_in declared_properties (seen.instance 13) (codes "RelatingType") ≡ 12 ∷ []
unfolding seen place_of attributes
to_type = simp fold_ref refl

to_sets : references_in declared_properties (seen.instance 12) (codes "HasPropertySets") ≡ 20 ∷ []
unfolding seen place_of attributes
to_sets = simp (fold_ref, fold_list) refl

to_properties : references_in declared_properties (seen.instance 20) (codes "HasProperties") ≡ 21 ∷ 22 ∷ []
unfolding seen place_of attributes
to_properties = simp (fold_ref, fold_list) refl

to_quantities : references_in declared_properties (seen.instance 20) (codes "Quantities") ≡ []
unfolding seen place_of attributes
to_quantities = refl

applies : admits_text (Simple (codes "IFCWALL")) (codes "IFCWALL") ≡ true
unfolding admits_text
applies = refl

-- the keys along each part of the path

abbrev references_from : List ℕ → List ℕ → List ℕ
references_from attr ids = flat_map (λ n. references_in declared_properties (seen.instance n) attr) ids

own_keys : (relating_things declared_properties role.Properties 10).keys seen ≡ Inst 10 ∷ Refs 10 role.Properties ∷ []
own_keys = λ i. Inst 10 ∷ Refs 10 role.Properties ∷ (flat_map (λ (n : ℕ). Inst n ∷ []) (no_own_sets i ++ []) ++ (flat_map (λ (n : ℕ). Inst n ∷ []) (references_from (codes "RelatingPropertyDefinition") (no_own_sets i ++ [])) ++ []))

own_ids : (relating_things declared_properties role.Properties 10).answer seen ≡ []
own_ids = λ i. references_from (codes "RelatingPropertyDefinition") (no_own_sets i ++ [])

types_ids : (types declared_properties 10).answer seen ≡ 12 ∷ []
types_ids = (λ i. references_from (codes "RelatingType") (by_type i ++ [])) ∙ (λ i. to_type i ++ [])

types_keys : (types declared_properties 10).keys seen ≡ Inst 10 ∷ Refs 10 role.Kind ∷ Inst 13 ∷ Inst 12 ∷ []
types_keys = λ i. Inst 10 ∷ Refs 10 role.Kind ∷ (flat_map (λ (n : ℕ). Inst n ∷ []) (by_type i ++ []) ++ (flat_map (λ (n : ℕ). Inst n ∷ []) (types_ids i) ++ []))

set_keys : (set_path declared_properties 20).keys seen ≡ Inst 20 ∷ Inst 21 ∷ Inst 22 ∷ []
set_keys = λ i. Inst 20 ∷ (flat_map (λ (n : ℕ). Inst n ∷ []) (to_properties i ++ to_quantities i) ++ [])

path_keys : (property_path declared_properties 10).keys seen ≡ Inst 10 ∷ Inst 10 ∷ Refs 10 role.Properties ∷ Inst 10 ∷ Refs 10 role.Kind ∷ Inst 13 ∷ Inst 12 ∷ Inst 12 ∷ Inst 20 ∷ Inst 21 ∷ Inst 22 ∷ []
path_keys =
    (λ i. Inst 10 ∷ (own_keys i ++ (flat_map (λ n. (set_path declared_properties n).keys seen) (own_ids i ++ no_sets_of_its_own i)
    ++ (types_keys i ++ (flat_map (λ (n : ℕ). Inst n ∷ []) (types_ids i) ++ (flat_map (λ n. (set_path declared_properties n).keys seen) (references_from (codes "HasPropertySets") (types_ids i)) ++ []))))))
    ∙ (λ i. Inst 10 ∷ Inst 10 ∷ Refs 10 role.Properties ∷ Inst 10 ∷ Refs 10 role.Kind ∷ Inst 13 ∷ Inst 12 ∷ Inst 12 ∷ (flat_map (λ n. (set_path declared_properties n).keys seen) (to_sets i ++ []) ++ []))
    ∙ (λ i. Inst 10 ∷ Inst 10 ∷ Refs 10 role.Properties ∷ Inst 10 ∷ Refs 10 role.Kind ∷ Inst 13 ∷ Inst 12 ∷ Inst 12 ∷ ((set_keys i ++ []) ++ []))

-- the specification is for the wall
is_wall : option_map_or (λ x. admits_text (Simple (codes "IFCWALL")) x.entity) (seen.instance 10) false ≡ true
unfolding seen admits_text
is_wall = refl

abbrev looked_at : List Key
looked_at = Inst 10 ∷ Inst 10 ∷ Inst 10 ∷ Inst 10 ∷ Refs 10 role.Properties ∷ Inst 10 ∷ Refs 10 role.Kind ∷ Inst 13 ∷ Inst 12 ∷ Inst 12 ∷ Inst 20 ∷ Inst 21 ∷ Inst 22 ∷ []

all_keys : (assess declared_properties rated_walls 10).keys seen ≡ looked_at
all_keys =
    (λ i. Inst 10 ∷ Inst 10 ∷ (assess_when declared_properties ((is_wall i && true) && true) rated_walls 10).keys seen)
    ∙ (λ i. Inst 10 ∷ Inst 10 ∷ ((((path_keys i ++ []) ++ []) ++ []) ++ []))

need_from : (s : Schema) (specs : List Specification) (p : Pair) (m : List Instance) (ks : List Key) → (assess_pair s specs p).keys (sight s m) ≡ ks → need s specs p m ≡ ascending_keys ks
unfolding need
need_from s specs p m ks e = ap ascending_keys e

keys_of_pair : (assess_pair declared_properties (rated_walls ∷ []) (record { spec = 1; elem = 10 })).keys (sight declared_properties rated_wall) ≡ looked_at
unfolding seen
keys_of_pair = all_keys

abbrev needed : List Key
needed = Inst 10 ∷ Refs 10 role.Properties ∷ Refs 10 role.Kind ∷ Inst 12 ∷ Inst 13 ∷ Inst 20 ∷ Inst 21 ∷ Inst 22 ∷ []

need_is : need declared_properties (rated_walls ∷ []) (record { spec = 1; elem = 10 }) rated_wall ≡ needed
need_is = need_from declared_properties (rated_walls ∷ []) (record { spec = 1; elem = 10 }) rated_wall looked_at keys_of_pair

-- A delivery after that commit is stale by the new relationship, though no instance that was looked at has changed.

wall_is_kept : changes declared_properties rated_wall after (Inst 10) ≡ false
unfolding changes
wall_is_kept = ap not (same_place-refl (instance_at 10 rated_wall))

least_changed : find (changes declared_properties rated_wall after) needed ≡ Some (Refs 10 role.Properties)
least_changed = λ i. cond (wall_is_kept i) (Some (Inst 10)) (cond (relationship_is_new i) (Some (Refs 10 role.Properties)) (find (changes declared_properties rated_wall after) (Refs 10 role.Kind ∷ Inst 12 ∷ Inst 13 ∷ Inst 20 ∷ Inst 21 ∷ Inst 22 ∷ [])))
