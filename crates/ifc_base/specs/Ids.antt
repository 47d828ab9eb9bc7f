-- The ids of instances in a list.
use Rattle.std.specs.Prelude.{◌≡◌, ℕ, Bool, false, ◌==◌, List, [], ◌∷◌}
use Rattle.std.specs.List.{list_any}
use Rattle.ifc_base.specs.declared.value.Instance.{Instance}

-- one of the instances has this id
abbrev pub has_id : ℕ → List Instance → Bool
has_id n xs = list_any (λ (x : Instance). n == x.id) xs

-- no id stands twice, in whatever order (ISO 10303-21: an entity instance name is unique in its file)
abbrev pub HasDistinctIds : List Instance → Type 0
HasDistinctIds [] = Unit {0}
HasDistinctIds (x ∷ xs) = (has_id x.id xs ≡ false) × HasDistinctIds xs
