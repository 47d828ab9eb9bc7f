-- What is known of the ids of the instances of a file while it is read.
use Rattle.std.specs.Prelude.{◌≡◌, ◌≤◌, ◌==◌, ℕ, Bool, true, false, List, [], ◌∷◌}
use Rattle.std.specs.List.{list_any}
use Rattle.ifc_base.specs.declared.value.Instance.{Instance}
use Rattle.ifc_base.specs.Ids.{has_id}

-- no id of the instances is greater than this
abbrev pub AreUpTo : ℕ → List Instance → Type 0
AreUpTo last [] = Unit {0}
AreUpTo last (x ∷ xs) = (x.id ≤ last) × AreUpTo last xs

-- While the ids ascend it is the last one that none exceeds; else it is all of them.
abbrev pub AreKnown : Bool → ℕ → List ℕ → List Instance → Type 0
AreKnown true last keys xs = AreUpTo last xs
AreKnown false last keys xs = (n : ℕ) → list_any (◌==◌ n) keys ≡ has_id n xs
