-- A model: instances in ascending id, each id once.
use Rattle.std.specs.Prelude.{◌≡◌, ℕ, ◌<◌, Bool, false, ◌==◌, nat_lt, if◌then◌else◌, List, [], ◌∷◌, Option, find}
use Rattle.std.specs.List.{list_any}
use Rattle.ifc_base.specs.declared.value.Instance.{Instance}

-- each id is above i
abbrev pub AllAbove : ℕ → List Instance → Type 0
AllAbove i [] = Unit {0}
AllAbove i (x ∷ xs) = (i < x.id) × AllAbove i xs

-- the ids ascend, so each stands once
abbrev pub IsModel : List Instance → Type 0
IsModel [] = Unit {0}
IsModel (x ∷ xs) = AllAbove x.id xs × IsModel xs

-- the instance with this id, or none
abbrev pub instance_at : ℕ → List Instance → Option Instance
instance_at i m = find (λ x. x.id == i) m

-- there is an instance with this id
abbrev pub is_present : ℕ → List Instance → Bool
is_present i m = list_any (λ x. x.id == i) m

-- the model with this instance, whose id is new in it
abbrev pub with_instance : Instance → List Instance → List Instance
with_instance x [] = x ∷ []
with_instance x (y ∷ ys) = if nat_lt x.id y.id then x ∷ y ∷ ys else y ∷ with_instance x ys

-- The model of a file: its instances, ordered by id.
abbrev pub model_of_file : List Instance → List Instance
model_of_file [] = []
model_of_file (x ∷ xs) = with_instance x (model_of_file xs)
