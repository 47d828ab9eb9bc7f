-- A tree of instances by their ids, and the model that it holds.
use Rattle.std.specs.Prelude.{◌≡◌, ℕ, List, Some, map}
use Rattle.std.specs.Ordering.{nat_cmp}
use Rattle.std.specs.FinMap.{FinMap, get, entries}
use Rattle.ifc_base.specs.declared.value.Instance.{Instance}
use Rattle.inverse_index.specs.Index.{ListsHolders}

-- what stands under a number has this number as its id
abbrev pub IsById : FinMap nat_cmp Instance → Type 0
IsById t = (k : ℕ) (x : Instance) → get t k ≡ Some x → x.id ≡ k

-- the instances in ascending id
unfoldable pub model_of : FinMap nat_cmp Instance → List Instance
model_of t = map (λ (e : ℕ × Instance). e.1) (entries t)

-- the instances beside their ids
abbrev pub beside_ids : List Instance → List (ℕ × Instance)
beside_ids xs = map (λ (x : Instance). (x.id, x)) xs

-- the tree is by id, and the lists have the holders of its model
pub record IsWhole (t : FinMap nat_cmp Instance) (lists : FinMap nat_cmp (List ℕ)) : Type 0 where
  pub by_id : IsById t
  pub holders : ListsHolders (model_of t) lists
