-- Ascending lists of ids and of keys, each once.
use Rattle.std.specs.Prelude.{ℕ, Bool, ◌==◌, ◌&&◌, ◌||◌, nat_lt, if◌then◌else◌, List, [], ◌∷◌}
use Rattle.ifc_base.specs.declared.key.Key.{Key}
use Rattle.ifc_base.specs.KeyOrder.{key_id, key_rank, key_eq}

abbrev pub insert : ℕ → List ℕ → List ℕ
insert i [] = i ∷ []
insert i (x ∷ xs) = if nat_lt i x then i ∷ x ∷ xs else (if i == x then x ∷ xs else x ∷ insert i xs)

-- an ascending list with these added
abbrev pub union : List ℕ → List ℕ → List ℕ
union xs [] = xs
union xs (y ∷ ys) = union (insert y xs) ys

abbrev pub ascending : List ℕ → List ℕ
ascending ys = union [] ys

-- the key comes before the other
abbrev pub key_lt : Key → Key → Bool
key_lt k l = nat_lt (key_id k) (key_id l) || ((key_id k == key_id l) && nat_lt (key_rank k) (key_rank l))

abbrev pub insert_key : Key → List Key → List Key
insert_key k [] = k ∷ []
insert_key k (x ∷ xs) = if key_lt k x then k ∷ x ∷ xs else (if key_eq k x then x ∷ xs else x ∷ insert_key k xs)

-- an ascending list of keys with these added
abbrev pub with_keys : List Key → List Key → List Key
with_keys ks [] = ks
with_keys ks (l ∷ ls) = with_keys (insert_key l ks) ls

abbrev pub ascending_keys : List Key → List Key
ascending_keys ls = with_keys [] ls
