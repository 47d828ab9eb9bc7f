-- Which keys the change of one instance changes.
use Rattle.std.specs.Prelude.{◌≡◌, ℕ, Bool, not, ◌&&◌, ◌||◌, List, Option}
use Rattle.std.specs.List.Sorted.{IsStrictlySortedBy}
use Rattle.ifc_base.specs.declared.value.Instance.{Instance}
use Rattle.ifc_base.specs.declared.key.Key.{Key}
use Rattle.ifc_base.specs.declared.key.Key.TheVariants.{Inst}
use Rattle.ifc_base.specs.KeyOrder.{key_cmp, key_eq}
use Rattle.audit_model.specs.Models.{IsModel, instance_at}
use Rattle.audit_model.specs.Keys.{changes, same_place}
use Rattle.schema_table.specs.Schema.{Schema}
use Rattle.inverse_index.specs.Index.{has_key, replaced, stands}

-- Where `new` takes the place of `old` at the id n: the key of n, if the two differ, and each key in which exactly one of the two stands.
unfoldable pub changed_at : Schema → ℕ → Option Instance → Option Instance → Key → Bool
changed_at s n old new k = key_eq (Inst n) k && not (same_place old new) || (stands s old k && not (stands s new k) || stands s new k && not (stands s old k))

-- in whatever model has `old` at the id n, these are the keys whose contents are others with `new` there
abbrev pub AreChanged : Schema → ℕ → Option Instance → Option Instance → List Key → Type 0
AreChanged s n old new ks = (m : List Instance) → IsModel m → instance_at n m ≡ old → (k : Key) → has_key ks k ≡ changes s m (replaced n new m) k

-- ascending by id, the key of the instance itself first and then the roles in their order, and each once
abbrev pub KeysAscend : List Key → Type 0
KeysAscend ks = IsStrictlySortedBy key_cmp ks
