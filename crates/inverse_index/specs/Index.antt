-- The index of a model under a schema: for each id the instances that hold a reference to it, and for each id and role those that
-- refer to the id by the role (ISO 16739-1, IFC4, relationship entities).
use Rattle.std.specs.Prelude.{◌≡◌, ℕ, Bool, ◌==◌, List, [], ◌++◌, Option, Some, None, map, flat_map, if◌then◌else◌, unwrap_or}
use Rattle.std.specs.List.{list_any}
use Rattle.std.specs.Option.{option_map}
use Rattle.std.specs.Ordering.{nat_cmp}
use Rattle.std.specs.FinMap.{FinMap, get}
use Rattle.ifc_base.specs.declared.value.Instance.{Instance}
use Rattle.ifc_base.specs.declared.key.Key.{Key}
use Rattle.ifc_base.specs.declared.key.Key.TheVariants.{Inst, Refs}
use Rattle.ifc_base.specs.declared.key.Role.{Role}
use Rattle.ifc_base.specs.KeyOrder.{key_eq}
use Rattle.schema_table.specs.declared.relation.Relation.{Relation}
use Rattle.schema_table.specs.Schema.{Schema, is_kind_of}
use Rattle.schema_table.specs.Relationships.{references_at, relations, referrers}
use Rattle.audit_model.specs.Models.{IsModel, instance_at, with_instance}
use Rattle.audit_model.specs.Edits.{without_instance}
use Rattle.audit_model.specs.Judging.{references}
use Rattle.audit_model.specs.Keys.{holders}
use Rattle.inverse_index.specs.Numbers.{key_number}
use Rattle.inverse_index.specs.Lists.{moved_id}

-- In which lists an instance stands.

-- the key is one of these
abbrev pub has_key : List Key → Key → Bool
has_key ks k = list_any (λ j. key_eq j k) ks

-- the keys of referrers in which x stands by one relationship: those of the ids that its related attribute refers to, where x is a
-- kind of the relationship entity
abbrev pub keys_by : Schema → Instance → Relation → List Key
keys_by s x rel = if is_kind_of s x.entity rel.entity then map (λ i. Refs i rel.role) (references_at x.params rel.place) else []

-- the keys of referrers in which the instance stands, if there is one, by all relationships that the schema has
abbrev pub refs_keys : Schema → Option Instance → List Key
refs_keys s None = []
refs_keys s (Some x) = flat_map (keys_by s x) (relations s)

-- the instance, if there is one, is among the referrers of the key
unfoldable pub stands : Schema → Option Instance → Key → Bool
stands s o k = has_key (refs_keys s o) k

-- x holds a reference to the id, anywhere within its parameters
abbrev pub holds : ℕ → Instance → Bool
holds id x = list_any (λ to. to == id) (references x)

-- the ids to which the instance, if there is one, holds a reference, each as the key of that id itself
abbrev pub held_keys : Option Instance → List Key
held_keys None = []
held_keys (Some x) = map (λ i. Inst i) (references x)

-- The keys in whose lists the instance stands: under the key of an id itself stand the holders of the id.
abbrev pub listed_keys : Schema → Option Instance → List Key
listed_keys s o = held_keys o ++ refs_keys s o

unfoldable pub is_listed : Schema → Option Instance → Key → Bool
is_listed s o k = has_key (listed_keys s o) k

-- What the tree means.

-- the list under the number of the key: the empty one where there is none
unfoldable pub ids_at : FinMap nat_cmp (List ℕ) → Key → List ℕ
ids_at t k = unwrap_or (get t (key_number k)) []

-- It is the index of m under the schema: under each role of each id stand those that refer to the id by the role.
abbrev pub Indexes : Schema → List Instance → FinMap nat_cmp (List ℕ) → Type 0
Indexes s m t = (i : ℕ) (r : Role) → ids_at t (Refs i r) ≡ referrers s m i r

-- Under each id stand those of m that hold a reference to the id. This goes without a schema.
abbrev pub ListsHolders : List Instance → FinMap nat_cmp (List ℕ) → Type 0
ListsHolders m t = (i : ℕ) → ids_at t (Inst i) ≡ holders m i

-- u is t with the instance `new` in the place of `old` at the id n
abbrev pub Follows : Schema → ℕ → Option Instance → Option Instance → FinMap nat_cmp (List ℕ) → FinMap nat_cmp (List ℕ) → Type 0
Follows s n old new t u = (k : Key) → ids_at u k ≡ moved_id (is_listed s old k) (is_listed s new k) n (ids_at t k)

-- What a change of a model is: at the id n stands `new` afterwards, or nothing.

-- the id of the instance that comes, or of the one that goes where none comes
abbrev pub id_if_any : Option Instance → Option Instance → Option ℕ
id_if_any old (Some x) = Some x.id
id_if_any old None = option_map (λ (y : Instance). y.id) old

-- and 0, which is no id, where there is neither
abbrev pub change_id : Option Instance → Option Instance → ℕ
change_id old new = unwrap_or (id_if_any old new) 0

abbrev pub replaced : ℕ → Option Instance → List Instance → List Instance
replaced n None m = without_instance n m
replaced n (Some x) m = with_instance x (without_instance n m)

-- the instance, if there is one, has the id n
abbrev pub HasId : ℕ → Option Instance → Type 0
HasId n None = Unit {0}
HasId n (Some x) = x.id ≡ n

-- Of whatever model t is the index that has `old` at the id n, u is the index of that model with `new` there.
abbrev pub Reindexes : Schema → ℕ → Option Instance → Option Instance → FinMap nat_cmp (List ℕ) → FinMap nat_cmp (List ℕ) → Type 0
Reindexes s n old new t u = (m : List Instance) → IsModel m → instance_at n m ≡ old → Indexes s m t → Indexes s (replaced n new m) u

-- and the same of the holders
abbrev pub RelistsHolders : ℕ → Option Instance → Option Instance → FinMap nat_cmp (List ℕ) → FinMap nat_cmp (List ℕ) → Type 0
RelistsHolders n old new t u = (m : List Instance) → IsModel m → instance_at n m ≡ old → ListsHolders m t → ListsHolders (replaced n new m) u
