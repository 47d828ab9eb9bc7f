-- Keys, which are the parts of a model that a verdict can need, their contents, and what a commit changes of them.
use Rattle.std.specs.Prelude.{ℕ, Bool, true, false, not, ◌==◌, List, map, filter, flat_map, Option, Some, None}
use Rattle.std.specs.List.{list_all, list_any}
use Rattle.std.specs.Cmp.Lexicographic.{pointwise}
use Rattle.ifc_base.specs.declared.value.Instance.{Instance}
use Rattle.ifc_base.specs.declared.key.Role.{Role}
use Rattle.ifc_base.specs.declared.key.Key.{Key}
use Rattle.ifc_base.specs.declared.key.Key.TheVariants.{Inst, Refs}
use Rattle.ifc_base.specs.Same.{instance_eq}
use Rattle.ifc_base.specs.Refs.{refs_of}
use Rattle.schema_table.specs.Schema.{Schema}
use Rattle.schema_table.specs.Relationships as related
use Rattle.audit_model.specs.Models.{instance_at}

-- What can be looked at in one model: the contents of its keys. That of `Inst id` is the instance with that id, or none; that of
-- `Refs id role` is the ids of the instances that refer to that id by the role, which need not be there itself.
pub record Sight : Type 0 where
  pub instance : ℕ → Option Instance
  pub referrers : ℕ → Role → List ℕ

-- the sight of a model under a schema
abbrev pub sight : Schema → List Instance → Sight
sight s m = record { instance = λ id. instance_at id m; referrers = λ id role. related.referrers s m id role }

-- the same instance stands at two places, or none at both
abbrev pub same_place : Option Instance → Option Instance → Bool
same_place None None = true
same_place None (Some y) = false
same_place (Some x) None = false
same_place (Some x) (Some y) = instance_eq x y

abbrev pub same_ids : List ℕ → List ℕ → Bool
same_ids ids others = pointwise (λ (i j : ℕ). i == j) ids others

-- the key has the same content in both
abbrev pub same_content : Sight → Sight → Key → Bool
same_content v w (Inst id) = same_place (v.instance id) (w.instance id)
same_content v w (Refs id role) = same_ids (v.referrers id role) (w.referrers id role)

-- The commit from the model m to the model n changes the key: its content in m is another than its content in n.
unfoldable pub changes : Schema → List Instance → List Instance → Key → Bool
changes s m n k = not (same_content (sight s m) (sight s n) k)

-- the commit from m to n changes none of these keys
abbrev pub keeps_all : Schema → List Instance → List Instance → List Key → Bool
keeps_all s m n ks = list_all (λ k. not (changes s m n k)) ks

-- The ids of the instances that hold a reference to the id, anywhere within their parameters, in the order of the list. It is no key.
abbrev pub holders : List Instance → ℕ → List ℕ
holders m id = map (λ x. x.id) (filter (λ x. list_any (λ to. to == id) (flat_map refs_of x.params)) m)
