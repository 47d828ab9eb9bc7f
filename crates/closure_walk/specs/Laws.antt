-- The laws of closures and of needs.
use Rattle.std.specs.Prelude.{◌≡◌, ℕ, zero, suc, ◌≤◌, ◌↔◌, List}
use Rattle.ifc_base.specs.declared.key.Role.{Role}
use Rattle.ifc_base.specs.declared.key.Key.{Key}
use Rattle.audit_model.specs.Keys.{Sight}
use Rattle.audit_model.specs.Reading.{Reading}
use Rattle.audit_model.specs.Ascending.{ascending_keys}
use Rattle.schema_table.specs.Schema.{Schema}
use Rattle.audit_model.specs.Closures.{closure, most_hops}
use Rattle.audit_model.specs.Paths.{above, ancestors}
use Rattle.closure_walk.specs.Walking.{In, SameKeys}

-- y is reached from x by a chain of n steps
abbrev pub Chain : (ℕ → List ℕ) → ℕ → ℕ → ℕ → Type 0
Chain f zero x y = x ≡ y
Chain f (suc n) x y = (z : ℕ) × Chain f n x z × In y (f z)

pub record IsReachable (f : ℕ → List ℕ) (starts : List ℕ) (n y : ℕ) : Type 0 where
  pub from : ℕ
  pub hops : ℕ
  pub is_start : In from starts
  pub few : hops ≤ n
  pub chain : Chain f hops from y

-- The closure has what a chain of at most that many steps reaches.
abbrev pub ClosureIsChains : Type 0
ClosureIsChains = (n : ℕ) (step : ℕ → Reading (List ℕ)) (v : Sight) (starts : List ℕ) (y : ℕ) → In y ((closure n step starts).answer v) ↔ IsReachable (λ x. (step x).answer v) starts n y

-- the id is one that an instance can have
abbrev pub IsId : ℕ → Type 0
IsId y = (1 ≤ y) × (y ≤ most_hops)

-- Where starts and steps lead to ids, a closure is whole: longer chains reach nothing more.
abbrev pub ClosuresAreWhole : Type 0
ClosuresAreWhole = (n : ℕ) (step : ℕ → Reading (List ℕ)) (v : Sight) (starts : List ℕ) → ((y : ℕ) → In y starts → IsId y) → ((x y : ℕ) → In y ((step x).answer v) → IsId y) → most_hops ≤ n →
    (closure n step starts).answer v ≡ (closure most_hops step starts).answer v

-- y is reached from e by a chain of one step or more, and of at most as many as there are ids
pub record IsAbove (f : ℕ → List ℕ) (e y : ℕ) : Type 0 where
  pub hops : ℕ
  pub some : 1 ≤ hops
  pub few : hops ≤ most_hops
  pub chain : Chain f hops e y

-- The ancestors are what such chains of steps up reach; so an id is its own ancestor only where a chain leads back to it.
abbrev pub AncestorsAreChains : Type 0
AncestorsAreChains = (s : Schema) (roles : List Role) (v : Sight) (e y : ℕ) → In y ((ancestors s roles e).answer v) ↔ IsAbove (λ x. (above s roles x).answer v) e y

-- The same keys, in whatever order and however often, make the same need.
abbrev pub SameKeysSameNeed : Type 0
SameKeysSameNeed = (ks ls : List Key) → SameKeys ks ls → ascending_keys ks ≡ ascending_keys ls
