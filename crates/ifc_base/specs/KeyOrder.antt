-- The order of keys: by id, then the instance itself, then the roles in their order. And their equality.
use Rattle.std.specs.Prelude.{◌≡◌, ℕ, ◌+◌, ◌-◌, ◌==◌, Bool, if◌then◌else◌, refl}
use Rattle.std.specs.Bool.{Decides}
use Rattle.std.specs.Cmp.{both_tied, unsigned_ties, unsigned_Decides}
use Rattle.std.specs.Ordering.{nat_cmp, on, then_cmp, eq_of_both, is_eq}
use Rattle.std.specs.declared.cmp.Ordering.{Ordering}
use Rattle.std.proofs.Common.{ap, sym, ◌∙◌}
use Rattle.ifc_base.specs.Same.{both-Decides}
use Rattle.ifc_base.specs.declared.key.Key.{Key}
use Rattle.ifc_base.specs.declared.key.Key.TheVariants.{Inst, Refs}
use Rattle.ifc_base.specs.declared.key.Role.{Role}
use Rattle.ifc_base.specs.declared.key.Role.TheVariants.{Properties, Kind, Classification, Material, Aggregates, Nests, Contained, Group, Voids, Fills}

-- the place of a role in the order of roles, from 0
abbrev pub role_rank : Role → ℕ
role_rank Properties = 0
role_rank Kind = 1
role_rank Classification = 2
role_rank Material = 3
role_rank Aggregates = 4
role_rank Nests = 5
role_rank Contained = 6
role_rank Group = 7
role_rank Voids = 8
role_rank Fills = 9

-- the id that a key speaks of
abbrev pub key_id : Key → ℕ
key_id (Inst id) = id
key_id (Refs id role) = id

-- the place of a key among those of its id, from 0: the instance itself, then the roles
abbrev pub key_rank : Key → ℕ
key_rank (Inst id) = 0
key_rank (Refs id role) = role_rank role + 1

-- the order of two keys: by id, then by the place among the keys of one id
abbrev pub key_cmp : Key → Key → Ordering
key_cmp = then_cmp (on key_id nat_cmp) (on key_rank nat_cmp)

-- whether two keys are one: they have the same id and the same place among its keys
abbrev pub key_eq : Key → Key → Bool
key_eq = eq_of_both (on key_id ◌==◌) (on key_rank ◌==◌)

-- keys are equal exactly where neither comes first
pub key_ties : (x y : Key) → key_eq x y ≡ is_eq (key_cmp x y)
key_ties x y = both_tied _ _ (nat_cmp (key_id x) (key_id y)) (nat_cmp (key_rank x) (key_rank y))
    (unsigned_ties (key_id x) (key_id y)) (unsigned_ties (key_rank x) (key_rank y))

-- the role at this place
abbrev role_at : ℕ → Role
role_at n =
    if n == 0 then Properties else (if n == 1 then Kind else (if n == 2 then Classification else (
    if n == 3 then Material else (if n == 4 then Aggregates else (if n == 5 then Nests else (
    if n == 6 then Contained else (if n == 7 then Group else (if n == 8 then Voids else Fills))))))))

-- the key of this id at this place
abbrev key_at : ℕ → ℕ → Key
key_at id n = if n == 0 then Inst id else Refs id (role_at (n - 1))

-- id and place make the key
key_at_own : (x : Key) → key_at (key_id x) (key_rank x) ≡ x
key_at_own (Inst id) = refl
key_at_own (Refs id Properties) = refl
key_at_own (Refs id Kind) = refl
key_at_own (Refs id Classification) = refl
key_at_own (Refs id Material) = refl
key_at_own (Refs id Aggregates) = refl
key_at_own (Refs id Nests) = refl
key_at_own (Refs id Contained) = refl
key_at_own (Refs id Group) = refl
key_at_own (Refs id Voids) = refl
key_at_own (Refs id Fills) = refl

-- `key_eq` is true exactly where the two keys are equal
pub key_eq-Decides : (x y : Key) → Decides (key_eq x y) (x ≡ y)
key_eq-Decides x y =
    let both = both-Decides (key_id x == key_id y) (key_rank x == key_rank y)
    (unsigned_Decides (key_id x) (key_id y)) (unsigned_Decides (key_rank x) (key_rank y)) in (
      λ e. sym (key_at_own x) ∙ ap (λ id. key_at id (key_rank x)) (both.0 e).0
          ∙ ap (λ n. key_at (key_id y) n) (both.0 e).1 ∙ key_at_own y,
      λ e. both.1 (ap key_id e, ap key_rank e),
    )
