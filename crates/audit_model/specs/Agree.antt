-- Where two models agree on the contents of keys, and what it is that an answer hangs on those contents alone.
use Rattle.std.specs.Prelude.{◌≡◌, List, [], ◌∷◌, ◌++◌}
use Rattle.ifc_base.specs.declared.key.Key.{Key}
use Rattle.ifc_base.specs.declared.key.Key.TheVariants.{Inst, Refs}
use Rattle.audit_model.specs.Keys.{Sight}

-- the key has the same content in both
abbrev pub SameContent : Sight → Sight → Key → Type 0
SameContent v w (Inst id) = v.instance id ≡ w.instance id
SameContent v w (Refs id role) = v.referrers id role ≡ w.referrers id role

abbrev pub AgreeOn : Sight → Sight → List Key → Type 0
AgreeOn v w [] = Unit {0}
AgreeOn v w (k ∷ ks) = SameContent v w k × AgreeOn v w ks

pub record ReadsSame {A : Type 0} (answer : Sight → A) (keys : Sight → List Key) (v w : Sight) : Type 0 where
  pub same_answer : answer v ≡ answer w
  pub same_keys : keys v ≡ keys w

-- Where two models agree on the keys that are looked at in the first, the same answer comes in the second, by the same keys.
abbrev pub IsSound : {A : Type 0} → (Sight → A) → (Sight → List Key) → Type 0
IsSound answer keys = (v w : Sight) → AgreeOn v w (keys v) → ReadsSame answer keys v w

pub agree_first : (v w : Sight) (ks ls : List Key) → AgreeOn v w (ks ++ ls) → AgreeOn v w ks
agree_first v w [] ls h = tt
agree_first v w (k ∷ ks) ls h = (h.0, agree_first v w ks ls h.1)

pub agree_last : (v w : Sight) (ks ls : List Key) → AgreeOn v w (ks ++ ls) → AgreeOn v w ls
agree_last v w [] ls h = h
agree_last v w (k ∷ ks) ls h = agree_last v w ks ls h.1
