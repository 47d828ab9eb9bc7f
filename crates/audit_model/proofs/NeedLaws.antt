-- A need has each key that was looked at, so that what is known of a need is known of them.
use Rattle.std.proofs.Common.{◌≡◌, cond, List, [], ◌∷◌, refl, ap, sym, subst, ◌∙◌, ◌||◌, Bool, true, false}
use Rattle.std.specs.List.{list_any}
use Rattle.ifc_base.specs.declared.key.Key.{Key}
use Rattle.ifc_base.specs.KeyOrder.{key_eq, key_eq-Decides}
use Rattle.audit_model.specs.Keys.{Sight, sight}
use Rattle.audit_model.specs.Agree.{SameContent, AgreeOn, ReadsSame}
use Rattle.audit_model.specs.Ascending.{key_lt, insert_key, with_keys, ascending_keys}
use Rattle.audit_model.specs.Hops.{hop}
use Rattle.audit_model.specs.Closures.{closure}
use Rattle.audit_model.specs.declared.specification.Specification.{Specification}
use Rattle.audit_model.specs.declared.verdict.Pair.{Pair}
use Rattle.schema_table.specs.Schema.{Schema}
use Rattle.std.specs.Prelude.{Option, Some, None, find, ◌==◌}
use Rattle.audit_model.specs.Verdicts.{assess_pair, assess_found, verdict}
use Rattle.audit_model.specs.Needs.{need}
use Rattle.audit_model.specs.FacetLaws.{HopLaw, ClosureLaw, NeedsAreEnough, NeedsAreLookedAt}

pub hop_law : HopLaw
hop_law s h n = (hop s h n).sound

pub closure_law : ClosureLaw
closure_law n step starts = (closure n step starts).sound

chosen : (v w : Sight) (k x : Key) (xs ys : List Key) (a b : Bool) → (b ≡ true → k ≡ x) → (AgreeOn v w ys → SameContent v w k × AgreeOn v w xs) → AgreeOn v w (cond a (k ∷ x ∷ xs) (cond b (x ∷ xs) (x ∷ ys))) → SameContent v w k × AgreeOn v w (x ∷ xs)
chosen v w k x xs ys true b e f h = (h.0, h.1)
chosen v w k x xs ys false true e f h = (subst (λ z. SameContent v w z) (sym (e refl)) h.0, h)
chosen v w k x xs ys false false e f h = let r = f h.1 in (r.0, (h.0, r.1))

agree_inserted : (v w : Sight) (k : Key) (ks : List Key) → AgreeOn v w (insert_key k ks) → SameContent v w k × AgreeOn v w ks
agree_inserted v w k [] h = h
agree_inserted v w k (x ∷ xs) h = chosen v w k x xs (insert_key k xs) (key_lt k x) (key_eq k x) (key_eq-Decides k x).0 (agree_inserted v w k xs) h

pub agree_with : (v w : Sight) (ks ls : List Key) → AgreeOn v w (with_keys ks ls) → AgreeOn v w ks × AgreeOn v w ls
agree_with v w ks [] h = (h, tt)
agree_with v w ks (l ∷ ls) h =
    let r = agree_with v w (insert_key l ks) ls h in
    let q = agree_inserted v w l ks r.0 in
    (q.1, (q.0, r.1))

-- the element is looked at first, whatever the specification
element_seen : (s : Schema) (o : Option Specification) (p : Pair) (v w : Sight) → AgreeOn v w ((assess_found s o p.elem).keys v) → v.instance p.elem ≡ w.instance p.elem
element_seen s None p v w h = h.0
element_seen s (Some q) p v w h = h.0

pub needs_are_enough : NeedsAreEnough
unfolding verdict need
needs_are_enough s specs p m n h =
    let looked : AgreeOn (sight s m) (sight s n) ((assess_pair s specs p).keys (sight s m)) = (agree_with (sight s m) (sight s n) [] ((assess_pair s specs p).keys (sight s m)) h).1 in
    let same : ReadsSame (assess_pair s specs p).answer (assess_pair s specs p).keys (sight s m) (sight s n) = (assess_pair s specs p).sound (sight s m) (sight s n) looked in
    record {
      element_stays = sym (element_seen s (find (λ q. q.number == p.spec) specs) p (sight s m) (sight s n) looked);
      verdict_stays = sym same.same_answer;
      need_stays = sym (ap ascending_keys same.same_keys);
    }

-- A need has the keys that were looked at, and no other.

abbrev has_key : Key → List Key → Bool
has_key k ks = list_any (λ j. key_eq j k) ks

or_swap : (a b c : Bool) → (a || (b || c)) ≡ (b || (a || c))
or_swap true true c = refl
or_swap true false c = refl
or_swap false b c = refl

or_twice : (a c : Bool) → (a || (a || c)) ≡ (a || c)
or_twice true c = refl
or_twice false c = refl

has_chosen : (k l x : Key) (xs ys : List Key) (a b : Bool) → (b ≡ true → l ≡ x) → has_key k ys ≡ (key_eq l k || has_key k xs) → has_key k (cond a (l ∷ x ∷ xs) (cond b (x ∷ xs) (x ∷ ys))) ≡ (key_eq l k || (key_eq x k || has_key k xs))
has_chosen k l x xs ys true b e h = refl
has_chosen k l x xs ys false true e h = subst (λ (z : Key). (key_eq x k || has_key k xs) ≡ (key_eq z k || (key_eq x k || has_key k xs))) (sym (e refl)) (sym (or_twice (key_eq x k) (has_key k xs)))
has_chosen k l x xs ys false false e h = ap (λ (b : Bool). key_eq x k || b) h ∙ or_swap (key_eq x k) (key_eq l k) (has_key k xs)

has_inserted : (k l : Key) (ks : List Key) → has_key k (insert_key l ks) ≡ (key_eq l k || has_key k ks)
has_inserted k l [] = refl
has_inserted k l (x ∷ xs) = has_chosen k l x xs (insert_key l xs) (key_lt l x) (key_eq l x) (key_eq-Decides l x).0 (has_inserted k l xs)

has_with : (k : Key) (ks ls : List Key) → has_key k (with_keys ks ls) ≡ (has_key k ls || has_key k ks)
has_with k ks [] = refl
has_with k ks (l ∷ ls) = has_with k (insert_key l ks) ls ∙ ap (λ (b : Bool). has_key k ls || b) (has_inserted k l ks) ∙ turn (has_key k ls) (key_eq l k) (has_key k ks) where
  turn : (a b c : Bool) → (a || (b || c)) ≡ ((b || a) || c)
  turn true true c = refl
  turn true false c = refl
  turn false true c = refl
  turn false false c = refl

pub needs_are_looked_at : NeedsAreLookedAt
unfolding need
needs_are_looked_at s specs p m k = has_with k [] ((assess_pair s specs p).keys (sight s m)) ∙ or_false (has_key k ((assess_pair s specs p).keys (sight s m))) where
  or_false : (a : Bool) → (a || false) ≡ a
  or_false true = refl
  or_false false = refl
