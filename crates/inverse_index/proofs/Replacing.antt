-- The index of a model in which one instance was replaced.
use Rattle.std.proofs.Common.{◌≡◌, ℕ, ◌<◌, ◌==◌, Bool, true, false, not, ◌&&◌, ◌||◌, cond, if◌then◌else◌, List, [], ◌∷◌, filter, map, Option, Some, None, refl, sym, subst, ap, ◌∙◌, arith}
use Rattle.std.specs.Ordering.{nat_cmp}
use Rattle.std.specs.FinMap.{FinMap}
use Rattle.std.proofs.lemmas.Bool.{eqb-true, ne_eqb}
use Rattle.ifc_base.specs.declared.value.Instance.{Instance}
use Rattle.ifc_base.specs.declared.key.Key.{Key}
use Rattle.ifc_base.specs.declared.key.Key.TheVariants.{Inst, Refs}
use Rattle.ifc_base.specs.declared.key.Role.{Role}
use Rattle.audit_model.specs.Models.{IsModel, AllAbove, instance_at, is_present}
use Rattle.audit_model.specs.Keys.{holders}
use Rattle.audit_model.specs.Edits.{without_instance}
use Rattle.schema_table.specs.Schema.{Schema}
use Rattle.schema_table.specs.Relationships.{refers, referrers}
use Rattle.inverse_index.specs.Lists.{with_id, without_id, moved_id}
use Rattle.inverse_index.specs.Index.{change_id, Follows, has_key, HasId, holds, id_if_any, ids_at, is_listed, listed_keys, Reindexes, RelistsHolders, replaced}
use Rattle.inverse_index.proofs.Passing.{passes, standing, came, went, unheard, all_apart, none_below, all_above, pass_low}
use Rattle.inverse_index.proofs.Refers.{gone_listed, listed_inst, listed_refs}
use Rattle.inverse_index.proofs.IdLists.{moved}

-- Models.

above_filter : (n : ℕ) (p : Instance → Bool) (m : List Instance) → AllAbove n m → AllAbove n (filter p m)
above_filter n p [] h = tt
above_filter n p (x ∷ xs) h = elim (p x) as (λ b. AllAbove n (cond b (x ∷ filter p xs) (filter p xs))) [ true ↦ (h.0, above_filter n p xs h.1) | false ↦ above_filter n p xs h.1 ]

pub model_filter : (p : Instance → Bool) (m : List Instance) → IsModel m → IsModel (filter p m)
model_filter p [] h = tt
model_filter p (x ∷ xs) h = elim (p x) as (λ b. IsModel (cond b (x ∷ filter p xs) (filter p xs))) [ true ↦ (above_filter x.id p xs h.0, model_filter p xs h.1) | false ↦ model_filter p xs h.1 ]

pub absent_without : (n : ℕ) (m : List Instance) → is_present n (without_instance n m) ≡ false
absent_without n [] = refl
absent_without n (x ∷ xs) =
    let F : Bool → Type 0 = λ b. (x.id == n) ≡ b → is_present n (cond (not b) (x ∷ without_instance n xs) (without_instance n xs)) ≡ false in
    let at : F (x.id == n) = elim (x.id == n) as F [ true ↦ λ e. absent_without n xs | false ↦ λ e. rw e (absent_without n xs) ] in
    at refl

pub absent_none : (n : ℕ) (m : List Instance) → instance_at n m ≡ None → is_present n m ≡ false
absent_none n [] e = refl
absent_none n (x ∷ xs) e =
    let F : Bool → Type 0 = λ b. cond b (Some x) (instance_at n xs) ≡ None → (b || is_present n xs) ≡ false in
    let at : F (x.id == n) = elim (x.id == n) as F [ true ↦ λ k. absurd (cc) | false ↦ λ k. absent_none n xs k ] in
    at e

below_at : (n k : ℕ) (x : Instance) (m : List Instance) → AllAbove k m → instance_at n m ≡ Some x → k < n
below_at n k x [] h e = absurd (cc)
below_at n k x (y ∷ ys) h e =
    let F : Bool → Type 0 = λ b. (y.id == n) ≡ b → cond b (Some y) (instance_at n ys) ≡ Some x → k < n in
    let at : F (y.id == n) = elim (y.id == n) as F [ true ↦ λ t j. let here : y.id ≡ n = eqb-true y.id n t in omega (arith, here, h.0) | false ↦ λ t j. below_at n k x ys h.1 j ] in
    at refl e

absent_above : (n : ℕ) (m : List Instance) → AllAbove n m → is_present n m ≡ false
absent_above n [] h = refl
absent_above n (x ∷ xs) h = rw (ne_eqb x.id n (omega (arith, h.0))) (absent_above n xs h.1)

-- Lists.

-- who passes comes back where it was
back_again : (p : Instance → Bool) (n : ℕ) (x : Instance) (m : List Instance) → IsModel m → instance_at n m ≡ Some x → p x ≡ true → with_id n (without_id n (standing p m)) ≡ standing p m
back_again p n x [] h e f = absurd (cc)
back_again p n x (y ∷ ys) h e f =
    let G : Bool → Type 0 = λ q. with_id n (without_id n (map (λ (z : Instance). z.id) (cond q (y ∷ filter p ys) (filter p ys)))) ≡ map (λ (z : Instance). z.id) (cond q (y ∷ filter p ys) (filter p ys)) in
    let F : Bool → Type 0 = λ b. (y.id == n) ≡ b → cond b (Some y) (instance_at n ys) ≡ Some x → G (p y) in
    let at : F (y.id == n) = elim (y.id == n) as F [
      | true ↦ λ t k.
          let same : y ≡ x = cc in
          let here : y.id ≡ n = eqb-true y.id n t in
          let over : AllAbove n ys = subst (λ i. AllAbove i ys) here h.0 in
          subst G (sym (ap p same ∙ f)) (rw (t, all_apart p n ys (absent_above n ys over), none_below p n ys over, all_above p n ys over, here) refl)
      | false ↦ λ t k.
          let less : y.id < n = below_at n y.id x ys h.0 k in
          let rest : with_id n (without_id n (standing p ys)) ≡ standing p ys = back_again p n x ys h.1 k f in
          elim (p y) as G [ true ↦ rw t (pass_low p n y.id (without_id n (standing p ys)) less ∙ ap (λ zs. y.id ∷ zs) rest) | false ↦ rest ]
    ] in
    at refl e

taken : (a : Bool) (n : ℕ) (xs ys : List ℕ) → ys ≡ xs → (if a then with_id n ys else ys) ≡ moved_id false a n xs
taken true n xs ys e = ap (with_id n) e
taken false n xs ys e = e

set_again : (a b : Bool) (n : ℕ) (xs ys : List ℕ) → ys ≡ without_id n xs → (a ≡ true → with_id n ys ≡ xs) → (a ≡ false → ys ≡ xs) → (if b then with_id n ys else ys) ≡ moved_id a b n xs
set_again true true n xs ys e f g = f refl
set_again true false n xs ys e f g = e
set_again false true n xs ys e f g = ap (with_id n) (g refl)
set_again false false n xs ys e f g = g refl

dropped : (a : Bool) (n : ℕ) (xs ys : List ℕ) → ys ≡ without_id n xs → (a ≡ false → ys ≡ xs) → ys ≡ moved_id a false n xs
dropped true n xs ys e g = e
dropped false n xs ys e g = g refl

pub standing_replaced : (p : Instance → Bool) (n : ℕ) (old new : Option Instance) (m : List Instance) → IsModel m → instance_at n m ≡ old → HasId n new → standing p (replaced n new m) ≡ moved_id (passes p old) (passes p new) n (standing p m)
standing_replaced p n None None m h e i = went p n m ∙ all_apart p n m (absent_none n m e)
standing_replaced p n None (Some x) m h e i =
    let none : is_present x.id (without_instance n m) ≡ false = subst (λ k. is_present k (without_instance n m) ≡ false) (sym i) (absent_without n m) in
    came p x (without_instance n m) (model_filter _ m h) none
    ∙ ap (λ k. if p x then with_id k (standing p (without_instance n m)) else standing p (without_instance n m)) i
    ∙ taken (p x) n (standing p m) (standing p (without_instance n m)) (went p n m ∙ all_apart p n m (absent_none n m e))
standing_replaced p n (Some y) None m h e i =
    dropped (p y) n (standing p m) (standing p (without_instance n m)) (went p n m) (λ f. went p n m ∙ unheard p n y m h e f)
standing_replaced p n (Some y) (Some x) m h e i =
    let none : is_present x.id (without_instance n m) ≡ false = subst (λ k. is_present k (without_instance n m) ≡ false) (sym i) (absent_without n m) in
    came p x (without_instance n m) (model_filter _ m h) none
    ∙ ap (λ k. if p x then with_id k (standing p (without_instance n m)) else standing p (without_instance n m)) i
    ∙ set_again (p y) (p x) n (standing p m) (standing p (without_instance n m)) (went p n m) (λ f. ap (with_id n) (went p n m) ∙ back_again p n y m h e f) (λ f. went p n m ∙ unheard p n y m h e f)

-- so a tree that follows the change of one instance is the index of the model after it
pub reindexed : (s : Schema) (n : ℕ) (old new : Option Instance) (t u : FinMap nat_cmp (List ℕ)) → HasId n new → Follows s n old new t u → Reindexes s n old new t u
reindexed s n old new t u i f m h e index = λ id r.
    f (Refs id r)
    ∙ ap (λ xs. moved_id (is_listed s old (Refs id r)) (is_listed s new (Refs id r)) n xs) (index id r)
    ∙ ap (λ b. moved_id b (is_listed s new (Refs id r)) n (referrers s m id r)) (listed_refs s old id r)
    ∙ ap (λ b. moved_id (passes (refers s r id) old) b n (referrers s m id r)) (listed_refs s new id r)
    ∙ sym (standing_replaced (refers s r id) n old new m h e i)

pub relisted : (s : Schema) (n : ℕ) (old new : Option Instance) (t u : FinMap nat_cmp (List ℕ)) → HasId n new → Follows s n old new t u → RelistsHolders n old new t u
relisted s n old new t u i f m h e index = λ id.
    f (Inst id)
    ∙ ap (λ xs. moved_id (is_listed s old (Inst id)) (is_listed s new (Inst id)) n xs) (index id)
    ∙ ap (λ b. moved_id b (is_listed s new (Inst id)) n (holders m id)) (listed_inst s old id)
    ∙ ap (λ b. moved_id (passes (holds id) old) b n (holders m id)) (listed_inst s new id)
    ∙ sym (standing_replaced (holds id) n old new m h e i)

pub own_id : (old new : Option Instance) → HasId (change_id old new) new
own_id old None = tt
own_id old (Some x) = refl

pub same_id : (old new : Option Instance) (n : ℕ) → id_if_any old new ≡ Some n → change_id old new ≡ n
same_id None None n e = absurd (cc)
same_id (Some x) None n e = cc
same_id old (Some x) n e = cc

-- A tree that one id left under some keys, and to which it came under others.
pub follows_by : (s : Schema) (n : ℕ) (old new : Option Instance) (t left u : FinMap nat_cmp (List ℕ)) (olds news gone come : List Key) → id_if_any old new ≡ Some n → olds ≡ listed_keys s old → news ≡ listed_keys s new → ((k : Key) → has_key gone k ≡ (has_key olds k && not (has_key news k))) → ((k : Key) → has_key come k ≡ (has_key news k && not (has_key olds k))) → ((k : Key) → ids_at left k ≡ (if has_key gone k then without_id n (ids_at t k) else ids_at t k)) → ((k : Key) → ids_at u k ≡ (if has_key come k then with_id n (ids_at left k) else ids_at left k)) → Follows s (change_id old new) old new t u
follows_by s n old new t left u olds news gone come id eo en g c l m k =
    moved (is_listed s old k) (is_listed s new k) (has_key gone k) (has_key come k) n (ids_at t k) (ids_at left k) (ids_at u k)
    (gone_listed s old new olds news k (has_key gone k) (g k) eo en) (gone_listed s new old news olds k (has_key come k) (c k) en eo) (l k) (m k)
    ∙ ap (λ i. moved_id (is_listed s old k) (is_listed s new k) i (ids_at t k)) (sym (same_id old new n id))

stays : (b : Bool) (n : ℕ) (xs : List ℕ) → xs ≡ moved_id b b n xs
stays true n xs = refl
stays false n xs = refl

-- nothing moves where nothing stood and nothing stands
pub none_follows : (s : Schema) (old new : Option Instance) (t u : FinMap nat_cmp (List ℕ)) → id_if_any old new ≡ None → u ≡ t → Follows s (change_id old new) old new t u
none_follows s None None t u e same k = ap (λ v. ids_at v k) same ∙ stays (is_listed s None k) 0 (ids_at t k)
none_follows s (Some x) None t u e same k = absurd (cc)
none_follows s old (Some x) t u e same k = absurd (cc)

same_standing : (p q : Instance → Bool) → ((x : Instance) → p x ≡ q x) → (m : List Instance) → standing p m ≡ standing q m
same_standing p q h [] = refl
same_standing p q h (x ∷ xs) =
    ap (λ b. map (λ (y : Instance). y.id) (cond b (x ∷ filter p xs) (filter p xs))) (h x)
    ∙ elim (q x) as (λ b. map (λ (y : Instance). y.id) (cond b (x ∷ filter p xs) (filter p xs)) ≡ map (λ (y : Instance). y.id) (cond b (x ∷ filter q xs) (filter q xs))) [
      | true ↦ ap (λ ys. x.id ∷ ys) (same_standing p q h xs)
      | false ↦ same_standing p q h xs
    ]

-- those that stand in the list of a key are those that refer to its id by its role
pub standing_refs : (s : Schema) (m : List Instance) (i : ℕ) (r : Role) → standing (λ x. is_listed s (Some x) (Refs i r)) m ≡ referrers s m i r
standing_refs s m i r = same_standing (λ x. is_listed s (Some x) (Refs i r)) (refers s r i) (λ x. listed_refs s (Some x) i r) m

-- or hold a reference to it
pub standing_holders : (s : Schema) (m : List Instance) (i : ℕ) → standing (λ x. is_listed s (Some x) (Inst i)) m ≡ holders m i
standing_holders s m i = same_standing (λ x. is_listed s (Some x) (Inst i)) (holds i) (λ x. listed_inst s (Some x) i) m
