-- What accepted edits keep.
use Rattle.std.proofs.Common.{◌≡◌, ℕ, ◌+◌, ◌<◌, ◌≤◌, Bool, true, false, not, ◌||◌, ◌==◌, cond, if◌then◌else◌, nat_lt, List, [], ◌∷◌, filter, Option, Some, None, is_some, set, map, refl, arith, ap, sym, subst, ◌∙◌}
use Rattle.std.specs.List.{list_any}
use Rattle.std.specs.Option.{option_or, option_map_or}
use Rattle.std.proofs.lemmas.Bool.{eqb-true, eqb-false, ne_eqb, ltb-true, ltb-false, false≢true}
use Rattle.ifc_base.specs.declared.value.Instance.{Instance}
use Rattle.ifc_base.specs.declared.value.Value.{Value}
use Rattle.ifc_base.specs.declared.key.Key.{Key}
use Rattle.schema_table.specs.Schema.{Schema, place_of}
use Rattle.audit_model.specs.declared.commit.Edit.{Edit}
use Rattle.audit_model.specs.declared.commit.Edit.TheVariants.{Add, Set, Remove}
use Rattle.audit_model.specs.declared.commit.EditFault.{EditFault}
use Rattle.audit_model.specs.declared.commit.EditFault.TheVariants.{IdTaken}
use Rattle.audit_model.specs.declared.commit.CommitRefusal.TheVariants.{RevisionsFull}
use Rattle.audit_model.specs.declared.step.Limits.{Limits}
use Rattle.audit_model.specs.Models.{IsModel, AllAbove, instance_at, is_present, with_instance}
use Rattle.audit_model.specs.Edits.{without_instance, with_attribute, edited, apply, edit_id}
use Rattle.audit_model.specs.Judging.{judge, judge_from, fault_of, refused_or, conflict_of, id_fault_of, dangling}

-- The model stays ascending.

above_filter : (n : ℕ) (p : Instance → Bool) (m : List Instance) → AllAbove n m → AllAbove n (filter p m)
above_filter n p [] h = tt
above_filter n p (x ∷ xs) h = elim (p x) as (λ b. AllAbove n (cond b (x ∷ filter p xs) (filter p xs))) [ true ↦ (h.0, above_filter n p xs h.1) | false ↦ above_filter n p xs h.1 ]

model_filter : (p : Instance → Bool) (m : List Instance) → IsModel m → IsModel (filter p m)
model_filter p [] h = tt
model_filter p (x ∷ xs) h = elim (p x) as (λ b. IsModel (cond b (x ∷ filter p xs) (filter p xs))) [ true ↦ (above_filter x.id p xs h.0, model_filter p xs h.1) | false ↦ model_filter p xs h.1 ]

above_lower : (n k : ℕ) (m : List Instance) → k < n → AllAbove n m → AllAbove k m
above_lower n k [] l h = tt
above_lower n k (x ∷ xs) l h = (omega (arith, h.0), above_lower n k xs l h.1)

above_with : (n : ℕ) (x : Instance) (m : List Instance) → n < x.id → AllAbove n m → AllAbove n (with_instance x m)
above_with n x [] l h = (l, tt)
above_with n x (y ∷ ys) l h = elim (nat_lt x.id y.id) as (λ b. AllAbove n (if b then (x ∷ y ∷ ys) else (y ∷ with_instance x ys))) [ true ↦ (l, h) | false ↦ (h.0, above_with n x ys l h.1) ]

pub model_with : (x : Instance) (m : List Instance) → is_present x.id m ≡ false → IsModel m → IsModel (with_instance x m)
model_with x [] e h = (tt, tt)
model_with x (y ∷ ys) e h =
    let F : Bool → Type 0 = λ b. (y.id == x.id) ≡ b → (b || is_present x.id ys) ≡ false → IsModel (with_instance x (y ∷ ys)) in
    let at : F (y.id == x.id) = elim (y.id == x.id) as F [
      | true ↦ λ f k. absurd (false≢true (sym k))
      | false ↦ λ f k.
          let G : Bool → Type 0 = λ b. nat_lt x.id y.id ≡ b → IsModel (if b then (x ∷ y ∷ ys) else (y ∷ with_instance x ys)) in
          let inner : G (nat_lt x.id y.id) = elim (nat_lt x.id y.id) as G [
            | true ↦ λ l. ((ltb-true _ _ l, above_lower y.id x.id ys (ltb-true _ _ l) h.0), h)
            | false ↦ λ l.
                let ne : y.id ≡ x.id → ⊥ = eqb-false _ _ f in
                let le : y.id ≤ x.id = ltb-false _ _ l in
                (above_with y.id x ys (omega (arith, ne, le)) h.0, model_with x ys k h.1)
          ] in
          inner refl
    ] in
    at refl e

-- Where the first of several faults is none, each is none.
pub or_none : {X : Type 0} (a b : Option X) → option_or a b ≡ None → (a ≡ None) × (b ≡ None)
or_none None b e = (refl, e)
or_none (Some x) b e = absurd (cc)

-- an instance is there exactly where one is found
pub present_found : (i : ℕ) (m : List Instance) → is_some (instance_at i m) ≡ is_present i m
present_found i [] = refl
present_found i (x ∷ xs) =
    elim (x.id == i) as (λ b. is_some (cond b (Some x) (instance_at i xs)) ≡ (b || is_present i xs)) [ true ↦ refl | false ↦ present_found i xs ]

pub not_taken : (x : Instance) (m : List Instance) → id_fault_of m (Add x) ≡ None → is_present x.id m ≡ false
not_taken x m e =
    let F : Option Instance → Type 0 = λ o. (if is_some o then Some (IdTaken x.id) else None) ≡ None → is_some o ≡ false in
    let at : F (instance_at x.id m) = elim (instance_at x.id m) as F [ Some y ↦ λ k. absurd (cc) | None ↦ λ k. refl ] in
    sym (present_found x.id m) ∙ at e

-- setting an attribute leaves the id as it is
pub same_id : (s : Schema) (attr : List ℕ) (value : Value) (x : Instance) → (with_attribute s attr value x).id ≡ x.id
same_id s attr value x = elim (place_of s x.entity attr) as (λ o. (option_map_or (λ k. record x { params = set x.params k value }) o x).id ≡ x.id) [ None ↦ refl | Some k ↦ refl ]

abbrev pub set_if : Schema → ℕ → List ℕ → Value → Instance → Instance
set_if s id attr value x = if x.id == id then with_attribute s attr value x else x

pub set_if_id : (s : Schema) (id : ℕ) (attr : List ℕ) (value : Value) (x : Instance) → (set_if s id attr value x).id ≡ x.id
set_if_id s id attr value x = elim (x.id == id) as (λ b. (if b then with_attribute s attr value x else x).id ≡ x.id) [ true ↦ same_id s attr value x | false ↦ refl ]

above_set : (s : Schema) (id : ℕ) (attr : List ℕ) (value : Value) (n : ℕ) (m : List Instance) → AllAbove n m → AllAbove n (map (set_if s id attr value) m)
above_set s id attr value n [] h = tt
above_set s id attr value n (x ∷ xs) h = (rw (set_if_id s id attr value x) h.0, above_set s id attr value n xs h.1)

model_set : (s : Schema) (id : ℕ) (attr : List ℕ) (value : Value) (m : List Instance) → IsModel m → IsModel (map (set_if s id attr value) m)
model_set s id attr value [] h = tt
model_set s id attr value (x ∷ xs) h =
    (subst (λ (n : ℕ). AllAbove n (map (set_if s id attr value) xs)) (sym (set_if_id s id attr value x)) (above_set s id attr value x.id xs h.0), model_set s id attr value xs h.1)

-- an edit whose id is no fault leaves the ids ascending
pub model_edited : (s : Schema) (m : List Instance) (e : Edit) → id_fault_of m e ≡ None → IsModel m → IsModel (edited s m e)
model_edited s m (Add x) f h = model_with x m (not_taken x m f) h
model_edited s m (Set id attr value) f h = model_set s id attr value m h
model_edited s m (Remove id) f h = model_filter _ m h

pub id_fault_none : (s : Schema) (limits : Limits) (last : Key → ℕ) (base : ℕ) (m : List Instance) (e : Edit) → fault_of s limits last base m e ≡ None → id_fault_of m e ≡ None
id_fault_none s limits last base m e f = (or_none (id_fault_of m e) _ (or_none (conflict_of last base e) _ f).1).0

model_judged : (s : Schema) (limits : Limits) (last : Key → ℕ) (base n : ℕ) (m : List Instance) (es : List Edit) → judge_from s limits last base n m es ≡ None → IsModel m → IsModel (apply s m es)
model_judged s limits last base n m [] j h = h
model_judged s limits last base n m (e ∷ es) j h =
    let F : Option EditFault → Type 0 = λ o. fault_of s limits last base m e ≡ o → refused_or o n (judge_from s limits last base (n + 1) (edited s m e) es) ≡ None → IsModel (apply s (edited s m e) es) in
    let at : F (fault_of s limits last base m e) = elim (fault_of s limits last base m e) as F [
      | None ↦ λ f k. model_judged s limits last base (n + 1) (edited s m e) es k (model_edited s m e (id_fault_none s limits last base m e f) h)
      | Some x ↦ λ f k. absurd (cc)
    ] in
    at refl j

-- What an accepted commit says of its edits.
pub edits_accepted : (s : Schema) (limits : Limits) (r : ℕ) (last : Key → ℕ) (base : ℕ) (m : List Instance) (es : List Edit) → judge s limits r last base m es ≡ None → (nat_lt r limits.revisions ≡ true) × (judge_from s limits last base 1 m es ≡ None) × (dangling m (apply s m es) ≡ None)
unfolding judge
edits_accepted s limits r last base m es j =
    let F : Bool → Type 0 = λ b. (if b then option_or (judge_from s limits last base 1 m es) (dangling m (apply s m es)) else Some RevisionsFull) ≡ None → (b ≡ true) × (judge_from s limits last base 1 m es ≡ None) × (dangling m (apply s m es) ≡ None) in
    let at : F (nat_lt r limits.revisions) = elim (nat_lt r limits.revisions) as F [
      | true ↦ λ k. let both : (judge_from s limits last base 1 m es ≡ None) × (dangling m (apply s m es) ≡ None) = or_none _ _ k in (refl, both.0, both.1)
      | false ↦ λ k. absurd (cc)
    ] in
    at j

pub model_applied : (s : Schema) (limits : Limits) (r : ℕ) (last : Key → ℕ) (base : ℕ) (m : List Instance) (es : List Edit) → judge s limits r last base m es ≡ None → IsModel m → IsModel (apply s m es)
model_applied s limits r last base m es j h = model_judged s limits last base 1 m es (edits_accepted s limits r last base m es j).1 h

-- Places that no edit names.

at_with : (i : ℕ) (x : Instance) (m : List Instance) → (x.id == i) ≡ false → instance_at i (with_instance x m) ≡ instance_at i m
at_with i x [] e = rw e
at_with i x (y ∷ ys) e =
    elim (nat_lt x.id y.id) as (λ b. instance_at i (if b then (x ∷ y ∷ ys) else (y ∷ with_instance x ys)) ≡ instance_at i (y ∷ ys)) [
      | true ↦ rw e
      | false ↦ ap (λ (o : Option Instance). cond (y.id == i) (Some y) o) (at_with i x ys e)
    ]

at_without : (i j : ℕ) (m : List Instance) → (j == i) ≡ false → instance_at i (without_instance j m) ≡ instance_at i m
at_without i j [] e = refl
at_without i j (y ∷ ys) e =
    let F : Bool → Type 0 = λ b. (y.id == j) ≡ b → instance_at i (cond (not b) (y ∷ without_instance j ys) (without_instance j ys)) ≡ instance_at i (y ∷ ys) in
    let at : F (y.id == j) = elim (y.id == j) as F [
      | true ↦ λ f. let other : (y.id == i) ≡ false = rw (eqb-true y.id j f) e in rw other (at_without i j ys e)
      | false ↦ λ f. ap (λ (o : Option Instance). cond (y.id == i) (Some y) o) (at_without i j ys e)
    ] in
    at refl

-- an instance of another id is as it was
set_other : (s : Schema) (id : ℕ) (attr : List ℕ) (value : Value) (x : Instance) → (x.id == id) ≡ false → set_if s id attr value x ≡ x
set_other s id attr value x e = rw e

at_set : (s : Schema) (i id : ℕ) (attr : List ℕ) (value : Value) (m : List Instance) → (id == i) ≡ false → instance_at i (map (set_if s id attr value) m) ≡ instance_at i m
at_set s i id attr value [] e = refl
at_set s i id attr value (x ∷ xs) e =
    let same : (set_if s id attr value x).id ≡ x.id = set_if_id s id attr value x in
    let rest : instance_at i (map (set_if s id attr value) xs) ≡ instance_at i xs = at_set s i id attr value xs e in
    let F : Bool → Type 0 = λ b. (x.id == i) ≡ b → cond b (Some (set_if s id attr value x)) (instance_at i (map (set_if s id attr value) xs)) ≡ cond b (Some x) (instance_at i xs) in
    let at : F (x.id == i) = elim (x.id == i) as F [
      | true ↦ λ f. ap (λ (z : Instance). Some z) (set_other s id attr value x (not_same x.id id i (eqb-true _ _ f) e))
      | false ↦ λ f. rest
    ] in
    ap (λ (n : ℕ). cond (n == i) (Some (set_if s id attr value x)) (instance_at i (map (set_if s id attr value) xs))) same ∙ at refl where
      not_same : (a b i : ℕ) → a ≡ i → (b == i) ≡ false → (a == b) ≡ false
      not_same a b i e f = ne_eqb a b (λ k. eqb-false b i f (sym k ∙ e))

pub at_edited : (s : Schema) (i : ℕ) (m : List Instance) (e : Edit) → (edit_id e == i) ≡ false → instance_at i (edited s m e) ≡ instance_at i m
at_edited s i m (Add x) h = at_with i x m h
at_edited s i m (Set id attr value) h = at_set s i id attr value m h
at_edited s i m (Remove id) h = at_without i id m h

pub untouched : (s : Schema) (i : ℕ) (m : List Instance) (es : List Edit) → list_any (λ e. edit_id e == i) es ≡ false → instance_at i (apply s m es) ≡ instance_at i m
untouched s i m [] h = refl
untouched s i m (e ∷ es) h =
    let F : Bool → Type 0 = λ b. (edit_id e == i) ≡ b → (b || list_any (λ x. edit_id x == i) es) ≡ false → instance_at i (apply s (edited s m e) es) ≡ instance_at i m in
    let at : F (edit_id e == i) = elim (edit_id e == i) as F [
      | true ↦ λ f k. absurd (false≢true (sym k))
      | false ↦ λ f k. untouched s i (edited s m e) es k ∙ at_edited s i m e f
    ] in
    at refl h
