-- The instances of a model that pass a test, as the ids of those, after an instance came or went.
use Rattle.std.proofs.Common.{◌≡◌, ℕ, ◌<◌, ◌≤◌, ◌==◌, nat_lt, Bool, true, false, not, cond, if◌then◌else◌, List, [], ◌∷◌, filter, map, Option, Some, None, refl, sym, subst, ap, ◌∙◌, arith}
use Rattle.std.proofs.lemmas.Bool.{ltb-true, ltb-false, lt-ltb, le-ltb, eqb-true, eqb-false, ne_eqb, or_parts}
use Rattle.ifc_base.specs.declared.value.Instance.{Instance}
use Rattle.audit_model.specs.Models.{IsModel, AllAbove, instance_at, is_present, with_instance}
use Rattle.audit_model.specs.Edits.{without_instance}
use Rattle.inverse_index.specs.Lists.{with_id, without_id}

-- the ids of those that pass
abbrev pub standing : (Instance → Bool) → List Instance → List ℕ
standing p m = map (λ (x : Instance). x.id) (filter p m)

-- the instance, if there is one, passes
abbrev pub passes : (Instance → Bool) → Option Instance → Bool
passes p None = false
passes p (Some x) = p x

module _ (p : Instance → Bool) where
  -- all ids stand above n
  pub none_below : (n : ℕ) (m : List Instance) → AllAbove n m → filter (λ x. nat_lt x n) (standing p m) ≡ []
  none_below n [] h = refl
  none_below n (x ∷ xs) h =
      let over : n < x.id = h.0 in
      let F : Bool → Type 0 = λ b. filter (λ x. nat_lt x n) (map (λ (y : Instance). y.id) (cond b (x ∷ filter p xs) (filter p xs))) ≡ [] in
      elim (p x) as F [ true ↦ rw (le-ltb x.id n (omega arith)) (none_below n xs h.1) | false ↦ none_below n xs h.1 ]

  pub all_above : (n : ℕ) (m : List Instance) → AllAbove n m → filter (λ x. nat_lt n x) (standing p m) ≡ standing p m
  all_above n [] h = refl
  all_above n (x ∷ xs) h =
      let over : n < x.id = h.0 in
      let F : Bool → Type 0 = λ b. filter (λ x. nat_lt n x) (map (λ (y : Instance). y.id) (cond b (x ∷ filter p xs) (filter p xs))) ≡ map (λ (y : Instance). y.id) (cond b (x ∷ filter p xs) (filter p xs)) in
      elim (p x) as F [ true ↦ rw (lt-ltb n x.id over) (ap (λ ys. x.id ∷ ys) (all_above n xs h.1)) | false ↦ all_above n xs h.1 ]

  pub all_apart : (n : ℕ) (m : List Instance) → is_present n m ≡ false → without_id n (standing p m) ≡ standing p m
  all_apart n [] h = refl
  all_apart n (x ∷ xs) h =
      let apart : ((x.id == n) ≡ false) × (is_present n xs ≡ false) = or_parts (x.id == n) (is_present n xs) h in
      let F : Bool → Type 0 = λ b. without_id n (map (λ (y : Instance). y.id) (cond b (x ∷ filter p xs) (filter p xs))) ≡ map (λ (y : Instance). y.id) (cond b (x ∷ filter p xs) (filter p xs)) in
      elim (p x) as F [ true ↦ rw apart.0 (ap (λ ys. x.id ∷ ys) (all_apart n xs apart.1)) | false ↦ all_apart n xs apart.1 ]

  above_lower : (n k : ℕ) (m : List Instance) → k < n → AllAbove n m → AllAbove k m
  above_lower n k [] l h = tt
  above_lower n k (x ∷ xs) l h = (omega (arith, h.0), above_lower n k xs l h.1)

  pub pass_low : (n k : ℕ) (xs : List ℕ) → k < n → with_id n (k ∷ xs) ≡ k ∷ with_id n xs
  pass_low n k xs l = rw (lt-ltb k n l, le-ltb n k (omega arith)) refl

  head_kept : (a b : Bool) (n k : ℕ) (xs ys : List ℕ) → k < n → ys ≡ (if a then with_id n xs else xs) → cond b (k ∷ ys) ys ≡ (if a then with_id n (cond b (k ∷ xs) xs) else cond b (k ∷ xs) xs)
  head_kept true true n k xs ys l e = ap (λ zs. k ∷ zs) e ∙ sym (pass_low n k xs l)
  head_kept false true n k xs ys l e = ap (λ zs. k ∷ zs) e
  head_kept true false n k xs ys l e = e
  head_kept false false n k xs ys l e = e

  head_first : (a : Bool) (n : ℕ) (xs : List ℕ) → filter (λ x. nat_lt x n) xs ≡ [] → filter (λ x. nat_lt n x) xs ≡ xs → cond a (n ∷ xs) xs ≡ (if a then with_id n xs else xs)
  head_first true n xs low high = rw (low, high) refl
  head_first false n xs low high = refl

  ids_of_cond : (b : Bool) (x : Instance) (xs : List Instance) → map (λ (y : Instance). y.id) (cond b (x ∷ xs) xs) ≡ cond b (x.id ∷ map (λ (y : Instance). y.id) xs) (map (λ (y : Instance). y.id) xs)
  ids_of_cond true x xs = refl
  ids_of_cond false x xs = refl

  -- a new instance comes to the list, if it passes
  pub came : (x : Instance) (m : List Instance) → IsModel m → is_present x.id m ≡ false → standing p (with_instance x m) ≡ (if p x then with_id x.id (standing p m) else standing p m)
  came x [] h e = ids_of_cond (p x) x []
  came x (y ∷ ys) h e =
      let apart : ((y.id == x.id) ≡ false) × (is_present x.id ys ≡ false) = or_parts (y.id == x.id) (is_present x.id ys) e in
      let F : Bool → Type 0 = λ b. nat_lt x.id y.id ≡ b → standing p (if b then (x ∷ y ∷ ys) else (y ∷ with_instance x ys)) ≡ (if p x then with_id x.id (standing p (y ∷ ys)) else standing p (y ∷ ys)) in
      let at : F (nat_lt x.id y.id) = elim (nat_lt x.id y.id) as F [
        | true ↦ λ k.
            let less : x.id < y.id = ltb-true x.id y.id k in
            let over : AllAbove x.id (y ∷ ys) = (less, above_lower y.id x.id ys less h.0) in
            ids_of_cond (p x) x (filter p (y ∷ ys)) ∙ head_first (p x) x.id (standing p (y ∷ ys)) (none_below x.id (y ∷ ys) over) (all_above x.id (y ∷ ys) over)
        | false ↦ λ k.
            let least : y.id ≤ x.id = ltb-false x.id y.id k in
            let other : (y.id ≡ x.id) → ⊥ = eqb-false y.id x.id apart.0 in
            let less : y.id < x.id = omega (arith, least, other) in
            ids_of_cond (p y) y (filter p (with_instance x ys)) ∙ head_kept (p x) (p y) x.id y.id (standing p ys) (standing p (with_instance x ys)) less (came x ys h.1 apart.1)
            ∙ ap (λ xs. if p x then with_id x.id xs else xs) (sym (ids_of_cond (p y) y (filter p ys)))
      ] in
      at refl

  -- an instance that goes leaves the list, if it was there
  pub went : (n : ℕ) (m : List Instance) → standing p (without_instance n m) ≡ without_id n (standing p m)
  went n [] = refl
  went n (y ∷ ys) =
      let F : Bool → Type 0 = λ b. (y.id == n) ≡ b → standing p (cond (not b) (y ∷ without_instance n ys) (without_instance n ys)) ≡ without_id n (map (λ (z : Instance). z.id) (cond (p y) (y ∷ filter p ys) (filter p ys))) in
      let G : Bool → Bool → Type 0 = λ b q. map (λ (z : Instance). z.id) (cond q (y ∷ filter p (without_instance n ys)) (filter p (without_instance n ys))) ≡ without_id n (map (λ (z : Instance). z.id) (cond q (y ∷ filter p ys) (filter p ys))) in
      let at : F (y.id == n) = elim (y.id == n) as F [
        | true ↦ λ e.
            let H : Bool → Type 0 = λ q. standing p (without_instance n ys) ≡ without_id n (map (λ (z : Instance). z.id) (cond q (y ∷ filter p ys) (filter p ys))) in
            elim (p y) as H [ true ↦ rw e (went n ys) | false ↦ went n ys ]
        | false ↦ λ e. elim (p y) as (G false) [ true ↦ rw e (ap (λ zs. y.id ∷ zs) (went n ys)) | false ↦ went n ys ]
      ] in
      at refl

  absent_above : (n k : ℕ) (m : List Instance) → k ≤ n → AllAbove n m → is_present k m ≡ false
  absent_above n k [] l h = refl
  absent_above n k (x ∷ xs) l h = rw (ne_eqb x.id k (omega (arith, h.0))) (absent_above n k xs l h.1)

  -- and leaves it as it was, if it doesn't pass
  pub unheard : (n : ℕ) (x : Instance) (m : List Instance) → IsModel m → instance_at n m ≡ Some x → p x ≡ false → without_id n (standing p m) ≡ standing p m
  unheard n x [] h e f = refl
  unheard n x (y ∷ ys) h e f =
      let F : Bool → Type 0 = λ b. (y.id == n) ≡ b → cond b (Some y) (instance_at n ys) ≡ Some x → without_id n (standing p (y ∷ ys)) ≡ standing p (y ∷ ys) in
      let G : Bool → Type 0 = λ q. without_id n (map (λ (z : Instance). z.id) (cond q (y ∷ filter p ys) (filter p ys))) ≡ map (λ (z : Instance). z.id) (cond q (y ∷ filter p ys) (filter p ys)) in
      let at : F (y.id == n) = elim (y.id == n) as F [
        | true ↦ λ t k.
            let same : y ≡ x = cc in
            let none : p y ≡ false = ap p same ∙ f in
            let here : y.id ≡ n = eqb-true y.id n t in
            subst G (sym none) (all_apart n ys (absent_above y.id n ys (omega (arith, here)) h.0))
        | false ↦ λ t k. elim (p y) as G [ true ↦ rw t (ap (λ zs. y.id ∷ zs) (unheard n x ys h.1 k f)) | false ↦ unheard n x ys h.1 k f ]
      ] in
      at refl e
