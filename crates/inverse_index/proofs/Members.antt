-- Ascending lists of ids with the same members are one, and so are the lists of those who pass a test in two models where at each id the
-- same passes.
use Rattle.std.proofs.Common.{◌≡◌, ℕ, ◌<◌, ◌==◌, Bool, true, false, ◌||◌, cond, List, [], ◌∷◌, map, filter, Some, None, refl, sym, subst, ap, ◌∙◌, arith}
use Rattle.std.specs.List.{list_any}
use Rattle.std.proofs.lemmas.Bool.{eqb-true, ne_eqb, eq-eqb, false≢true}
use Rattle.ifc_base.specs.declared.value.Instance.{Instance}
use Rattle.audit_model.specs.Models.{IsModel, AllAbove, instance_at}
use Rattle.inverse_index.proofs.Passing.{standing, passes}

abbrev pub AllOver : ℕ → List ℕ → Type 0
AllOver n [] = Unit {0}
AllOver n (x ∷ xs) = (n < x) × AllOver n xs

abbrev pub Ascends : List ℕ → Type 0
Ascends [] = Unit {0}
Ascends (x ∷ xs) = AllOver x xs × Ascends xs

abbrev pub has : ℕ → List ℕ → Bool
has i xs = list_any (λ y. y == i) xs

none_over : (n : ℕ) (xs : List ℕ) → AllOver n xs → has n xs ≡ false
none_over n [] h = refl
none_over n (x ∷ xs) h = rw (ne_eqb x n (omega (arith, h.0))) (none_over n xs h.1)

below_has : (k i : ℕ) (xs : List ℕ) → AllOver k xs → has i xs ≡ true → k < i
below_has k i [] h e = absurd (false≢true e)
below_has k i (x ∷ xs) h e =
    let F : Bool → Type 0 = λ b. (x == i) ≡ b → (b || has i xs) ≡ true → k < i in
    let at : F (x == i) = elim (x == i) as F [ true ↦ λ t j. let here : x ≡ i = eqb-true x i t in omega (arith, here, h.0) | false ↦ λ t j. below_has k i xs h.1 j ] in
    at refl e

here_has : (x : ℕ) (xs : List ℕ) → has x (x ∷ xs) ≡ true
here_has x xs = rw (eq-eqb x x refl) refl

same_first : (x y : ℕ) (xs ys : List ℕ) → AllOver x xs → AllOver y ys → ((i : ℕ) → has i (x ∷ xs) ≡ has i (y ∷ ys)) → x ≡ y
same_first x y xs ys h k e =
    let F : Bool → Type 0 = λ b. (y == x) ≡ b → (b || has x ys) ≡ true → x ≡ y in
    let at : F (y == x) = elim (y == x) as F [
      | true ↦ λ t j. sym (eqb-true y x t)
      | false ↦ λ t j.
          let below : y < x = below_has y x ys k j in
          let G : Bool → Type 0 = λ b. (x == y) ≡ b → (b || has y xs) ≡ true → x ≡ y in
          let other : G (x == y) = elim (x == y) as G [ true ↦ λ s i. eqb-true x y s | false ↦ λ s i. let above : x < y = below_has x y xs h i in absurd (omega arith) ] in
          other refl (e y ∙ here_has y ys)
    ] in
    at refl (sym (e x) ∙ here_has x xs)

pub same_members : (xs ys : List ℕ) → Ascends xs → Ascends ys → ((i : ℕ) → has i xs ≡ has i ys) → xs ≡ ys
same_members [] [] h k e = refl
same_members [] (y ∷ ys) h k e = absurd (false≢true (e y ∙ here_has y ys))
same_members (x ∷ xs) [] h k e = absurd (false≢true (sym (e x) ∙ here_has x xs))
same_members (x ∷ xs) (y ∷ ys) h k e =
    let first : x ≡ y = same_first x y xs ys h.0 k.0 e in
    let rest : (i : ℕ) → has i xs ≡ has i ys = λ i.
    let F : Bool → Type 0 = λ b. (x == i) ≡ b → has i xs ≡ has i ys in
    let at : F (x == i) = elim (x == i) as F [
      | true ↦ λ t.
          let here : x ≡ i = eqb-true x i t in
          none_over i xs (subst (λ j. AllOver j xs) here h.0) ∙ sym (none_over i ys (subst (λ j. AllOver j ys) (sym first ∙ here) k.0))
      | false ↦ λ t.
          let u : (y == i) ≡ false = ap (λ z. z == i) (sym first) ∙ t in
          ap (λ b. b || has i xs) (sym t) ∙ e i ∙ ap (λ b. b || has i ys) u
    ] in
    at refl in
    ap (λ z. z ∷ xs) first ∙ ap (λ zs. y ∷ zs) (same_members xs ys h.1 k.1 rest)

-- Those who pass a test in a model.

module _ (p : Instance → Bool) where
  over_standing : (n : ℕ) (m : List Instance) → AllAbove n m → AllOver n (standing p m)
  over_standing n [] h = tt
  over_standing n (x ∷ xs) h = elim (p x) as (λ b. AllOver n (map (λ (y : Instance). y.id) (cond b (x ∷ filter p xs) (filter p xs)))) [ true ↦ (h.0, over_standing n xs h.1) | false ↦ over_standing n xs h.1 ]

  pub ascends : (m : List Instance) → IsModel m → Ascends (standing p m)
  ascends [] h = tt
  ascends (x ∷ xs) h = elim (p x) as (λ b. Ascends (map (λ (y : Instance). y.id) (cond b (x ∷ filter p xs) (filter p xs)))) [ true ↦ (over_standing x.id xs h.0, ascends xs h.1) | false ↦ ascends xs h.1 ]

  none_at : (n : ℕ) (m : List Instance) → AllAbove n m → instance_at n m ≡ None
  none_at n [] h = refl
  none_at n (x ∷ xs) h = rw (ne_eqb x.id n (omega (arith, h.0))) (none_at n xs h.1)

  -- an id is in the list where the instance of that id passes
  pub member : (m : List Instance) (i : ℕ) → IsModel m → has i (standing p m) ≡ passes p (instance_at i m)
  member [] i h = refl
  member (x ∷ xs) i h =
      let F : Bool → Type 0 = λ b. (x.id == i) ≡ b → has i (standing p (x ∷ xs)) ≡ passes p (cond b (Some x) (instance_at i xs)) in
      let at : F (x.id == i) = elim (x.id == i) as F [
        | true ↦ λ t.
            let here : x.id ≡ i = eqb-true x.id i t in
            let none : has i (standing p xs) ≡ false = member xs i h.1 ∙ ap (passes p) (none_at i xs (subst (λ j. AllAbove j xs) here h.0)) in
            elim (p x) as (λ b. has i (map (λ (y : Instance). y.id) (cond b (x ∷ filter p xs) (filter p xs))) ≡ b) [ true ↦ rw t refl | false ↦ none ]
        | false ↦ λ t.
            elim (p x) as (λ b. has i (map (λ (y : Instance). y.id) (cond b (x ∷ filter p xs) (filter p xs))) ≡ passes p (instance_at i xs)) [ true ↦ rw t (member xs i h.1) | false ↦ member xs i h.1 ]
      ] in
      at refl
