-- Models by what stands at each id.
use Rattle.std.proofs.Common.{◌≡◌, ℕ, ◌<◌, ◌==◌, nat_lt, Bool, true, false, ◌||◌, cond, if◌then◌else◌, List, [], ◌∷◌, Option, Some, None, refl, sym, subst, ap, ◌∙◌, arith}
use Rattle.std.proofs.lemmas.Bool.{eqb-true, ne_eqb, eq-eqb, false≢true}
use Rattle.ifc_base.specs.declared.value.Instance.{Instance}
use Rattle.audit_model.specs.declared.commit.Edit.TheVariants.{Add, Remove}
use Rattle.audit_model.specs.Models.{IsModel, AllAbove, instance_at, is_present, with_instance}
use Rattle.audit_model.specs.Edits.{without_instance}
use Rattle.audit_model.proofs.EditLaws.{model_with, at_edited}
use Rattle.inverse_index.specs.Index.{replaced, HasId}
use Rattle.inverse_index.proofs.Replacing.{model_filter, absent_without}

-- Two models with the same at each id are one.

pub none_at : (n : ℕ) (m : List Instance) → AllAbove n m → instance_at n m ≡ None
none_at n [] h = refl
none_at n (x ∷ xs) h = rw (ne_eqb x.id n (omega (arith, h.0))) (none_at n xs h.1)

below_at : (n k : ℕ) (x : Instance) (m : List Instance) → AllAbove k m → instance_at n m ≡ Some x → k < n
below_at n k x [] h e = absurd (cc)
below_at n k x (y ∷ ys) h e =
    let F : Bool → Type 0 = λ b. (y.id == n) ≡ b → cond b (Some y) (instance_at n ys) ≡ Some x → k < n in
    let at : F (y.id == n) = elim (y.id == n) as F [ true ↦ λ t j. let here : y.id ≡ n = eqb-true y.id n t in omega (arith, here, h.0) | false ↦ λ t j. below_at n k x ys h.1 j ] in
    at refl e

here_at : (x : Instance) (xs : List Instance) → instance_at x.id (x ∷ xs) ≡ Some x
here_at x xs = rw (eq-eqb x.id x.id refl) refl

-- the first of two models with the same at each id
same_head : (x y : Instance) (xs ys : List Instance) → AllAbove x.id xs → AllAbove y.id ys → ((i : ℕ) → instance_at i (x ∷ xs) ≡ instance_at i (y ∷ ys)) → x ≡ y
same_head x y xs ys h k e =
    let F : Bool → Type 0 = λ b. (y.id == x.id) ≡ b → cond b (Some y) (instance_at x.id ys) ≡ Some x → x ≡ y in
    let at : F (y.id == x.id) = elim (y.id == x.id) as F [
      | true ↦ λ t j. cc
      | false ↦ λ t j.
          let below : y.id < x.id = below_at x.id y.id x ys k j in
          let G : Bool → Type 0 = λ b. (x.id == y.id) ≡ b → cond b (Some x) (instance_at y.id xs) ≡ Some y → x ≡ y in
          let other : G (x.id == y.id) = elim (x.id == y.id) as G [
            | true ↦ λ s i. cc
            | false ↦ λ s i. let above : x.id < y.id = below_at y.id x.id y xs h i in absurd (omega arith)
          ] in
          other refl (e y.id ∙ here_at y ys)
    ] in
    at refl (sym (e x.id) ∙ here_at x xs)

pub same_models : (m n : List Instance) → IsModel m → IsModel n → ((i : ℕ) → instance_at i m ≡ instance_at i n) → m ≡ n
same_models [] [] h k e = refl
same_models [] (y ∷ ys) h k e = absurd (let t : None ≡ Some y = e y.id ∙ here_at y ys in cc)
same_models (x ∷ xs) [] h k e = absurd (let t : None ≡ Some x = sym (e x.id) ∙ here_at x xs in cc)
same_models (x ∷ xs) (y ∷ ys) h k e =
    let first : x ≡ y = same_head x y xs ys h.0 k.0 e in
    let rest : (i : ℕ) → instance_at i xs ≡ instance_at i ys = λ i.
    let F : Bool → Type 0 = λ b. (x.id == i) ≡ b → instance_at i xs ≡ instance_at i ys in
    let at : F (x.id == i) = elim (x.id == i) as F [
      | true ↦ λ t.
          let here : x.id ≡ i = eqb-true x.id i t in
          let there : y.id ≡ i = sym (ap (λ (z : Instance). z.id) first) ∙ here in
          none_at i xs (subst (λ j. AllAbove j xs) here h.0) ∙ sym (none_at i ys (subst (λ j. AllAbove j ys) there k.0))
      | false ↦ λ t.
          let u : (y.id == i) ≡ false = ap (λ (z : Instance). z.id == i) (sym first) ∙ t in
          ap (λ b. cond b (Some x) (instance_at i xs)) (sym t) ∙ e i ∙ ap (λ b. cond b (Some y) (instance_at i ys)) u
    ] in
    at refl in
    ap (λ z. z ∷ xs) first ∙ ap (λ zs. y ∷ zs) (same_models xs ys h.1 k.1 rest)

-- What stands at an id after a change.

pub at_with_here : (x : Instance) (m : List Instance) → is_present x.id m ≡ false → instance_at x.id (with_instance x m) ≡ Some x
at_with_here x [] e = here_at x []
at_with_here x (y ∷ ys) e =
    let F : Bool → Type 0 = λ b. (y.id == x.id) ≡ b → (b || is_present x.id ys) ≡ false → instance_at x.id (with_instance x (y ∷ ys)) ≡ Some x in
    let at : F (y.id == x.id) = elim (y.id == x.id) as F [
      | true ↦ λ t k. absurd (false≢true (sym k))
      | false ↦ λ t k.
          elim (nat_lt x.id y.id) as (λ b. instance_at x.id (if b then (x ∷ y ∷ ys) else (y ∷ with_instance x ys)) ≡ Some x) [
            | true ↦ here_at x (y ∷ ys)
            | false ↦ rw t (at_with_here x ys k)
          ]
    ] in
    at refl e

pub none_present : (n : ℕ) (m : List Instance) → is_present n m ≡ false → instance_at n m ≡ None
none_present n [] e = refl
none_present n (x ∷ xs) e =
    let F : Bool → Type 0 = λ b. (b || is_present n xs) ≡ false → cond b (Some x) (instance_at n xs) ≡ None in
    let at : F (x.id == n) = elim (x.id == n) as F [ true ↦ λ k. absurd (false≢true (sym k)) | false ↦ λ k. none_present n xs k ] in
    at e

pub at_replaced : (n : ℕ) (o : Option Instance) (m : List Instance) → HasId n o → (i : ℕ) → instance_at i (replaced n o m) ≡ (if n == i then o else instance_at i m)
at_replaced n o m h i =
    let F : Bool → Type 0 = λ b. (n == i) ≡ b → instance_at i (replaced n o m) ≡ (if b then o else instance_at i m) in
    let at : F (n == i) = elim (n == i) as F [ true ↦ λ t. subst (λ j. instance_at j (replaced n o m) ≡ o) (eqb-true n i t) (here o h) | false ↦ λ t. other o h t ] in
    at refl
  where
    here : (o : Option Instance) → HasId n o → instance_at n (replaced n o m) ≡ o
    here None k = none_present n (without_instance n m) (absent_without n m)
    here (Some x) k = subst (λ j. instance_at j (with_instance x (without_instance n m)) ≡ Some x) k (at_with_here x (without_instance n m) (subst (λ j. is_present j (without_instance n m) ≡ false) (sym k) (absent_without n m)))

    other : (o : Option Instance) → HasId n o → (n == i) ≡ false → instance_at i (replaced n o m) ≡ instance_at i m
    other None k t = at_edited [] i m (Remove n) t
    other (Some x) k t = at_edited [] i (without_instance n m) (Add x) (subst (λ j. (j == i) ≡ false) (sym k) t) ∙ at_edited [] i m (Remove n) t

pub model_replaced : (n : ℕ) (o : Option Instance) (m : List Instance) → HasId n o → IsModel m → IsModel (replaced n o m)
model_replaced n None m h k = model_filter _ m k
model_replaced n (Some x) m h k = model_with x (without_instance n m) (subst (λ j. is_present j (without_instance n m) ≡ false) (sym h) (absent_without n m)) (model_filter _ m k)
