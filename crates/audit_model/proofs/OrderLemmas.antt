-- A list of instances of distinct ids that ascends by id is the model of its file. Two models are equal where some instance of
-- the one passes a test exactly where some instance of the other does.
use Rattle.std.proofs.Common.{◌≡◌, ℕ, suc, ◌<◌, ◌≤◌, Bool, true, false, ◌&&◌, ◌||◌, not, if◌then◌else◌, List, [], ◌∷◌, length, get_or, refl, ap, sym, ◌∙◌, ⊎_elim, arith}
use Rattle.std.specs.Prelude.{◌==◌, nat_lt, sum_by}
use Rattle.std.specs.List.{list_any}
use Rattle.std.specs.List.Sorted.{IsPermutation, IsNonDecreasingBy}
use Rattle.std.proofs.lemmas.Bool.{cases_Bool, or_cases, or_parts, ltb-true, ltb-false, eqb-true, eqb-false, eq-eqb, ne_eqb, true≢false}
use Rattle.std.proofs.lemmas.List.Sums.{sum_by-cons}
use Rattle.std.proofs.lemmas.List.Sorted.{list_any-IsPermutation, sum_by-IsPermutation}
use Rattle.ifc_base.specs.declared.value.Instance.{Instance}
use Rattle.ifc_base.specs.Ids.{has_id, HasDistinctIds}
use Rattle.ifc_base.specs.Same.{instance_eq, instance_eq-Decides}
use Rattle.audit_model.specs.Models.{AllAbove, IsModel, is_present, with_instance, model_of_file}

-- ---- the instances of a file's model

or_swap : (a b c : Bool) → (a || (b || c)) ≡ (b || (a || c))
or_swap true true c = refl
or_swap true false c = refl
or_swap false b c = refl

-- a model with one more instance has that one and its own
pub any-with_instance : (p : Instance → Bool) (x : Instance) (m : List Instance) → list_any p (with_instance x m) ≡ (p x || list_any p m)
any-with_instance p x [] = refl
any-with_instance p x (y ∷ ys) =
    elim (nat_lt x.id y.id) as (λ b. list_any p (if b then x ∷ y ∷ ys else y ∷ with_instance x ys) ≡ (p x || (p y || list_any p ys))) [
      | true ↦ refl
      | false ↦ ap (λ b. p y || b) (any-with_instance p x ys) ∙ or_swap (p y) (p x) (list_any p ys)
    ]

pub any-model_of_file : (p : Instance → Bool) (xs : List Instance) → list_any p (model_of_file xs) ≡ list_any p xs
any-model_of_file p [] = refl
any-model_of_file p (x ∷ xs) = any-with_instance p x (model_of_file xs) ∙ ap (λ b. p x || b) (any-model_of_file p xs)

-- ---- the model of a file ascends

AllAbove-from_above : (i j : ℕ) (xs : List Instance) → i < j → AllAbove j xs → AllAbove i xs
AllAbove-from_above i j [] l above = tt
AllAbove-from_above i j (x ∷ xs) l above = (omega (arith, above.0), AllAbove-from_above i j xs l above.1)

AllAbove-with_instance : (i : ℕ) (x : Instance) (m : List Instance) → i < x.id → AllAbove i m → AllAbove i (with_instance x m)
AllAbove-with_instance i x [] l above = (l, tt)
AllAbove-with_instance i x (y ∷ ys) l above =
    elim (nat_lt x.id y.id) as (λ b. AllAbove i (if b then x ∷ y ∷ ys else y ∷ with_instance x ys)) [
      | true ↦ (l, above)
      | false ↦ (above.0, AllAbove-with_instance i x ys l above.1)
    ]

IsModel-with_instance : (x : Instance) (m : List Instance) → IsModel m → is_present x.id m ≡ false → IsModel (with_instance x m)
IsModel-with_instance x [] model absent = (tt, tt)
IsModel-with_instance x (y ∷ ys) model absent =
    let apart = or_parts (y.id == x.id) (is_present x.id ys) absent in
    ⊎_elim
    (λ below. let P : Bool → Type 0 = λ b. IsModel (if b then x ∷ y ∷ ys else y ∷ with_instance x ys) in
    let less = ltb-true x.id y.id below in
    rw below ((less, AllAbove-from_above x.id y.id ys less model.0), model))
    (λ above.
    let least = ltb-false x.id y.id above in
    let other = eqb-false y.id x.id apart.0 in
    rw above (AllAbove-with_instance y.id x ys (omega arith) model.0, IsModel-with_instance x ys model.1 apart.1))
    (cases_Bool (nat_lt x.id y.id))

-- an id is looked for from either side
same_test : (n m : ℕ) → (n == m) ≡ (m == n)
same_test n m = ⊎_elim (λ same. same ∙ sym (eq-eqb m n (sym (eqb-true n m same)))) (λ other. other ∙ sym (ne_eqb m n (λ e. eqb-false n m other (sym e)))) (cases_Bool (n == m))

present_by_id : (n : ℕ) (xs : List Instance) → is_present n xs ≡ has_id n xs
present_by_id n [] = refl
present_by_id n (x ∷ xs) = ap (λ (b : Bool). b || is_present n xs) (same_test x.id n) ∙ ap (λ (b : Bool). (n == x.id) || b) (present_by_id n xs)

pub IsModel-model_of_file : (xs : List Instance) → HasDistinctIds xs → IsModel (model_of_file xs)
IsModel-model_of_file [] distinct = tt
IsModel-model_of_file (x ∷ xs) distinct =
    IsModel-with_instance x (model_of_file xs) (IsModel-model_of_file xs distinct.1) (any-model_of_file (λ y. y.id == x.id) xs ∙ present_by_id x.id xs ∙ distinct.0)

-- ---- a model is known by the tests that its instances pass

-- an instance of a list whose ids are above i has an id above i
above-from_any : (i : ℕ) (x : Instance) (ys : List Instance) → AllAbove i ys → list_any (instance_eq x) ys ≡ true → i < x.id
above-from_any i x [] above found = absurd (true≢false (sym found))
above-from_any i x (y ∷ ys) above found = ⊎_elim
    (λ same. let e = ap (λ (z : Instance). z.id) ((instance_eq-Decides x y).0 same) in let l = above.0 in omega (arith, e, l))
    (λ later. above-from_any i x ys above.1 later)
    (or_cases (instance_eq x y) (list_any (instance_eq x) ys) found)

-- the test, where it is asked of instances of other ids than i
abbrev except : ℕ → (Instance → Bool) → Instance → Bool
except i p x = not (x.id == i) && p x

any-except : (i : ℕ) (p : Instance → Bool) (xs : List Instance) → AllAbove i xs → list_any (except i p) xs ≡ list_any p xs
any-except i p [] above = refl
any-except i p (x ∷ xs) above =
    let other : (x.id == i) ≡ false = ne_eqb x.id i (λ e. absurd (let l = above.0 in omega (arith, l, e))) in
    ap (λ b. (not b && p x) || list_any (except i p) xs) other ∙ ap (λ b. p x || b) (any-except i p xs above.1)

except-self : (i : ℕ) (p : Instance → Bool) (x : Instance) → x.id ≡ i → except i p x ≡ false
except-self i p x e = ap (λ b. not b && p x) (eq-eqb x.id i e)

pub models_agree : (xs ys : List Instance) → IsModel xs → IsModel ys → ((p : Instance → Bool) → list_any p xs ≡ list_any p ys) → xs ≡ ys
models_agree [] [] left right same = refl
models_agree [] (y ∷ ys) left right same = absurd (true≢false (sym (same (λ _. true))))
models_agree (x ∷ xs) [] left right same = absurd (true≢false (same (λ _. true)))
models_agree (x ∷ xs) (y ∷ ys) left right same =
    let x_itself = (instance_eq-Decides x x).1 refl in
    let y_itself = (instance_eq-Decides y y).1 refl in
    let x_found : list_any (instance_eq x) (y ∷ ys) ≡ true = sym (same (instance_eq x)) ∙ ap (λ b. b || list_any (instance_eq x) xs) x_itself in
    let y_found : list_any (instance_eq y) (x ∷ xs) ≡ true = same (instance_eq y) ∙ ap (λ b. b || list_any (instance_eq y) ys) y_itself in
    let first : x ≡ y = first_agree x y xs ys left.0 right.0 x_found y_found in
    let id : x.id ≡ y.id = ap (λ (z : Instance). z.id) first in
    let rest : (p : Instance → Bool) → list_any p xs ≡ list_any p ys = λ p.
    sym (any-except x.id p xs left.0)
    ∙ ap (λ b. b || list_any (except x.id p) xs) (sym (except-self x.id p x refl))
    ∙ same (except x.id p)
    ∙ ap (λ b. b || list_any (except x.id p) ys) (except-self x.id p y (sym id))
    ∙ ap (λ i. list_any (except i p) ys) id
    ∙ any-except y.id p ys right.0 in
    let later = models_agree xs ys left.1 right.1 rest in
    λ i. first i ∷ later i
  where
    first_agree : (x y : Instance) (xs ys : List Instance) → AllAbove x.id xs → AllAbove y.id ys → list_any (instance_eq x) (y ∷ ys) ≡ true → list_any (instance_eq y) (x ∷ xs) ≡ true → x ≡ y
    first_agree x y xs ys left right x_found y_found = ⊎_elim
        (λ same. (instance_eq-Decides x y).0 same)
        (λ later. let high = above-from_any y.id x ys right later in ⊎_elim
        (λ same. sym ((instance_eq-Decides y x).0 same))
        (λ other. let low = above-from_any x.id y xs left other in absurd (omega arith))
        (or_cases (instance_eq y x) (list_any (instance_eq y) xs) y_found))
        (or_cases (instance_eq x y) (list_any (instance_eq x) ys) x_found)

-- ---- a sorted list of distinct ids ascends

-- 1 at an instance of this id
abbrev of_id : ℕ → Instance → ℕ
of_id i x = if x.id == i then 1 else 0

-- an id that isn't there stands nowhere
no_more : (i : ℕ) (xs : List Instance) → is_present i xs ≡ false → sum_by (of_id i) xs ≡ 0
no_more i [] absent = refl
no_more i (x ∷ xs) absent =
    let apart = or_parts (x.id == i) (is_present i xs) absent in
    let here : of_id i x ≡ 0 = ap (λ b. if b then 1 else 0) apart.0 in
    let there = no_more i xs apart.1 in
    omega (arith, here, there, sum_by-cons (of_id i) x xs)

at_most_once : (i : ℕ) (xs : List Instance) → HasDistinctIds xs → sum_by (of_id i) xs ≤ 1
at_most_once i [] distinct = omega arith
at_most_once i (x ∷ xs) distinct = ⊎_elim
    (λ same. let e = eqb-true x.id i same in
    let here : of_id i x ≡ 1 = ap (λ b. if b then 1 else 0) same in
    let there : sum_by (of_id i) xs ≡ 0 = no_more i xs (ap (λ j. is_present j xs) (sym e) ∙ present_by_id x.id xs ∙ distinct.0) in
    omega (arith, here, there, sum_by-cons (of_id i) x xs))
    (λ other. let here : of_id i x ≡ 0 = ap (λ b. if b then 1 else 0) other in
    let there = at_most_once i xs distinct.1 in
    omega (arith, here, there, sum_by-cons (of_id i) x xs))
    (cases_Bool (x.id == i))

-- ids that are no lower than i, and of which none is i, are above i
above-from_counts : (i : ℕ) (xs : List Instance) → ((k : ℕ) (d : Instance) → k < length xs → i ≤ (get_or xs k d).id) → sum_by (of_id i) xs ≡ 0 → AllAbove i xs
above-from_counts i [] low none = tt
above-from_counts i (x ∷ xs) low none = ⊎_elim
    (λ same. absurd (let here : of_id i x ≡ 1 = ap (λ b. if b then 1 else 0) same in omega (arith, here, none, sum_by-cons (of_id i) x xs)))
    (λ other. let here : of_id i x ≡ 0 = ap (λ b. if b then 1 else 0) other in
    let apart = eqb-false x.id i other in
    let least = low 0 x (omega arith) in
    let above : i < x.id = omega (arith, apart, least) in
    (above, above-from_counts i xs (λ k d l. low (suc k) d (omega arith)) (omega (arith, here, none, sum_by-cons (of_id i) x xs))))
    (cases_Bool (x.id == i))

pub IsModel-from_sorted : (xs : List Instance) → IsNonDecreasingBy (λ (x : Instance). x.id) xs → ((i : ℕ) → sum_by (of_id i) xs ≤ 1) → IsModel xs
IsModel-from_sorted [] up once = tt
IsModel-from_sorted (x ∷ xs) up once =
    let here : of_id x.id x ≡ 1 = ap (λ b. if b then 1 else 0) (eq-eqb x.id x.id refl) in
    let once_here = once x.id in (
      above-from_counts x.id xs (λ k d l. up 0 (suc k) d (omega arith) (omega arith)) (omega (arith, here, once_here, sum_by-cons (of_id x.id) x xs)),
      IsModel-from_sorted xs (λ i j d a b. up (suc i) (suc j) d (omega arith) (omega arith)) (λ i. let all = once i in omega (arith, all, sum_by-cons (of_id i) x xs)),
    )

-- ---- what a sort by id gives

pub IsModel-sorted : (xs ys : List Instance) → HasDistinctIds xs → IsPermutation xs ys → IsNonDecreasingBy (λ (x : Instance). x.id) ys → IsModel ys
IsModel-sorted xs ys distinct moved up = IsModel-from_sorted ys up (λ i.
    let same = sum_by-IsPermutation (of_id i) xs ys moved in
    let once = at_most_once i xs distinct in
    omega (arith, same, once))

pub sorted_is_model : (xs ys : List Instance) → HasDistinctIds xs → IsPermutation xs ys → IsNonDecreasingBy (λ (x : Instance). x.id) ys → ys ≡ model_of_file xs
sorted_is_model xs ys distinct moved up =
    models_agree ys (model_of_file xs) (IsModel-sorted xs ys distinct moved up) (IsModel-model_of_file xs distinct) (λ p.
    sym (list_any-IsPermutation p xs ys moved) ∙ sym (any-model_of_file p xs))
