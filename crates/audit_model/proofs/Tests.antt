-- Tests of lists, one element at a time.
use Rattle.std.proofs.Common.{◌≡◌, Bool, true, false, cond, not, ◌&&◌, ◌||◌, List, [], ◌∷◌, ◌++◌, refl, sym, subst, length, find, Some, arith, filter, ◌≤◌, suc}
use Rattle.std.specs.List.{list_all, list_any}

pub and_assoc : (a b c : Bool) → (a && (b && c)) ≡ ((a && b) && c)
and_assoc true b c = refl
and_assoc false b c = refl

pub and_swap : (a b c d : Bool) → ((a && b) && (c && d)) ≡ ((a && c) && (b && d))
and_swap true true c d = refl
and_swap true false true d = refl
and_swap true false false d = refl
and_swap false b c d = refl

pub and_over : (a b c : Bool) → ((a && c) || (b && c)) ≡ ((a || b) && c)
and_over true true true = refl
and_over true true false = refl
and_over true false true = refl
and_over true false false = refl
and_over false b c = refl

pub or_true : (a : Bool) → (a || true) ≡ true
or_true true = refl
or_true false = refl

-- one more choice under the test c: a choice that passes c counts, one that fails it doesn't
pub with_one : (a b c : Bool) → (a ≡ true → c ≡ true) → (a || (b && c)) ≡ ((a || b) && c)
with_one true b c h = sym (h refl)
with_one false b c h = refl

pub without_one : (a b c : Bool) → (a ≡ true → c ≡ false) → (b && c) ≡ ((a || b) && c)
without_one true true c h = refl
without_one true false c h = sym (h refl)
without_one false b c h = refl

-- all pass both tests
pub list_all-both : {X : Type 0} (p q r : X → Bool) → ((x : X) → r x ≡ (p x && q x)) → (xs : List X) → list_all r xs ≡ (list_all p xs && list_all q xs)
list_all-both p q r h [] = refl
list_all-both p q r h (x ∷ xs) = rw (h x, list_all-both p q r h xs) (and_swap (p x) (q x) (list_all p xs) (list_all q xs))

-- a fact about each element holds of one that is found
abbrev pub Each : {X : Type 0} → (X → Type 0) → List X → Type 0
Each P [] = Unit {0}
Each P (x ∷ xs) = P x × Each P xs

pub Each-found : {X : Type 0} (P : X → Type 0) (p : X → Bool) (xs : List X) (y : X) → Each P xs → find p xs ≡ Some y → P y
Each-found P p [] y h e = cc
Each-found {X} P p (x ∷ xs) y h e =
    let F : Bool → Type 0 = λ b. cond b (Some x) (find p xs) ≡ Some y → P y in
    let at : F (p x) = elim (p x) as F [ true ↦ λ e'. let same : x ≡ y = cc in subst P same h.0 | false ↦ λ e'. Each-found P p xs y h.1 e' ] in
    at e

pub Each-filter : {X : Type 0} (P : X → Type 0) (p : X → Bool) (xs : List X) → Each P xs → Each P (filter p xs)
Each-filter P p [] h = tt
Each-filter {X} P p (x ∷ xs) h =
    elim (p x) as (λ b. Each P (cond b (x ∷ filter p xs) (filter p xs))) [ true ↦ (h.0, Each-filter P p xs h.1) | false ↦ Each-filter P p xs h.1 ]

pub Each-push : {X : Type 0} (P : X → Type 0) (xs : List X) (y : X) → Each P xs → P y → Each P (xs ++ y ∷ [])
Each-push P [] y h k = (k, tt)
Each-push P (x ∷ xs) y h k = (h.0, Each-push P xs y h.1 k)

pub Each-weaker : {X : Type 0} (P Q : X → Type 0) → ((x : X) → P x → Q x) → (xs : List X) → Each P xs → Each Q xs
Each-weaker P Q f [] h = tt
Each-weaker P Q f (x ∷ xs) h = (f x h.0, Each-weaker P Q f xs h.1)

pub filter-length : {X : Type 0} (q : X → Bool) (xs : List X) → length (filter q xs) ≤ length xs
filter-length q [] = omega arith
filter-length {X} q (x ∷ xs) =
    let F : Bool → Type 0 = λ b. length (cond b (x ∷ filter q xs) (filter q xs)) ≤ suc (length xs) in
    elim (q x) as F [ true ↦ let k : suc (length (filter q xs)) ≤ suc (length xs) = omega (arith, filter-length q xs) in k | false ↦ omega (arith, filter-length q xs) ]

-- one that is found isn't kept by the filter
pub filter-shorter : {X : Type 0} (p q : X → Bool) → ((x : X) → q x ≡ not (p x)) → (xs : List X) (y : X) → find p xs ≡ Some y → suc (length (filter q xs)) ≤ length xs
filter-shorter p q h [] y e = cc
filter-shorter {X} p q h (x ∷ xs) y e =
    let F : Bool → Type 0 = λ b. cond b (Some x) (find p xs) ≡ Some y → suc (length (cond (not b) (x ∷ filter q xs) (filter q xs))) ≤ suc (length xs) in
    let at : F (p x) = elim (p x) as F [ true ↦ λ e'. let k : suc (length (filter q xs)) ≤ suc (length xs) = omega (arith, filter-length q xs) in k | false ↦ λ e'. let k : suc (suc (length (filter q xs))) ≤ suc (length xs) = omega (arith, filter-shorter p q h xs y e') in k ] in
    rw (h x) (at e)

-- what is found is in the list
pub list_any-found : {X : Type 0} (p q : X → Bool) (xs : List X) (y : X) → q y ≡ true → find p xs ≡ Some y → list_any q xs ≡ true
list_any-found p q [] y k e = cc
list_any-found {X} p q (x ∷ xs) y k e =
    let F : Bool → Type 0 = λ b. cond b (Some x) (find p xs) ≡ Some y → (q x || list_any q xs) ≡ true in
    let at : F (p x) = elim (p x) as F [ true ↦ λ e'. let same : x ≡ y = cc in rw (same, k) | false ↦ λ e'. rw (list_any-found p q xs y k e') (or_true (q x)) ] in
    at e

-- tests that agree at each element
pub list_any-agree : {X : Type 0} (p q : X → Bool) (xs : List X) → Each (λ x. p x ≡ q x) xs → list_any p xs ≡ list_any q xs
list_any-agree p q [] h = refl
list_any-agree p q (x ∷ xs) h = rw (h.0, list_any-agree p q xs h.1)

pub list_any-and : {X : Type 0} (p : X → Bool) (b : Bool) (xs : List X) → list_any (λ x. p x && b) xs ≡ (list_any p xs && b)
list_any-and p b [] = refl
list_any-and p b (x ∷ xs) = rw (list_any-and p b xs) (and_over (p x) (list_any p xs) b)

pub Each-all : {X : Type 0} (P : X → Type 0) → ((x : X) → P x) → (xs : List X) → Each P xs
Each-all P f [] = tt
Each-all P f (x ∷ xs) = (f x, Each-all P f xs)
