-- The first place in a list at which a test passes.
use Rattle.std.proofs.Common.{◌≡◌, ℕ, zero, suc, ◌+◌, ◌<◌, ◌≤◌, Bool, true, false, cond, not, ◌||◌, eqb, nat_lt, take, is_none, List, [], ◌∷◌, ◌++◌, length, position, find, Option, Some, None, if◌then◌else◌, refl, ap, sym, ◌∙◌, arith, length-append, ⊎_elim}
use Rattle.std.specs.List.{list_any, slice_get, position_or_len}
use Rattle.std.specs.Option.{option_or, option_and_then, option_map}
use Rattle.schema_table.specs.Climbing.{is_number}
use Rattle.std.proofs.lemmas.Bool.{eq-eqb, cases_lt}
use Rattle.std.proofs.lemmas.Bool.Decides.{eqb_tells, nat_tests}
use Rattle.std.proofs.lemmas.Option.{slice_get_past}
use Rattle.std.proofs.lemmas.List.Folds.{find_at, position_or_len_push}
use Rattle.std.proofs.lemmas.List.Sums.{prefix_len-le-length}

pub find_at_position : {X : Type 0} (p : X → Bool) (xs : List X) → find p xs ≡ option_and_then (slice_get xs) (position p xs)
find_at_position p xs =
    let F : Bool → Type 0 = λ b. nat_lt (position_or_len p xs) (length xs) ≡ b → find p xs ≡ option_and_then (slice_get xs) (cond b (Some (position_or_len p xs)) None) in
    let at : F (nat_lt (position_or_len p xs) (length xs)) = elim (nat_lt (position_or_len p xs) (length xs)) as F [
      | true ↦ λ f. find_at p xs
      | false ↦ λ f. find_at p xs ∙ slice_get_past xs (position_or_len p xs) (grind (arith, f))
    ] in
    at refl

pub position_is : {X : Type 0} (p : X → Bool) (xs : List X) (k : ℕ) → position p xs ≡ Some k → position_or_len p xs ≡ k
position_is p xs k e =
    let F : Bool → Type 0 = λ b. cond b (Some (position_or_len p xs)) None ≡ Some k → position_or_len p xs ≡ k in
    let at : F (nat_lt (position_or_len p xs) (length xs)) = elim (nat_lt (position_or_len p xs) (length xs)) as F [ true ↦ λ g. cc | false ↦ λ g. absurd (cc) ] in
    at e

pub position_within : {X : Type 0} (p : X → Bool) (xs : List X) (k : ℕ) → position p xs ≡ Some k → k < length xs
position_within p xs k e =
    let F : Bool → Type 0 = λ b. nat_lt (position_or_len p xs) (length xs) ≡ b → cond b (Some (position_or_len p xs)) None ≡ Some k → k < length xs in
    let at : F (nat_lt (position_or_len p xs) (length xs)) = elim (nat_lt (position_or_len p xs) (length xs)) as F [
      | true ↦ λ f g. let same : position_or_len p xs ≡ k = cc in grind (arith, f, same)
      | false ↦ λ f g. absurd (cc)
    ] in
    at refl e

pub there_is : {X : Type 0} (xs : List X) (k : ℕ) → k < length xs → slice_get xs k ≡ None → ⊥
there_is [] k h f = omega arith
there_is (x ∷ xs) zero h f = cc
there_is (x ∷ xs) (suc k) h f = there_is xs k (omega arith) f

pub position_from : {X : Type 0} (p : X → Bool) (xs : List X) (k : ℕ) → position_or_len p xs ≡ k → k < length xs → position p xs ≡ Some k
position_from p xs k e h =
    let test : nat_lt (position_or_len p xs) (length xs) ≡ true = grind (arith, nat_tests, e, h) in
    rw test (ap Some e)

pub first_in_front : {X : Type 0} (p : X → Bool) (xs ys : List X) (k : ℕ) → position_or_len p xs ≡ k → k < length xs → position_or_len p (xs ++ ys) ≡ k
first_in_front p [] ys k e h = absurd (omega arith)
first_in_front p (x ∷ xs) ys k e h =
    let F : Bool → Type 0 = λ b. cond (not b) (1 + position_or_len p xs) 0 ≡ k → cond (not b) (1 + position_or_len p (xs ++ ys)) 0 ≡ k in
    let at : F (p x) = elim (p x) as F [
      | true ↦ λ f. f
      | false ↦ λ f.
          let next : 1 + position_or_len p xs ≡ k = f in
          let less : position_or_len p xs < length xs = omega arith in
          ap (λ n. 1 + n) (first_in_front p xs ys (position_or_len p xs) refl less) ∙ f
    ] in
    at e

pub place_in_front : {X : Type 0} (p : X → Bool) (xs ys : List X) (k : ℕ) → position p xs ≡ Some k → position p (xs ++ ys) ≡ Some k
place_in_front p xs ys k e =
    let inside : k < length xs = position_within p xs k e in
    position_from p (xs ++ ys) k (first_in_front p xs ys k (position_is p xs k e) inside) (omega (arith, length-append xs ys))

pub position_past : {X : Type 0} (p : X → Bool) (xs : List X) → length xs ≤ position_or_len p xs → position p xs ≡ None
position_past p xs h =
    let test : nat_lt (position_or_len p xs) (length xs) ≡ false = grind (arith, nat_tests, h) in
    rw test refl

-- one more item is found where none before it is
pub position_push : {X : Type 0} (p : X → Bool) (xs : List X) (y : X) → position p (xs ++ y ∷ []) ≡ option_or (position p xs) (if p y then Some (length xs) else None)
position_push p xs y =
    ⊎_elim
    (λ less. let here : position p xs ≡ Some (position_or_len p xs) = position_from p xs (position_or_len p xs) refl less in
    place_in_front p xs (y ∷ []) (position_or_len p xs) here ∙ ap (λ o. option_or o (if p y then Some (length xs) else None)) (sym here))
    (λ past.
    let within : position_or_len p xs ≤ length xs = prefix_len-le-length (λ x. not (p x)) xs in
    let at : position_or_len p xs ≡ length xs = omega arith in
    let end : eqb (position_or_len p xs) (length xs) ≡ true = ap (λ n. eqb n (length xs)) at ∙ same (length xs) in
    let first : position_or_len p (xs ++ y ∷ []) ≡ length xs + cond (p y) 0 1 = position_or_len_push p xs y ∙ ap (λ b. cond b (length xs + cond (p y) 0 1) (position_or_len p xs)) end in
    by (p y) first ∙ ap (λ o. option_or o (if p y then Some (length xs) else None)) (sym (position_past p xs past)))
    (cases_lt (position_or_len p xs) (length xs))
  where
    same : (n : ℕ) → eqb n n ≡ true
    same n = ⊎_elim (λ t. t.0) (λ t. absurd (t.1 refl)) (eqb_tells n n)

    by : (b : Bool) → position_or_len p (xs ++ y ∷ []) ≡ length xs + cond b 0 1 → position p (xs ++ y ∷ []) ≡ (if b then Some (length xs) else None)
    by true f = position_from p (xs ++ y ∷ []) (length xs) (let g : position_or_len p (xs ++ y ∷ []) ≡ length xs = omega arith in g) (omega (arith, length-append xs (y ∷ [])))
    by false f = position_past p (xs ++ y ∷ []) (omega (arith, length-append xs (y ∷ [])))

pub position_cons : {X : Type 0} (p : X → Bool) (x : X) (xs : List X) → position p (x ∷ xs) ≡ (if p x then Some 0 else option_map suc (position p xs))
position_cons {X} p x xs = by (p x) refl
  where
    by : (b : Bool) → p x ≡ b → position p (x ∷ xs) ≡ (if b then Some 0 else option_map suc (position p xs))
    by true f = position_from p (x ∷ xs) 0 (rw f refl) (omega arith)
    by false f =
        let next : position_or_len p (x ∷ xs) ≡ 1 + position_or_len p xs = rw f refl in
        ⊎_elim
        (λ less. position_from p (x ∷ xs) (suc (position_or_len p xs)) (omega (arith, next)) (omega arith) ∙ ap (option_map suc) (sym (position_from p xs (position_or_len p xs) refl less)))
        (λ past. position_past p (x ∷ xs) (omega (arith, next)) ∙ ap (option_map suc) (sym (position_past p xs past)))
        (cases_lt (position_or_len p xs) (length xs))

suc_eqb : (k i : ℕ) → eqb (suc k) (suc i) ≡ eqb k i
suc_eqb k i =
    ⊎_elim
    (λ t. eq-eqb (suc k) (suc i) (ap suc t.1) ∙ sym t.0)
    (λ t. ⊎_elim (λ u. absurd (t.1 (let e : suc k ≡ suc i = u.1 in omega arith))) (λ u. u.0 ∙ sym t.0) (eqb_tells (suc k) (suc i)))
    (eqb_tells k i)

-- Of an item that passes: one before it passes exactly where its place isn't the first.
pub stood_before : {X : Type 0} (p : X → Bool) (xs : List X) (i : ℕ) (x : X) → slice_get xs i ≡ Some x → p x ≡ true → list_any p (take i xs) ≡ not (is_number (position p xs) i)
stood_before p [] i x e h = absurd (cc)
stood_before p (y ∷ ys) zero x e h =
    let same : y ≡ x = cc in
    let passes : p y ≡ true = ap p same ∙ h in
    sym (ap (λ o. not (is_number o 0)) (position_cons p y ys ∙ ap (λ b. if b then Some 0 else option_map suc (position p ys)) passes))
stood_before p (y ∷ ys) (suc i) x e h =
    sym (ap (λ o. not (is_number o (suc i))) (position_cons p y ys) ∙ by (p y) ∙ ap (λ b. p y || b) (sym (stood_before p ys i x e h)))
  where
    shifted : (o : Option ℕ) → is_number (option_map suc o) (suc i) ≡ is_number o i
    shifted None = refl
    shifted (Some k) = suc_eqb i k

    by : (b : Bool) → not (is_number (if b then Some 0 else option_map suc (position p ys)) (suc i)) ≡ (b || not (is_number (position p ys) i))
    by true = ap not (⊎_elim (λ t. absurd (let e : suc i ≡ 0 = t.1 in omega arith)) (λ t. t.0) (eqb_tells (suc i) 0))
    by false = ap not (shifted (position p ys))

pub found_or_not : {X : Type 0} (p : X → Bool) (xs : List X) → is_none (find p xs) ≡ is_none (position p xs)
found_or_not p xs = ap is_none (find_at_position p xs) ∙ by (position p xs) refl
  where
    by : (o : Option ℕ) → position p xs ≡ o → is_none (option_and_then (slice_get xs) o) ≡ is_none o
    by None f = refl
    by (Some k) f = there (slice_get xs k) (λ g. there_is xs k (position_within p xs k f) g)
      where
        there : {X : Type 0} (o : Option X) → (o ≡ None → ⊥) → is_none o ≡ false
        there None h = absurd (h refl)
        there (Some x) h = refl

-- tests that say the same find the same
pub position_same : {X : Type 0} (p q : X → Bool) → ((x : X) → p x ≡ q x) → (xs : List X) → position p xs ≡ position q xs
position_same p q h xs = ap (λ k. cond (nat_lt k (length xs)) (Some k) None) (first h xs)
  where
    first : {X : Type 0} {p q : X → Bool} → ((x : X) → p x ≡ q x) → (xs : List X) → position_or_len p xs ≡ position_or_len q xs
    first h [] = refl
    first {p} {q} h (x ∷ xs) = rw (h x, first h xs) refl
