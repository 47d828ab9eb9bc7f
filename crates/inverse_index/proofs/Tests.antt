-- Tests of lists of keys, one key at a time.
use Rattle.std.proofs.Common.{◌≡◌, ℕ, ◌+◌, ◌<◌, Bool, true, false, ◌||◌, if◌then◌else◌, List, [], ◌∷◌, ◌++◌, length, take, get_or, refl, sym, ◌∙◌, ap}
use Rattle.std.specs.List.{list_any}
use Rattle.std.proofs.lemmas.List.Folds.{list_any_more}
use Rattle.ifc_base.specs.declared.key.Key.{Key}
use Rattle.ifc_base.specs.KeyOrder.{key_eq, key_eq-Decides}
use Rattle.inverse_index.specs.Index.{has_key}

or_false : (a : Bool) → (a || false) ≡ a
or_false true = refl
or_false false = refl

or_assoc : (a b c : Bool) → (a || (b || c)) ≡ ((a || b) || c)
or_assoc true b c = refl
or_assoc false b c = refl

pub any_more : {X : Type 0} (t : X → Bool) (xs : List X) (i : ℕ) (x : X) → i < length xs → x ≡ get_or xs i x → list_any t (take (i + 1) xs) ≡ (list_any t (take i xs) || t x)
any_more t xs i x l e = list_any_more t xs i x l ∙ ap (λ y. list_any t (take i xs) || t y) (sym e)

-- one more key at which the later value stands
pub one_more : {X : Type 0} (a b : Bool) (r n : X) → (if b then r else (if a then r else n)) ≡ (if (a || b) then r else n)
one_more true true r n = refl
one_more true false r n = refl
one_more false b r n = refl

pub any_last : {X : Type 0} (t : X → Bool) (xs : List X) (x : X) → list_any t (xs ++ x ∷ []) ≡ (list_any t xs || t x)
any_last t [] x = or_false (t x)
any_last t (y ∷ ys) x = ap (λ b. t y || b) (any_last t ys x) ∙ or_assoc (t y) (list_any t ys) (t x)

-- one more key whose value was changed, by what it was before all
pub change_once : {A : Type 0} (f : A → A) (keys : List Key) (i : ℕ) (j : Key) → i < length keys → j ≡ get_or keys i j → (before now next : Key → A) → ((k : Key) → now k ≡ (if has_key (take i keys) k then f (before k) else before k)) → (k : Key) → next k ≡ (if key_eq j k then f (before j) else now k) → next k ≡ (if has_key (take (i + 1) keys) k then f (before k) else before k)
change_once {A} f keys i j at is before now next inv k step =
    let F : Bool → Type 0 = λ b. key_eq j k ≡ b → (if b then f (before j) else now k) ≡ (if (has_key (take i keys) k || b) then f (before k) else before k) in
    let by : F (key_eq j k) = elim (key_eq j k) as F [
      | true ↦ λ e. ap (λ x. f (before x)) ((key_eq-Decides j k).0 e) ∙ always (has_key (take i keys) k) (f (before k)) (before k)
      | false ↦ λ e. inv k ∙ same (has_key (take i keys) k) (f (before k)) (before k)
    ] in
    step ∙ by refl ∙ ap (λ b. if b then f (before k) else before k) (sym (any_more (λ x. key_eq x k) keys i j at is))
  where
    always : (b : Bool) (x y : A) → x ≡ (if (b || true) then x else y)
    always true x y = refl
    always false x y = refl

    same : (b : Bool) (x y : A) → (if b then x else y) ≡ (if (b || false) then x else y)
    same true x y = refl
    same false x y = refl
