-- The first element of a list that passes a test.
use Rattle.std.proofs.Common.{◌≡◌, ℕ, zero, suc, ◌+◌, ◌<◌, ◌≤◌, Bool, true, false, not, cond, List, [], ◌∷◌, ◌++◌, length, take, drop, get_or, Some, None, find, refl, arith, ap, sym, ◌∙◌}
use Rattle.std.specs.List.{remove, position, position_or_len, before_first, after_first, slice_get}
use Rattle.std.proofs.Math.ListN.{drop_of_length-le}
use Rattle.std.proofs.lemmas.Grind.{common_steps}
use Rattle.std.proofs.lemmas.List.{append-nil, take_all}
use Rattle.std.proofs.lemmas.List.Folds.{find_at}
use Rattle.std.proofs.lemmas.List.Quantifiers.{position-Some}
use Rattle.std.proofs.lemmas.Option.{slice_get_past, slice_get_read, slice_get_within, get_or_from_slice_get}
use Rattle.audit_run.specs.Holding.{without_first}

-- a list around one of its elements
split_at_place : {X : Type 0} (xs : List X) (i : ℕ) (x : X) → i < length xs → x ≡ get_or xs i x → xs ≡ take i xs ++ x ∷ drop (suc i) xs
split_at_place [] i x l e = absurd (omega arith)
split_at_place (y ∷ ys) zero x l e = ap (λ z. z ∷ ys) (sym e)
split_at_place (y ∷ ys) (suc i) x l e = ap (λ zs. y ∷ zs) (split_at_place ys i x (omega (arith, l)) e)

module _ {X : Type 0} (p : X → Bool) where
  pub first_removed : (xs : List X) → remove xs (position_or_len p xs) ≡ without_first p xs
  first_removed xs =
      let e : suc (position_or_len p xs) ≡ position_or_len p xs + 1 = omega arith in
      ap (λ n. take (position_or_len p xs) xs ++ drop n xs) e

  place_is : (xs : List X) (i : ℕ) → position p xs ≡ Some i → position_or_len p xs ≡ i
  place_is xs i e = grind (arith, common_steps)

  -- where an element stands at the first place
  pub first_at : (xs : List X) (i : ℕ) (x : X) → position p xs ≡ Some i → x ≡ get_or xs i x → find p xs ≡ Some x
  first_at xs i x e at = find_at p xs ∙ ap (slice_get xs) (place_is xs i e) ∙ slice_get_read xs (length xs) i x refl (position-Some p xs i x e).0 at

  pub none_first : (xs : List X) → position p xs ≡ None → find p xs ≡ None
  none_first xs e = let past : length xs ≤ position_or_len p xs = grind (arith, common_steps) in find_at p xs ∙ slice_get_past xs (position_or_len p xs) past

  none_past : (xs : List X) → find p xs ≡ None → length xs ≤ position_or_len p xs
  none_past [] e = omega arith
  none_past (x ∷ xs) e =
      let F : Bool → Type 0 = λ b. cond b (Some x) (find p xs) ≡ None → suc (length xs) ≤ cond (not b) (1 + position_or_len p xs) 0 in
      let at : F (p x) = elim (p x) as F [ true ↦ λ k. absurd (cc) | false ↦ λ k. omega (arith, none_past xs k) ] in
      at e

  -- where none passes all are left
  pub none_removed : (xs : List X) → find p xs ≡ None → without_first p xs ≡ xs
  none_removed xs e =
      let past = none_past xs e in
      let after : after_first p xs ≡ [] = drop_of_length-le xs (omega (arith, past)) in
      ap (λ ys. ys ++ after_first p xs) (take_all (position_or_len p xs) xs past) ∙ ap (λ ys. xs ++ ys) after ∙ append-nil xs

  -- a list around the first element that passes
  pub split_first : (xs : List X) (x : X) → find p xs ≡ Some x → xs ≡ before_first p xs ++ x ∷ after_first p xs
  split_first xs x e =
      let there : slice_get xs (position_or_len p xs) ≡ Some x = sym (find_at p xs) ∙ e in
      let next : suc (position_or_len p xs) ≡ position_or_len p xs + 1 = omega arith in
      split_at_place xs (position_or_len p xs) x (slice_get_within xs (position_or_len p xs) x there) (sym (get_or_from_slice_get xs (position_or_len p xs) x x there))
      ∙ ap (λ n. before_first p xs ++ x ∷ drop n xs) next
