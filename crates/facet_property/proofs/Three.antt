-- Tests of what is left of a list, and of three lists one after another.
use Rattle.std.proofs.Common.{◌≡◌, ℕ, suc, List, [], ◌∷◌, ◌++◌, Bool, true, false, not, ◌&&◌, ◌||◌, cond, nat_lt, length, map, refl, sym, ap, ◌∙◌, arith}
use Rattle.std.specs.Prelude.{Option, Some, None, filter_map}
use Rattle.std.specs.List.{list_any, list_all, filter, flat_map}
use Rattle.std.specs.Option.{option_to_list}
use Rattle.std.proofs.lemmas.List.{append-nil, map-append, take_all}
use Rattle.std.proofs.lemmas.List.Elements.{filter-append}
use Rattle.std.proofs.lemmas.List.Folds.{list_any-append, list_all-append}
use Rattle.std.proofs.lemmas.Bool.Decides.{nat_tests}
use Rattle.std.proofs.Common.{◌≤◌, take}

module _ {X : Type 0} (p q : X → Bool) where
  any_step : (b : Bool) (x : X) (xs : List X) → list_any q (cond b (x ∷ xs) xs) ≡ ((b && q x) || list_any q xs)
  any_step true x xs = refl
  any_step false x xs = refl

  pub any_filtered : (xs : List X) → list_any q (filter p xs) ≡ list_any (λ x. p x && q x) xs
  any_filtered [] = refl
  any_filtered (x ∷ xs) = any_step (p x) x (filter p xs) ∙ ap (λ b. (p x && q x) || b) (any_filtered xs)

  all_step : (b : Bool) (x : X) (xs : List X) → list_all q (cond b (x ∷ xs) xs) ≡ ((not b || q x) && list_all q xs)
  all_step true x xs = refl
  all_step false x xs = refl

  pub all_filtered : (xs : List X) → list_all q (filter p xs) ≡ list_all (λ x. not (p x) || q x) xs
  all_filtered [] = refl
  all_filtered (x ∷ xs) = all_step (p x) x (filter p xs) ∙ ap (λ b. (not (p x) || q x) && b) (all_filtered xs)

pub some_are : (n : ℕ) → nat_lt 0 (suc n) ≡ true
some_are n = grind (arith, nat_tests)

module _ {X : Type 0} (p : X → Bool) where
  left_step : (b : Bool) (x : X) (xs : List X) → nat_lt 0 (length (cond b (x ∷ xs) xs)) ≡ (b || nat_lt 0 (length xs))
  left_step true x xs = some_are (length xs)
  left_step false x xs = refl

  none_left : nat_lt 0 0 ≡ false
  none_left = grind (arith, nat_tests)

  -- something is left of a list exactly where something passes the test
  pub left_filtered : (xs : List X) → nat_lt 0 (length (filter p xs)) ≡ list_any p xs
  left_filtered [] = none_left
  left_filtered (x ∷ xs) = left_step (p x) x (filter p xs) ∙ ap (λ b. p x || b) (left_filtered xs)

  pub any_three : (a b c : List X) → list_any p (a ++ (b ++ (c ++ []))) ≡ (list_any p a || (list_any p b || list_any p c))
  any_three a b c =
      list_any-append p a (b ++ (c ++ []))
      ∙ ap (λ r. list_any p a || r) (list_any-append p b (c ++ []) ∙ ap (λ zs. list_any p b || list_any p zs) (append-nil c))

  pub all_three : (a b c : List X) → list_all p (a ++ (b ++ (c ++ []))) ≡ (list_all p a && (list_all p b && list_all p c))
  all_three a b c =
      list_all-append p a (b ++ (c ++ []))
      ∙ ap (λ r. list_all p a && r) (list_all-append p b (c ++ []) ∙ ap (λ zs. list_all p b && list_all p zs) (append-nil c))

-- Lists that are mapped or gathered.

pub any_mapped : {X Y : Type 0} (p : Y → Bool) (f : X → Y) (xs : List X) → list_any p (map f xs) ≡ list_any (λ x. p (f x)) xs
any_mapped p f [] = refl
any_mapped p f (x ∷ xs) = ap (λ b. p (f x) || b) (any_mapped p f xs)

pub all_mapped : {X Y : Type 0} (p : Y → Bool) (f : X → Y) (xs : List X) → list_all p (map f xs) ≡ list_all (λ x. p (f x)) xs
all_mapped p f [] = refl
all_mapped p f (x ∷ xs) = ap (λ b. p (f x) && b) (all_mapped p f xs)

pub gathered_mapped : {X Y Z : Type 0} (t : Y → Z) (g : X → List Y) (xs : List X) → flat_map (λ x. map t (g x)) xs ≡ map t (flat_map g xs)
gathered_mapped t g [] = refl
gathered_mapped t g (x ∷ xs) = ap (λ zs. map t (g x) ++ zs) (gathered_mapped t g xs) ∙ sym (map-append t (g x) (flat_map g xs))

pub filter_gathered : {X Y Z : Type 0} (p : Z → Bool) (f : Y → List Z) (h : X → Y) (xs : List X) → filter p (flat_map f (map h xs)) ≡ flat_map (λ x. filter p (f (h x))) xs
filter_gathered p f h [] = refl
filter_gathered p f h (x ∷ xs) = filter-append p (f (h x)) (flat_map f (map h xs)) ∙ ap (λ zs. filter p (f (h x)) ++ zs) (filter_gathered p f h xs)

pub over_all : {X Y : Type 0} (f : X → List Y) (xs : List X) (i : ℕ) (a b : List Y) → b ≡ a ++ flat_map f (take i xs) → length xs ≤ i → b ≡ a ++ flat_map f xs
over_all f xs i a b e h = e ∙ ap (λ ys. a ++ flat_map f ys) (take_all i xs h)

-- what was gathered of each, filtered, is what is left of all
pub over_filtered : {X Y Z : Type 0} (p : Z → Bool) (f : Y → List Z) (h : X → Y) (xs : List X) (i : ℕ) (a b : List Z) → b ≡ a ++ flat_map (λ x. filter p (f (h x))) (take i xs) → length xs ≤ i → b ≡ a ++ filter p (flat_map f (map h xs))
over_filtered p f h xs i a b e l = over_all (λ x. filter p (f (h x))) xs i a b e l ∙ ap (λ zs. a ++ zs) (sym (filter_gathered p f h xs))

map_step : {X Y : Type 0} (f : X → Y) (b : Bool) (x : X) (xs : List X) → map f (cond b (x ∷ xs) xs) ≡ cond b (f x ∷ map f xs) (map f xs)
map_step f true x xs = refl
map_step f false x xs = refl

pub map_filtered : {X Y : Type 0} (p : Y → Bool) (q : X → Bool) (f : X → Y) → ((x : X) → q x ≡ p (f x)) → (xs : List X) → map f (filter q xs) ≡ filter p (map f xs)
map_filtered p q f h [] = refl
map_filtered p q f h (x ∷ xs) = map_step f (q x) x (filter q xs) ∙ ap (λ b. cond b (f x ∷ map f (filter q xs)) (map f (filter q xs))) (h x) ∙ ap (λ ys. cond (p (f x)) (f x ∷ ys) ys) (map_filtered p q f h xs)

module _ {X Y : Type 0} (f : X → Option Y) where
  choose_step : (o : Option Y) (x : X) (xs : List X) (ys : List Y) → f x ≡ o → filter_map f xs ≡ ys → filter_map f (x ∷ xs) ≡ option_to_list o ++ ys
  choose_step None x xs ys e h = rw e h
  choose_step (Some y) x xs ys e h = rw e (ap (λ ws. y ∷ ws) h)

  -- what is there of each
  pub chosen : (xs : List X) → filter_map f xs ≡ flat_map (λ x. option_to_list (f x)) xs
  chosen [] = refl
  chosen (x ∷ xs) = choose_step (f x) x xs (flat_map (λ z. option_to_list (f z)) xs) refl (chosen xs)

pub gathers_agree : {X Y : Type 0} (f g : X → List Y) → ((x : X) → f x ≡ g x) → (xs : List X) → flat_map f xs ≡ flat_map g xs
gathers_agree f g h [] = refl
gathers_agree f g h (x ∷ xs) = ap (λ ys. ys ++ flat_map f xs) (h x) ∙ ap (λ ys. g x ++ ys) (gathers_agree f g h xs)
