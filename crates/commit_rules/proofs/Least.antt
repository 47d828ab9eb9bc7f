-- The least of some ids, one at a time.
use Rattle.std.proofs.Common.{◌≡◌, ℕ, ◌+◌, ◌<◌, min, Bool, true, false, cond, if◌then◌else◌, List, [], ◌∷◌, ◌++◌, filter, filter_map, length, take, get_or, Option, Some, None, refl, arith, ap, sym, ◌∙◌}
use Rattle.std.specs.Option.{option_map_or}
use Rattle.std.proofs.lemmas.List.{append-nil, take_more}
use Rattle.std.proofs.lemmas.List.Elements.{filter-append, filter_map-append}
use Rattle.audit_model.specs.Judging.{least}
use Rattle.commit_rules.specs.Dangles.{lesser_of}

least_push : (xs : List ℕ) (n : ℕ) → least (xs ++ n ∷ []) ≡ Some (option_map_or (λ k. min k n) (least xs) n)
least_push [] n = refl
least_push (x ∷ xs) n =
    let F : Option ℕ → Type 0 = λ o. Some (option_map_or (min x) (Some (option_map_or (λ k. min k n) o n)) x) ≡ Some (option_map_or (λ k. min k n) (Some (option_map_or (min x) o x)) n) in
    let at : F (least xs) = elim (least xs) as F [
      | None ↦ refl
      | Some k ↦ let e : min x (min k n) ≡ min (min x k) n = omega arith in ap (λ (m : ℕ). Some m) e
    ] in
    rw (least_push xs n) at

one_more : (b : Bool) (xs : List ℕ) (x : ℕ) → least (xs ++ cond b (x ∷ []) []) ≡ (if b then Some (option_map_or (λ k. min k x) (least xs) x) else least xs)
one_more true xs x = least_push xs x
one_more false xs x = ap (λ (ys : List ℕ). least ys) (append-nil xs)

pub least_more : (t : ℕ → Bool) (xs : List ℕ) (i x : ℕ) → i < length xs → x ≡ get_or xs i x → least (filter t (take (i + 1) xs)) ≡ (if t x then Some (option_map_or (λ k. min k x) (least (filter t (take i xs))) x) else least (filter t (take i xs)))
least_more t xs i x l e = rw (take_more xs i x l, ← e, filter-append t (take i xs) (x ∷ [])) (one_more (t x) (filter t (take i xs)) x)

given_more : (xs : List ℕ) (o : Option ℕ) {X : Type 0} (f : X → Option ℕ) (x : X) → f x ≡ o → least (xs ++ filter_map f (x ∷ [])) ≡ lesser_of (least xs) o
given_more xs None f x e = rw e (ap (λ (ys : List ℕ). least ys) (append-nil xs))
given_more xs (Some n) f x e = rw e (least_push xs n)

-- one more that may give an id
pub least_given : {X : Type 0} (f : X → Option ℕ) (xs : List X) (i : ℕ) (x : X) → i < length xs → x ≡ get_or xs i x → least (filter_map f (take (i + 1) xs)) ≡ lesser_of (least (filter_map f (take i xs))) (f x)
least_given {X} f xs i x l e =
    ap (λ (ys : List X). least (filter_map f ys)) (take_more xs i x l ∙ ap (λ (y : X). take i xs ++ y ∷ []) (sym e))
    ∙ ap (λ (ys : List ℕ). least ys) (filter_map-append f (take i xs) (x ∷ []))
    ∙ given_more (filter_map f (take i xs)) (f x) f x refl
