-- Numbers of what isn't met.
use Rattle.std.proofs.Common.{◌≡◌, ◌<◌, ◌+◌, ℕ, List, [], ◌∷◌, ◌++◌, Bool, true, false, cond, map, length, get_or, take, refl, sym, ap, ◌∙◌, arith, length-take-le}
use Rattle.std.proofs.lemmas.List.{take_more, map-append, length-map}
use Rattle.audit_model.specs.Verdicts.{numbers_of_false}

number_step : (n : ℕ) (b c : Bool) (bs : List Bool) → numbers_of_false (n + 1) (bs ++ c ∷ []) ≡ numbers_of_false (n + 1) bs ++ cond c [] ((n + 1 + length bs) ∷ []) → numbers_of_false n (b ∷ (bs ++ c ∷ [])) ≡ numbers_of_false n (b ∷ bs) ++ cond c [] ((n + length (b ∷ bs)) ∷ [])
number_step n true c bs e = e ∙ ap (λ k. numbers_of_false (n + 1) bs ++ cond c [] (k ∷ [])) (let h : n + 1 + length bs ≡ n + length (true ∷ bs) = omega arith in h)
number_step n false c bs e = ap (λ ns. n ∷ ns) (e ∙ ap (λ k. numbers_of_false (n + 1) bs ++ cond c [] (k ∷ [])) (let h : n + 1 + length bs ≡ n + length (false ∷ bs) = omega arith in h))

one_number : (n : ℕ) (c : Bool) → numbers_of_false n (c ∷ []) ≡ cond c [] ((n + 0) ∷ [])
one_number n true = refl
one_number n false = ap (λ k. k ∷ []) (let h : n ≡ n + 0 = omega arith in h)

one_more : (n : ℕ) (bs : List Bool) (c : Bool) → numbers_of_false n (bs ++ c ∷ []) ≡ numbers_of_false n bs ++ cond c [] ((n + length bs) ∷ [])
one_more n [] c = one_number n c
one_more n (b ∷ bs) c = number_step n b c bs (one_more (n + 1) bs c)

pub numbers_more : {X : Type 0} (f : X → Bool) (xs : List X) (i : ℕ) (x : X) (ns ns' : List ℕ) (b : Bool) → i < length xs → x ≡ get_or xs i x → ns ≡ numbers_of_false 1 (map f (take i xs)) → b ≡ f x → ns' ≡ ns ++ cond b [] ((1 + i) ∷ []) → ns' ≡ numbers_of_false 1 (map f (take (i + 1) xs))
numbers_more f xs i x ns ns' b h e n m a =
    let long : length (map f (take i xs)) ≡ i = simp length-map (length-take-le i xs (omega (arith, h))) in
    a ∙ ap (λ ks. ks ++ cond b [] ((1 + i) ∷ [])) n ∙ ap (λ c. numbers_of_false 1 (map f (take i xs)) ++ cond c [] ((1 + i) ∷ [])) m
    ∙ ap (λ k. numbers_of_false 1 (map f (take i xs)) ++ cond (f x) [] ((1 + k) ∷ [])) (sym long)
    ∙ sym (one_more 1 (map f (take i xs)) (f x))
    ∙ ap (numbers_of_false 1) (sym (map-append f (take i xs) (x ∷ [])))
    ∙ ap (λ ys. numbers_of_false 1 (map f ys)) (sym (take_more xs i x h ∙ ap (λ y. take i xs ++ y ∷ []) (sym e)))
