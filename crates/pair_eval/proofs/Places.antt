-- Specifications by their numbers, which are their places.
use Rattle.std.proofs.Common.{◌≡◌, ◌<◌, ◌≤◌, ◌+◌, ℕ, zero, suc, List, [], ◌∷◌, Bool, false, true, cond, ◌==◌, length, find, Some, None, refl, ap, subst, ◌∙◌, arith}
use Rattle.std.specs.List.{slice_get}
use Rattle.std.proofs.lemmas.Bool.{eq-eqb, ne_eqb}
use Rattle.audit_model.specs.declared.specification.Specification.{Specification}
use Rattle.audit_model.specs.Pairs.{NumberedFrom}
use Rattle.audit_model.specs.Specifications.{EachIsSpecification}

-- none has a number below the first
pub none_below : (n k : ℕ) (qs : List Specification) → NumberedFrom n qs → k < n → find (λ q. q.number == k) qs ≡ None
none_below n k [] h l = refl
none_below n k (q ∷ qs) h l =
    let other : (q.number == k) ≡ false = ne_eqb q.number k (λ e. omega (arith, h.0, l, e)) in
    ap (λ (b : Bool). cond b (Some q) (find (λ x. x.number == k) qs)) other ∙ none_below (n + 1) k qs h.1 (omega (arith, l))

-- where the first has the number n, the one of number n + i stands at the place i
pub numbered_at : (n i k : ℕ) (qs : List Specification) → NumberedFrom n qs → k ≡ n + i → find (λ q. q.number == k) qs ≡ slice_get qs i
numbered_at n i k [] h e = refl
numbered_at n zero k (q ∷ qs) h e =
    let same : (q.number == k) ≡ true = eq-eqb q.number k (omega (arith, h.0, e)) in
    ap (λ (b : Bool). cond b (Some q) (find (λ x. x.number == k) qs)) same
numbered_at n (suc i) k (q ∷ qs) h e =
    let other : (q.number == k) ≡ false = ne_eqb q.number k (λ s. omega (arith, h.0, e, s)) in
    ap (λ (b : Bool). cond b (Some q) (find (λ x. x.number == k) qs)) other ∙ numbered_at (n + 1) i k qs h.1 (omega (arith, e))

-- one that is found has few requirements
pub found_few : (t : Specification → Bool) (qs : List Specification) (q : Specification) → EachIsSpecification qs → find t qs ≡ Some q → length q.requirements ≤ 64
found_few t [] q h e = absurd (cc)
found_few t (x ∷ qs) q h e =
    let F : Bool → Type 0 = λ b. cond b (Some x) (find t qs) ≡ Some q → length q.requirements ≤ 64 in
    let at : F (t x) = elim (t x) as F [
      | true ↦ λ k. let same : x ≡ q = cc in subst (λ (z : Specification). length z.requirements ≤ 64) same h.0.few_requirements
      | false ↦ λ k. found_few t qs q h.1 k
    ] in
    at e
