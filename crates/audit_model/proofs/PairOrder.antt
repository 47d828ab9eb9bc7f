-- The pairs of a model ascend.
use Rattle.std.proofs.Common.{◌≡◌, ℕ, ◌+◌, ◌<◌, true, false, cond, List, [], ◌∷◌, ◌++◌, map, filter, arith, refl, sym, subst, inl, inr}
use Rattle.ifc_base.specs.declared.value.Instance.{Instance}
use Rattle.audit_model.specs.declared.verdict.Pair.{Pair}
use Rattle.audit_model.specs.declared.specification.Specification.{Specification}
use Rattle.audit_model.specs.Models.{IsModel, AllAbove}
use Rattle.audit_model.specs.Pairs.{NumberedFrom}
use Rattle.audit_model.specs.Laws.{AllAfter, ArePairsAscending, PairsAscend}
use Rattle.audit_model.proofs.Tests.{Each}
use Rattle.audit_model.proofs.PairLists.{makes, pair_with, made_of, all_made, pairs_made}

after_both : (p : Pair) (ps qs : List Pair) → AllAfter p ps → AllAfter p qs → AllAfter p (ps ++ qs)
after_both p [] qs a b = b
after_both p (q ∷ ps) qs a b = (a.0, after_both p ps qs a.1 b)

ascend_both : (ps qs : List Pair) → ArePairsAscending ps → ArePairsAscending qs → Each (λ p. AllAfter p qs) ps → ArePairsAscending (ps ++ qs)
ascend_both [] qs a b e = b
ascend_both (p ∷ ps) qs a b e = (after_both p ps qs a.0 e.0, ascend_both ps qs a.1 b e.1)

-- the pairs of one specification

after_of : (q : Specification) (x : Instance) (xs : List Instance) → AllAbove x.id xs → AllAfter (pair_with q x) (made_of q xs)
after_of q x [] h = tt
after_of q x (y ∷ ys) h =
    elim (makes q y) as (λ b. AllAfter (pair_with q x) (map (pair_with q) (cond b (y ∷ filter (makes q) ys) (filter (makes q) ys)))) [ true ↦ (inr (refl, h.0), after_of q x ys h.1) | false ↦ after_of q x ys h.1 ]

ascend_of : (q : Specification) (m : List Instance) → IsModel m → ArePairsAscending (made_of q m)
ascend_of q [] h = tt
ascend_of q (x ∷ xs) h =
    elim (makes q x) as (λ b. ArePairsAscending (map (pair_with q) (cond b (x ∷ filter (makes q) xs) (filter (makes q) xs)))) [ true ↦ (after_of q x xs h.0, ascend_of q xs h.1) | false ↦ ascend_of q xs h.1 ]

-- pairs of specifications whose numbers are above

after_other : (p : Pair) (q : Specification) (m : List Instance) → p.spec < q.number → AllAfter p (made_of q m)
after_other p q [] l = tt
after_other p q (x ∷ xs) l =
    elim (makes q x) as (λ b. AllAfter p (map (pair_with q) (cond b (x ∷ filter (makes q) xs) (filter (makes q) xs)))) [ true ↦ (inl l, after_other p q xs l) | false ↦ after_other p q xs l ]

after_others : (p : Pair) (n : ℕ) (qs : List Specification) (m : List Instance) → NumberedFrom n qs → p.spec < n → AllAfter p (all_made qs m)
after_others p n [] m h l = tt
after_others p n (q ∷ qs) m h l = after_both p (made_of q m) (all_made qs m) (after_other p q m (omega (arith, h.0, l))) (after_others p (n + 1) qs m h.1 (omega (arith, l)))

each_after : (n : ℕ) (q : Specification) (qs : List Specification) (m xs : List Instance) → NumberedFrom (n + 1) qs → q.number ≡ n → Each (λ p. AllAfter p (all_made qs m)) (made_of q xs)
each_after n q qs m [] h e = tt
each_after n q qs m (x ∷ xs) h e =
    elim (makes q x) as (λ b. Each (λ p. AllAfter p (all_made qs m)) (map (pair_with q) (cond b (x ∷ filter (makes q) xs) (filter (makes q) xs)))) [ true ↦ (after_others (pair_with q x) (n + 1) qs m h (omega (arith, e)), each_after n q qs m xs h e) | false ↦ each_after n q qs m xs h e ]

ascend_made : (n : ℕ) (specs : List Specification) (m : List Instance) → NumberedFrom n specs → IsModel m → ArePairsAscending (all_made specs m)
ascend_made n [] m h k = tt
ascend_made n (q ∷ qs) m h k = ascend_both (made_of q m) (all_made qs m) (ascend_of q m k) (ascend_made (n + 1) qs m h.1 k) (each_after n q qs m m h.1 h.0)

pub pairs_ascend : PairsAscend
pairs_ascend specs m h k = subst ArePairsAscending (sym (pairs_made specs m)) (ascend_made 1 specs m h k)
