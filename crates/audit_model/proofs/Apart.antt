-- The pairs of a model are apart from each other.
use Rattle.std.proofs.Common.{◌≡◌, ℕ, ◌+◌, ◌<◌, Bool, true, false, ◌==◌, cond, List, [], ◌∷◌, ◌++◌, map, filter, refl, arith, sym, subst}
use Rattle.std.specs.List.{list_any}
use Rattle.std.proofs.lemmas.Bool.{and_parts, eqb-true, ne_eqb, and_right}
use Rattle.std.proofs.lemmas.List.Folds.{list_any-append}
use Rattle.ifc_base.specs.declared.value.Instance.{Instance}
use Rattle.audit_model.specs.declared.verdict.Pair.{Pair}
use Rattle.audit_model.specs.declared.specification.Specification.{Specification}
use Rattle.audit_model.specs.Models.{IsModel, AllAbove}
use Rattle.audit_model.specs.Pairs.{same_pair, pairs, NumberedFrom}
use Rattle.audit_model.proofs.PairLists.{makes, pair_with, made_of, all_made, pairs_made}

pub same_pair-true : (p q : Pair) → same_pair p q ≡ true → p ≡ q
same_pair-true p q e =
    let h : (p.spec == q.spec ≡ true) × (p.elem == q.elem ≡ true) = and_parts _ _ e in
    let a : p.spec ≡ q.spec = eqb-true _ _ h.0 in
    let b : p.elem ≡ q.elem = eqb-true _ _ h.1 in
    λ i. record { spec = a i; elem = b i }

-- no pair is the same as a later one
abbrev pub AreApart : List Pair → Type 0
AreApart [] = Unit {0}
AreApart (p ∷ ps) = (list_any (same_pair p) ps ≡ false) × AreApart ps

-- no pair of the first list is one of the second
abbrev AreStrange : List Pair → List Pair → Type 0
AreStrange [] qs = Unit {0}
AreStrange (p ∷ ps) qs = (list_any (same_pair p) qs ≡ false) × AreStrange ps qs

apart_both : (ps qs : List Pair) → AreApart ps → AreApart qs → AreStrange ps qs → AreApart (ps ++ qs)
apart_both [] qs a b s = b
apart_both (p ∷ ps) qs a b s = (rw (list_any-append (same_pair p) ps qs, a.0, s.0), apart_both ps qs a.1 b s.1)

-- the pairs of one specification

later_of : (q : Specification) (p : Pair) (m : List Instance) → AllAbove p.elem m → list_any (same_pair p) (made_of q m) ≡ false
later_of q p [] h = refl
later_of q p (x ∷ xs) h =
    let F : Bool → Type 0 = λ b. list_any (same_pair p) (map (pair_with q) (cond b (x ∷ filter (makes q) xs) (filter (makes q) xs))) ≡ false in
    let differs : (p.elem == x.id) ≡ false = ne_eqb _ _ (λ e. absurd (omega (arith, h.0, e))) in
    elim (makes q x) as F [ true ↦ rw (and_right (p.spec == q.number) _ differs, later_of q p xs h.1) | false ↦ later_of q p xs h.1 ]

apart_of : (q : Specification) (m : List Instance) → IsModel m → AreApart (made_of q m)
apart_of q [] h = tt
apart_of q (x ∷ xs) h =
    let F : Bool → Type 0 = λ b. AreApart (map (pair_with q) (cond b (x ∷ filter (makes q) xs) (filter (makes q) xs))) in
    elim (makes q x) as F [ true ↦ (later_of q (pair_with q x) xs h.0, apart_of q xs h.1) | false ↦ apart_of q xs h.1 ]

-- pairs of another specification, whose number is above

other_of : (q : Specification) (p : Pair) (m : List Instance) → (p.spec == q.number) ≡ false → list_any (same_pair p) (made_of q m) ≡ false
other_of q p [] h = refl
other_of q p (x ∷ xs) h =
    let F : Bool → Type 0 = λ b. list_any (same_pair p) (map (pair_with q) (cond b (x ∷ filter (makes q) xs) (filter (makes q) xs))) ≡ false in
    elim (makes q x) as F [ true ↦ rw (h, other_of q p xs h) | false ↦ other_of q p xs h ]

others : (n : ℕ) (specs : List Specification) (m : List Instance) (p : Pair) → NumberedFrom n specs → p.spec < n → list_any (same_pair p) (all_made specs m) ≡ false
others n [] m p h l = refl
others n (q ∷ qs) m p h l =
    rw (list_any-append (same_pair p) (made_of q m) (all_made qs m), other_of q p m (ne_eqb _ _ (λ e. absurd (omega (arith, h.0, e)))), others (n + 1) qs m p h.1 (omega arith))

strange_of : (n : ℕ) (q : Specification) (qs : List Specification) (m xs : List Instance) → NumberedFrom (n + 1) qs → q.number ≡ n → AreStrange (made_of q xs) (all_made qs m)
strange_of n q qs m [] h e = tt
strange_of n q qs m (x ∷ xs) h e =
    let F : Bool → Type 0 = λ b. AreStrange (map (pair_with q) (cond b (x ∷ filter (makes q) xs) (filter (makes q) xs))) (all_made qs m) in
    elim (makes q x) as F [
      | true ↦ (others (n + 1) qs m (pair_with q x) h (omega (arith, e)), strange_of n q qs m xs h e)
      | false ↦ strange_of n q qs m xs h e
    ]

apart_made : (n : ℕ) (specs : List Specification) (m : List Instance) → NumberedFrom n specs → IsModel m → AreApart (all_made specs m)
apart_made n [] m h k = tt
apart_made n (q ∷ qs) m h k = apart_both (made_of q m) (all_made qs m) (apart_of q m k) (apart_made (n + 1) qs m h.1 k) (strange_of n q qs m m h.1 h.0)

pub apart_pairs : (n : ℕ) (specs : List Specification) (m : List Instance) → NumberedFrom n specs → IsModel m → AreApart (pairs specs m)
apart_pairs n specs m h k = subst AreApart (sym (pairs_made specs m)) (apart_made n specs m h k)
