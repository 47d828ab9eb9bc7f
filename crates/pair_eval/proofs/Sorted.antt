-- Sorted keys without repetitions are in the order of the definitions.
use Rattle.std.proofs.Common.{◌≡◌, ◌<◌, ℕ, zero, suc, List, [], ◌∷◌, ◌++◌, Bool, true, false, cond, ◌||◌, ◌&&◌, ◌==◌, nat_lt, length, get_or, refl, sym, ap, subst, ◌∙◌, ◌⊎◌, inl, inr, arith, rules}
use Rattle.std.specs.Cmp.{IsTotalOrder, IsEquivalence}
use Rattle.std.specs.Cmp.Rules.{comparing}
use Rattle.std.specs.List.{AllByRecursion, Contains, dedup}
use Rattle.std.specs.List.Sorted.{IsSorted, IsStrictlySortedBy, IsPermutation}
use Rattle.std.specs.Ordering.{ordering_then}
use Rattle.std.specs.declared.cmp.Ordering.TheVariants.{Less, Equal, Greater}
use Rattle.std.proofs.lemmas.Bool.{eqb-true, ltb-true}
use Rattle.std.proofs.lemmas.List.{append-nil, append_assoc}
use Rattle.std.proofs.lemmas.List.Kept.{Contains-dedup, Contains-from_dedup, IsStrictlySortedBy-dedup}
use Rattle.std.proofs.lemmas.List.Sorted.{Contains-permutation, IsPermutation-sym}
use Rattle.ifc_base.specs.declared.key.Key.{Key}
use Rattle.ifc_base.specs.KeyOrder.{key_id, key_rank, key_cmp, key_eq, key_ties, key_eq-Decides}
use Rattle.audit_model.specs.Ascending.{key_lt, insert_key, with_keys, ascending_keys}
use Rattle.closure_walk.specs.Laws.{SameKeysSameNeed}
use Rattle.closure_walk.specs.Walking.{In, SameKeys}

-- A key that comes before another doesn't come behind it, and isn't it.

abbrev Precedes : Key → Key → Type 0
Precedes k l = key_cmp k l ≡ Less

less_at : (a b c d : ℕ) (p q r s : Bool) → nat_lt a b ≡ p → (a == b) ≡ q → nat_lt c d ≡ r → (c == d) ≡ s → ordering_then (cond p Less (cond q Equal Greater)) (cond r Less (cond s Equal Greater)) ≡ Less → (a < b) ⊎ ((a ≡ b) × (c < d))
less_at a b c d true q r s e f g h k = inl (ltb-true a b e)
less_at a b c d false true true s e f g h k = inr (eqb-true a b f, ltb-true c d g)
less_at a b c d false true false true e f g h k = absurd (cc)
less_at a b c d false true false false e f g h k = absurd (cc)
less_at a b c d false false r s e f g h k = absurd (cc)

behind_at : (a b c d : ℕ) (p q r s : Bool) → nat_lt b a ≡ p → (b == a) ≡ q → nat_lt d c ≡ r → (d == c) ≡ s → (a < b) ⊎ ((a ≡ b) × (c < d)) → ((p || (q && r)) ≡ false) × ((q && s) ≡ false)
behind_at a b c d true q r s e f g h (inl l) = let x : b < a = ltb-true b a e in absurd (omega (arith, x, l))
behind_at a b c d true q r s e f g h (inr l) = let x : b < a = ltb-true b a e in absurd (omega (arith, x, l.0))
behind_at a b c d false true r s e f g h (inl l) = let x : b ≡ a = eqb-true b a f in absurd (omega (arith, x, l))
behind_at a b c d false true true s e f g h (inr l) = let x : d < c = ltb-true d c g in absurd (omega (arith, x, l.1))
behind_at a b c d false true false true e f g h (inr l) = let x : d ≡ c = eqb-true d c h in absurd (omega (arith, x, l.1))
behind_at a b c d false true false false e f g h (inr l) = (refl, refl)
behind_at a b c d false false r s e f g h l = (refl, refl)

not_behind : (k l : Key) → Precedes k l → (key_lt l k ≡ false) × (key_eq l k ≡ false)
not_behind k l h =
    behind_at (key_id k) (key_id l) (key_rank k) (key_rank l) _ _ _ _ refl refl refl refl
    (less_at (key_id k) (key_id l) (key_rank k) (key_rank l) _ _ _ _ refl refl refl refl h)

-- Keys put in one by one in their order stay as they are.

abbrev AllPrecede : List Key → Key → Type 0
AllPrecede [] l = Unit {0}
AllPrecede (k ∷ ks) l = Precedes k l × AllPrecede ks l

insert_last : (ks : List Key) (l : Key) → AllPrecede ks l → insert_key l ks ≡ ks ++ l ∷ []
insert_last [] l h = refl
insert_last (k ∷ ks) l h =
    let n = not_behind k l h.0 in
    ap (λ (b : Bool). cond b (l ∷ k ∷ ks) (cond (key_eq l k) (k ∷ ks) (k ∷ insert_key l ks))) n.0
    ∙ ap (λ (b : Bool). cond b (k ∷ ks) (k ∷ insert_key l ks)) n.1
    ∙ ap (λ (ls : List Key). k ∷ ls) (insert_last ks l h.1)

at_middle : (P : Key → Type 0) (ks ls : List Key) (l : Key) → AllByRecursion P (ks ++ l ∷ ls) → P l
at_middle P [] ls l h = h.0
at_middle P (k ∷ ks) ls l h = at_middle P ks ls l h.1

all_precede : (ks ls : List Key) (l : Key) → IsStrictlySortedBy key_cmp (ks ++ l ∷ ls) → AllPrecede ks l
unfolding IsStrictlySortedBy
all_precede [] ls l h = tt
all_precede (k ∷ ks) ls l h = (at_middle (λ x. key_cmp k x ≡ Less) ks ls l h.0, all_precede ks ls l h.1)

with_sorted : (ks ls : List Key) → IsStrictlySortedBy key_cmp (ks ++ ls) → with_keys ks ls ≡ ks ++ ls
with_sorted ks [] h = sym (append-nil ks)
with_sorted ks (l ∷ ls) h =
    let joined : (ks ++ l ∷ []) ++ ls ≡ ks ++ l ∷ ls = append_assoc ks (l ∷ []) ls in
    ap (λ (xs : List Key). with_keys xs ls) (insert_last ks l (all_precede ks ls l h))
    ∙ with_sorted (ks ++ l ∷ []) ls (subst (λ xs. IsStrictlySortedBy key_cmp xs) (sym joined) h)
    ∙ joined

-- Members of a list, by their places and by recursion.

contains_in : {X : Type 0} (xs : List X) (x : X) (k : ℕ) → k < length xs → get_or xs k x ≡ x → In x xs
contains_in [] x k l e = absurd (omega (arith, l))
contains_in (y ∷ xs) x zero l e = inl (sym e)
contains_in (y ∷ xs) x (suc k) l e = inr (contains_in xs x k (omega (arith, l)) e)

in_contains : {X : Type 0} (xs : List X) (x : X) → In x xs → Contains xs x
in_contains [] x h = absurd h
in_contains (y ∷ xs) x (inl e) = (0, omega arith, sym e)
in_contains (y ∷ xs) x (inr h) = let r = in_contains xs x h in (suc r.0, omega (arith, r.1), r.2)

key_order : IsTotalOrder key_cmp
key_order = Prim.search (comparing, rules)

key_equality : IsEquivalence key_eq
key_equality = Prim.search (comparing, rules)

-- what stays of the keys where they are sorted, and each is kept once
pub sorted_needs : SameKeysSameNeed → (keys sorted needs : List Key) → IsPermutation keys sorted → IsSorted key_cmp sorted → needs ≡ dedup key_eq sorted → needs ≡ ascending_keys keys
sorted_needs law keys sorted needs moved order is =
    let strict : IsStrictlySortedBy key_cmp (dedup key_eq sorted) = IsStrictlySortedBy-dedup key_order key_ties sorted order in
    let same : SameKeys (dedup key_eq sorted) keys = λ k. (
      λ h. let c = Contains-permutation sorted keys k (IsPermutation-sym keys sorted moved) (Contains-from_dedup key_eq sorted k (in_contains (dedup key_eq sorted) k h)) in contains_in keys k c.0 c.1 c.2,
      λ h. let c = Contains-dedup key_equality (λ x y. (key_eq-Decides x y).0) sorted k (Contains-permutation keys sorted k moved (in_contains keys k h)) in contains_in (dedup key_eq sorted) k c.0 c.1 c.2,
    ) in
    is ∙ sym (with_sorted [] (dedup key_eq sorted) strict) ∙ law (dedup key_eq sorted) keys same
