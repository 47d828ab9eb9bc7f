-- The ids of instances: what stands among them once one more is put in.
use Rattle.std.proofs.Common.{◌≡◌, ◌<◌, ◌≤◌, ◌==◌, ◌||◌, ℕ, List, [], ◌∷◌, ◌++◌, Bool, true, false, refl, sym, ap, subst, ◌∙◌, arith}
use Rattle.std.specs.List.{list_any}
use Rattle.std.specs.BTreeSet.{insert_key}
use Rattle.std.specs.Ordering.{nat_cmp, match_ordering}
use Rattle.std.specs.declared.cmp.Ordering.{Ordering}
use Rattle.std.specs.declared.cmp.Ordering.TheVariants.{Less, Equal, Greater}
use Rattle.std.proofs.lemmas.List.Folds.{list_any-append}
use Rattle.ifc_base.specs.declared.value.Instance.{Instance}
use Rattle.ifc_base.specs.Ids.{has_id}
use Rattle.p21_read.specs.Known.{AreUpTo, AreKnown}

or_twice : (a b : Bool) → (a || b) ≡ (a || (a || b))
or_twice true b = refl
or_twice false b = refl

or_turn : (a b c : Bool) → (a || (b || c)) ≡ (b || (a || c))
or_turn true true c = refl
or_turn true false c = refl
or_turn false b c = refl

or_last : (a b : Bool) → (a || b) ≡ (b || (a || false))
or_last true true = refl
or_last true false = refl
or_last false true = refl
or_last false false = refl

-- numbers of which neither comes first are one
same_number : (m n : ℕ) → nat_cmp m n ≡ Equal → m ≡ n
same_number m n e = grind arith

at_place : (n : ℕ) (o : Ordering) (k x : ℕ) (xs ys : List ℕ) → nat_cmp k x ≡ o → list_any (◌==◌ n) ys ≡ ((n == k) || list_any (◌==◌ n) xs)
    → list_any (◌==◌ n) (match_ordering o (k ∷ x ∷ xs) (x ∷ xs) (x ∷ ys)) ≡ ((n == k) || ((n == x) || list_any (◌==◌ n) xs))
at_place n Less k x xs ys e h = refl
at_place n Equal k x xs ys e h = rw (same_number k x e) (or_twice (n == x) (list_any (◌==◌ n) xs))
at_place n Greater k x xs ys e h = ap (λ b. (n == x) || b) h ∙ or_turn (n == x) (n == k) (list_any (◌==◌ n) xs)

-- with k put in, k is among them, and the others are as before
pub inserted : (n k : ℕ) (xs : List ℕ) → list_any (◌==◌ n) (insert_key nat_cmp xs k) ≡ ((n == k) || list_any (◌==◌ n) xs)
inserted n k [] = refl
inserted n k (x ∷ xs) = at_place n (nat_cmp k x) k x xs (insert_key nat_cmp xs k) refl (inserted n k xs)

-- one instance more behind the others
pub one_more : (n : ℕ) (x : Instance) (xs : List Instance) → has_id n (xs ++ x ∷ []) ≡ ((n == x.id) || has_id n xs)
one_more n x xs = list_any-append (λ (y : Instance). n == y.id) xs (x ∷ []) ∙ turned (n == x.id) (has_id n xs) where
  turned : (a b : Bool) → (b || (a || false)) ≡ (a || b)
  turned true true = refl
  turned true false = refl
  turned false true = refl
  turned false false = refl

-- the set with the id of one instance more
pub known_more : (keys more : List ℕ) (x : Instance) (xs : List Instance) → AreKnown false 0 keys xs → more ≡ insert_key nat_cmp keys x.id → AreKnown false 0 more (xs ++ x ∷ [])
known_more keys more x xs known e n = ap (λ l. list_any (◌==◌ n) l) e ∙ inserted n x.id keys ∙ ap (λ b. (n == x.id) || b) (known n) ∙ sym (one_more n x xs)

-- an id greater than all is none of them
pub none_greater : (last n : ℕ) (xs : List Instance) → AreUpTo last xs → last < n → has_id n xs ≡ false
none_greater last n [] h l = refl
none_greater last n (x ∷ xs) h l = rw (none_greater last n xs h.1 l) (other h.0) where
  other : x.id ≤ last → ((n == x.id) || false) ≡ false
  other below = grind arith

-- it is the greatest, once it stands behind them
pub up_to_more : (last : ℕ) (x : Instance) (xs : List Instance) → AreUpTo last xs → last < x.id → AreUpTo x.id (xs ++ x ∷ [])
up_to_more last x [] h l = (omega arith, tt)
up_to_more last x (y ∷ ys) h l = (below h.0, up_to_more last x ys h.1 l) where
  below : y.id ≤ last → y.id ≤ x.id
  below b = omega arith

-- while the ids ascend, no id greater than the last one is among them
pub none_known : (b : Bool) (last n m : ℕ) (keys : List ℕ) (xs : List Instance) → b ≡ true → AreKnown b last keys xs → last < n → n ≡ m → has_id m xs ≡ false
none_known true last n m keys xs e known l same = none_greater last m xs known (subst (λ k. last < k) same l)
none_known false last n m keys xs e known l same = absurd (cc)

-- and one with such an id may come behind them
pub known_greater : (b : Bool) (last n : ℕ) (keys : List ℕ) (x : Instance) (xs more : List Instance) → b ≡ true → AreKnown b last keys xs → last < n → n ≡ x.id
    → more ≡ xs ++ x ∷ [] → AreKnown b n keys more
known_greater true last n keys x xs more e known l same m = subst (λ k. AreUpTo k more) (sym same) (subst (λ ys. AreUpTo x.id ys) (sym m) (up_to_more last x xs known (subst (λ k. last < k) same l)))
known_greater false last n keys x xs more e known l same m = absurd (cc)
