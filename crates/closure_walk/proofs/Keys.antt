-- Ascending lists of keys.
use Rattle.std.proofs.Common.{◌≡◌, ℕ, ◌<◌, ◌≤◌, ◌≢◌, ◌==◌, ◌||◌, ◌&&◌, nat_lt, cond, List, [], ◌∷◌, refl, ap, sym, subst, ◌∙◌, Bool, true, false, inl, inr, ◌⊎◌, arith}
use Rattle.std.proofs.lemmas.Bool.{eqb-true, eqb-false, ltb-true, ltb-false}
use Rattle.ifc_base.specs.declared.key.Key.{Key}
use Rattle.ifc_base.specs.KeyOrder.{key_id, key_rank}
use Rattle.audit_model.specs.Ascending.{key_lt, insert_key, with_keys, ascending_keys}
use Rattle.closure_walk.proofs.Same.{same_key-true}
use Rattle.ifc_base.specs.KeyOrder.{key_eq}
use Rattle.closure_walk.specs.Walking.{In}
use Rattle.closure_walk.specs.Laws.{SameKeysSameNeed}
use Rattle.closure_walk.proofs.Members.{inserted, inserts}

abbrev Before : Key → Key → Type 0
Before k l = (key_id k < key_id l) ⊎ ((key_id k ≡ key_id l) × (key_rank k < key_rank l))

before_trans : (k l m : Key) → Before k l → Before l m → Before k m
before_trans k l m (inl a) (inl b) = inl (omega arith)
before_trans k l m (inl a) (inr b) = inl (omega (arith, a, b.0))
before_trans k l m (inr a) (inl b) = inl (omega (arith, a.0, b))
before_trans k l m (inr a) (inr b) = inr (a.0 ∙ b.0, omega (arith, a.1, b.1))

before_self : (k : Key) → Before k k → ⊥
before_self k (inl a) = omega arith
before_self k (inr a) = omega (arith, a.1)

ordered : (a b c d : ℕ) (p q r s : Bool) → nat_lt a b ≡ p → (a == b) ≡ q → nat_lt c d ≡ r → (c == d) ≡ s → (p || (q && r)) ≡ false → (q && s) ≡ false → (b < a) ⊎ ((b ≡ a) × (d < c))
ordered a b c d true q r s e f g h k l = absurd (cc)
ordered a b c d false false r s e f g h k l = let x : b ≤ a = ltb-false a b e in let y : a ≢ b = eqb-false a b f in inl (omega (arith, x, y))
ordered a b c d false true true s e f g h k l = absurd (cc)
ordered a b c d false true false true e f g h k l = absurd (cc)
ordered a b c d false true false false e f g h k l = let x : d ≤ c = ltb-false c d g in let y : c ≢ d = eqb-false c d h in inr (sym (eqb-true a b f), omega (arith, x, y))

later : (k l : Key) → key_lt k l ≡ false → key_eq k l ≡ false → Before l k
later k l e f = ordered (key_id k) (key_id l) (key_rank k) (key_rank l) _ _ _ _ refl refl refl refl e f

earlier_at : (a b c d : ℕ) (p q r : Bool) → nat_lt a b ≡ p → (a == b) ≡ q → nat_lt c d ≡ r → (p || (q && r)) ≡ true → (a < b) ⊎ ((a ≡ b) × (c < d))
earlier_at a b c d true q r e f g h = inl (ltb-true a b e)
earlier_at a b c d false true true e f g h = inr (eqb-true a b f, ltb-true c d g)
earlier_at a b c d false true false e f g h = absurd (cc)
earlier_at a b c d false false r e f g h = absurd (cc)

earlier : (k l : Key) → key_lt k l ≡ true → Before k l
earlier k l e = earlier_at (key_id k) (key_id l) (key_rank k) (key_rank l) _ _ _ refl refl refl e

abbrev AllAfter : Key → List Key → Type 0
AllAfter k [] = Unit {0}
AllAfter k (l ∷ ls) = Before k l × AllAfter k ls

abbrev AreAscending : List Key → Type 0
AreAscending [] = Unit {0}
AreAscending (k ∷ ks) = AllAfter k ks × AreAscending ks

after_in : (k l : Key) (ls : List Key) → AllAfter k ls → In l ls → Before k l
after_in k l [] h i = absurd i
after_in k l (m ∷ ls) h (inl e) = subst (λ z. Before k z) (sym e) h.0
after_in k l (m ∷ ls) h (inr i) = after_in k l ls h.1 i

after_all : (k : Key) (ls : List Key) → ((l : Key) → In l ls → Before k l) → AllAfter k ls
after_all k [] h = tt
after_all k (l ∷ ls) h = (h l (inl refl), after_all k ls (λ m i. h m (inr i)))

in_insert_key : (x k : Key) (ks : List Key) → In x (insert_key k ks) → (x ≡ k) ⊎ In x ks
in_insert_key x k [] h = h
in_insert_key x k (y ∷ ys) h = inserted (key_lt k y) (key_eq k y) x k y ys (insert_key k ys) (same_key-true k y) (in_insert_key x k ys) h

insert_key_in : (x k : Key) (ks : List Key) → (x ≡ k) ⊎ In x ks → In x (insert_key k ks)
insert_key_in x k [] h = h
insert_key_in x k (y ∷ ys) h = inserts (key_lt k y) (key_eq k y) x k y ys (insert_key k ys) (same_key-true k y) (insert_key_in x k ys) h

ascends : (a b : Bool) (k y : Key) (xs ys : List Key) → key_lt k y ≡ a → key_eq k y ≡ b → AreAscending (y ∷ xs) → AreAscending ys → ((x : Key) → In x ys → (x ≡ k) ⊎ In x xs) → AreAscending (cond a (k ∷ y ∷ xs) (cond b (y ∷ xs) (y ∷ ys)))
ascends true b k y xs ys e f h i m = ((earlier k y e, after_all k xs (λ x l. before_trans k y x (earlier k y e) (after_in y x xs h.0 l))), h)
ascends false true k y xs ys e f h i m = h
ascends false false k y xs ys e f h i m = (
  after_all y ys (λ x l. elim (m x l) [
    | inl g ↦ subst (λ z. Before y z) (sym g) (later k y e f)
    | inr g ↦ after_in y x xs h.0 g
  ]),
  i,
)

asc_insert : (k : Key) (ks : List Key) → AreAscending ks → AreAscending (insert_key k ks)
asc_insert k [] h = (tt, tt)
asc_insert k (y ∷ ys) h = ascends (key_lt k y) (key_eq k y) k y ys (insert_key k ys) refl refl h (asc_insert k ys h.1) (λ x. in_insert_key x k ys)

asc_with : (ks ls : List Key) → AreAscending ks → AreAscending (with_keys ks ls)
asc_with ks [] h = h
asc_with ks (l ∷ ls) h = asc_with (insert_key l ks) ls (asc_insert l ks h)

in_with : (x : Key) (ks ls : List Key) → In x (with_keys ks ls) → In x ks ⊎ In x ls
in_with x ks [] h = inl h
in_with x ks (l ∷ ls) h = elim (in_with x (insert_key l ks) ls h) [
  | inl a ↦ elim (in_insert_key x l ks a) [ inl e ↦ inr (inl e) | inr b ↦ inl b ]
  | inr b ↦ inr (inr b)
]

with_first : (x : Key) (ks ls : List Key) → In x ks → In x (with_keys ks ls)
with_first x ks [] h = h
with_first x ks (l ∷ ls) h = with_first x (insert_key l ks) ls (insert_key_in x l ks (inr h))

with_last : (x : Key) (ks ls : List Key) → In x ls → In x (with_keys ks ls)
with_last x ks [] h = absurd h
with_last x ks (l ∷ ls) (inl e) = with_first x (insert_key l ks) ls (insert_key_in x l ks (inl e))
with_last x ks (l ∷ ls) (inr h) = with_last x (insert_key l ks) ls h

pub asc_same : (xs ys : List Key) → AreAscending xs → AreAscending ys → ((x : Key) → In x xs → In x ys) → ((x : Key) → In x ys → In x xs) → xs ≡ ys
asc_same [] [] h k f g = refl
asc_same [] (y ∷ ys) h k f g = absurd (g y (inl refl))
asc_same (x ∷ xs) [] h k f g = absurd (f x (inl refl))
asc_same (x ∷ xs) (y ∷ ys) h k f g =
    let e : x ≡ y = elim (f x (inl refl)) [
      | inl a ↦ a
      | inr a ↦ elim (g y (inl refl)) [
        | inl b ↦ sym b
        | inr b ↦ absurd (before_self x (before_trans x y x (after_in x y xs h.0 b) (after_in y x ys k.0 a)))
      ]
    ] in
    let rest : xs ≡ ys = asc_same xs ys h.1 k.1
    (λ z l. elim (f z (inr l)) [ inl a ↦ absurd (before_self x (subst (λ w. Before x w) (a ∙ sym e) (after_in x z xs h.0 l))) | inr a ↦ a ])
    (λ z l. elim (g z (inr l)) [ inl a ↦ absurd (before_self y (subst (λ w. Before y w) (a ∙ e) (after_in y z ys k.0 l))) | inr a ↦ a ]) in
    ap (λ z. z ∷ xs) e ∙ ap (λ zs. y ∷ zs) rest

pub same_need : SameKeysSameNeed
same_need ks ls h = asc_same (ascending_keys ks) (ascending_keys ls) (asc_with [] ks tt) (asc_with [] ls tt)
    (λ x i. elim (in_with x [] ks i) [ inl a ↦ absurd a | inr b ↦ with_last x [] ls ((h x).0 b) ])
    (λ x i. elim (in_with x [] ls i) [ inl a ↦ absurd a | inr b ↦ with_last x [] ks ((h x).1 b) ])
