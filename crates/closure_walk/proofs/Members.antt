-- Members of ascending lists.
use Rattle.std.proofs.Common.{◌≡◌, ℕ, ◌<◌, ◌≤◌, ◌≢◌, ◌==◌, nat_lt, cond, List, [], ◌∷◌, ◌++◌, refl, ap, sym, subst, ◌∙◌, Bool, true, false, inl, inr, ◌⊎◌, arith}
use Rattle.std.specs.List.{flat_map}
use Rattle.std.proofs.lemmas.Bool.{eqb-true, ltb-true, ltb-false, eqb-false}
use Rattle.audit_model.specs.Ascending.{insert, union}
use Rattle.closure_walk.specs.Walking.{In}

-- Lists.

pub in_first : {X : Type 0} (x : X) (xs ys : List X) → In x xs → In x (xs ++ ys)
in_first x [] ys h = absurd h
in_first x (y ∷ xs) ys (inl e) = inl e
in_first x (y ∷ xs) ys (inr h) = inr (in_first x xs ys h)

pub in_last : {X : Type 0} (x : X) (xs ys : List X) → In x ys → In x (xs ++ ys)
in_last x [] ys h = h
in_last x (y ∷ xs) ys h = inr (in_last x xs ys h)

pub in_parts : {X : Type 0} (x : X) (xs ys : List X) → In x (xs ++ ys) → In x xs ⊎ In x ys
in_parts x [] ys h = inr h
in_parts x (y ∷ xs) ys (inl e) = inl (inl e)
in_parts x (y ∷ xs) ys (inr h) = elim (in_parts x xs ys h) [ inl a ↦ inl (inr a) | inr b ↦ inr b ]

pub record From {X Y : Type 0} (f : X → List Y) (xs : List X) (y : Y) : Type 0 where
  pub at : X
  pub is_in : In at xs
  pub gives : In y (f at)

pub in_flat : {X Y : Type 0} (f : X → List Y) (xs : List X) (y : Y) → In y (flat_map f xs) → From f xs y
in_flat f [] y h = absurd h
in_flat f (x ∷ xs) y h = elim (in_parts y (f x) (flat_map f xs) h) [
  | inl a ↦ record { at = x; is_in = inl refl; gives = a }
  | inr b ↦ let r = in_flat f xs y b in record { at = r.at; is_in = inr r.is_in; gives = r.gives }
]

pub flat_in : {X Y : Type 0} (f : X → List Y) (xs : List X) (x : X) (y : Y) → In x xs → In y (f x) → In y (flat_map f xs)
flat_in f [] x y h k = absurd h
flat_in f (z ∷ xs) x y (inl e) k = in_first y (f z) (flat_map f xs) (subst (λ w. In y (f w)) e k)
flat_in f (z ∷ xs) x y (inr h) k = in_last y (f z) (flat_map f xs) (flat_in f xs x y h k)

-- Inserting.

pub inserted : {X : Type 0} (a b : Bool) (x i y : X) (xs ys : List X) → (b ≡ true → i ≡ y) → (In x ys → (x ≡ i) ⊎ In x xs) → In x (cond a (i ∷ y ∷ xs) (cond b (y ∷ xs) (y ∷ ys))) → (x ≡ i) ⊎ In x (y ∷ xs)
inserted true b x i y xs ys e f (inl h) = inl h
inserted true b x i y xs ys e f (inr h) = inr h
inserted false true x i y xs ys e f h = inr h
inserted false false x i y xs ys e f (inl h) = inr (inl h)
inserted false false x i y xs ys e f (inr h) = elim (f h) [ inl g ↦ inl g | inr g ↦ inr (inr g) ]

pub in_insert : (x i : ℕ) (xs : List ℕ) → In x (insert i xs) → (x ≡ i) ⊎ In x xs
in_insert x i [] h = h
in_insert x i (y ∷ ys) h = inserted (nat_lt i y) (i == y) x i y ys (insert i ys) (eqb-true i y) (in_insert x i ys) h

pub inserts : {X : Type 0} (a b : Bool) (x i y : X) (xs ys : List X) → (b ≡ true → i ≡ y) → ((x ≡ i) ⊎ In x xs → In x ys) → (x ≡ i) ⊎ In x (y ∷ xs) → In x (cond a (i ∷ y ∷ xs) (cond b (y ∷ xs) (y ∷ ys)))
inserts true b x i y xs ys e f h = h
inserts false true x i y xs ys e f (inl h) = inl (h ∙ e refl)
inserts false true x i y xs ys e f (inr h) = h
inserts false false x i y xs ys e f (inl h) = inr (f (inl h))
inserts false false x i y xs ys e f (inr (inl h)) = inl h
inserts false false x i y xs ys e f (inr (inr h)) = inr (f (inr h))

pub insert_in : (x i : ℕ) (xs : List ℕ) → (x ≡ i) ⊎ In x xs → In x (insert i xs)
insert_in x i [] h = h
insert_in x i (y ∷ ys) h = inserts (nat_lt i y) (i == y) x i y ys (insert i ys) (eqb-true i y) (insert_in x i ys) h

pub in_union : (x : ℕ) (xs ys : List ℕ) → In x (union xs ys) → In x xs ⊎ In x ys
in_union x xs [] h = inl h
in_union x xs (y ∷ ys) h = elim (in_union x (insert y xs) ys h) [
  | inl a ↦ elim (in_insert x y xs a) [ inl e ↦ inr (inl e) | inr b ↦ inl b ]
  | inr b ↦ inr (inr b)
]

pub union_first : (x : ℕ) (xs ys : List ℕ) → In x xs → In x (union xs ys)
union_first x xs [] h = h
union_first x xs (y ∷ ys) h = union_first x (insert y xs) ys (insert_in x y xs (inr h))

pub union_last : (x : ℕ) (xs ys : List ℕ) → In x ys → In x (union xs ys)
union_last x xs [] h = absurd h
union_last x xs (y ∷ ys) (inl e) = union_first x (insert y xs) ys (insert_in x y xs (inl e))
union_last x xs (y ∷ ys) (inr h) = union_last x (insert y xs) ys h

-- Ascending lists.

abbrev pub AllAbove : ℕ → List ℕ → Type 0
AllAbove n [] = Unit {0}
AllAbove n (x ∷ xs) = (n < x) × AllAbove n xs

abbrev pub IsAscending : List ℕ → Type 0
IsAscending [] = Unit {0}
IsAscending (x ∷ xs) = AllAbove x xs × IsAscending xs

pub above_in : (n x : ℕ) (xs : List ℕ) → AllAbove n xs → In x xs → n < x
above_in n x [] h k = absurd k
above_in n x (y ∷ ys) h (inl e) = subst (λ z. n < z) (sym e) h.0
above_in n x (y ∷ ys) h (inr k) = above_in n x ys h.1 k

above_all : (n : ℕ) (xs : List ℕ) → ((x : ℕ) → In x xs → n < x) → AllAbove n xs
above_all n [] h = tt
above_all n (x ∷ xs) h = (h x (inl refl), above_all n xs (λ y k. h y (inr k)))

ascends : (a b : Bool) (i y : ℕ) (xs ys : List ℕ) → nat_lt i y ≡ a → (i == y) ≡ b → IsAscending (y ∷ xs) → IsAscending ys → ((x : ℕ) → In x ys → (x ≡ i) ⊎ In x xs) → IsAscending (cond a (i ∷ y ∷ xs) (cond b (y ∷ xs) (y ∷ ys)))
ascends true b i y xs ys e f h k m = ((ltb-true i y e, above_all i xs (λ x l. let p : i < y = ltb-true i y e in let q : y < x = above_in y x xs h.0 l in omega arith)), h)
ascends false true i y xs ys e f h k m = h
ascends false false i y xs ys e f h k m = (
  above_all y ys (λ x l. elim (m x l) [
    | inl g ↦ let p : y ≤ i = ltb-false i y e in let q : i ≢ y = eqb-false i y f in omega (arith, p, q, g)
    | inr g ↦ above_in y x xs h.0 g
  ]),
  k,
)

pub asc_insert : (i : ℕ) (xs : List ℕ) → IsAscending xs → IsAscending (insert i xs)
asc_insert i [] h = (tt, tt)
asc_insert i (y ∷ ys) h = ascends (nat_lt i y) (i == y) i y ys (insert i ys) refl refl h (asc_insert i ys h.1) (λ x. in_insert x i ys)

pub asc_union : (xs ys : List ℕ) → IsAscending xs → IsAscending (union xs ys)
asc_union xs [] h = h
asc_union xs (y ∷ ys) h = asc_union (insert y xs) ys (asc_insert y xs h)

-- two ascending lists with the same members are one
pub asc_same : (xs ys : List ℕ) → IsAscending xs → IsAscending ys → ((x : ℕ) → In x xs → In x ys) → ((x : ℕ) → In x ys → In x xs) → xs ≡ ys
asc_same [] [] h k f g = refl
asc_same [] (y ∷ ys) h k f g = absurd (g y (inl refl))
asc_same (x ∷ xs) [] h k f g = absurd (f x (inl refl))
asc_same (x ∷ xs) (y ∷ ys) h k f g =
    let e : x ≡ y = elim (f x (inl refl)) [
      | inl a ↦ a
      | inr a ↦ elim (g y (inl refl)) [
        | inl b ↦ sym b
        | inr b ↦ let p : y < x = above_in y x ys k.0 a in let q : x < y = above_in x y xs h.0 b in absurd (omega arith)
      ]
    ] in
    let rest : xs ≡ ys = asc_same xs ys h.1 k.1
    (λ z l. elim (f z (inr l)) [ inl a ↦ (let p : x < z = above_in x z xs h.0 l in absurd (omega (arith, p, a, e))) | inr a ↦ a ])
    (λ z l. elim (g z (inr l)) [ inl a ↦ (let p : y < z = above_in y z ys k.0 l in absurd (omega (arith, p, a, e))) | inr a ↦ a ]) in
    ap (λ z. z ∷ xs) e ∙ ap (λ zs. y ∷ zs) rest
