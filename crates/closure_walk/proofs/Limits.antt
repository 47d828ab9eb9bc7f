-- A closure grows by a new id in each round until it stays, so that as many rounds as there are ids make it whole.
use Rattle.std.proofs.Common.{◌≡◌, ℕ, zero, suc, ◌+◌, ◌≤◌, ◌<◌, ◌==◌, nat_lt, cond, Bool, true, false, List, [], ◌∷◌, length, refl, ap, sym, subst, ◌∙◌, inl, inr, ◌⊎◌, arith}
use Rattle.std.specs.List.{flat_map}
use Rattle.std.proofs.lemmas.Bool.{cases_lt}
use Rattle.audit_model.specs.Keys.{Sight}
use Rattle.audit_model.specs.Reading.{Reading}
use Rattle.audit_model.specs.Ascending.{insert, union, ascending}
use Rattle.audit_model.specs.Closures.{reached, most_hops}
use Rattle.closure_walk.specs.Walking.{In}
use Rattle.closure_walk.specs.Laws.{IsId, ClosuresAreWhole}
use Rattle.closure_walk.proofs.Members.{in_flat, in_union, IsAscending, above_in}
use Rattle.closure_walk.proofs.Walks.{ends_more, ends_first, asc_reached}

-- An ascending list of ids has at most as many as there are.

bounded : (xs : List ℕ) (a b : ℕ) → IsAscending xs → ((y : ℕ) → In y xs → (a ≤ y) × (y ≤ b)) → (xs ≡ []) ⊎ (length xs + a ≤ b + 1)
bounded [] a b h f = inl refl
bounded (x ∷ xs) a b h f =
    let here : (a ≤ x) × (x ≤ b) = f x (inl refl) in
    elim (bounded xs (x + 1) b h.1 (λ y i. (let l : x < y = above_in x y xs h.0 i in omega (arith, l), (f y (inr i)).1))) [
      | inl e ↦ inr (let n : length xs ≡ 0 = ap length e in omega (arith, n, here.0, here.1))
      | inr l ↦ inr (omega (arith, l, here.0))
    ]

-- A union has what it had, or it is longer.

insert_step : (a b : Bool) (i x : ℕ) (xs ys : List ℕ) → (ys ≡ xs) ⊎ (length ys ≡ suc (length xs)) → (cond a (i ∷ x ∷ xs) (cond b (x ∷ xs) (x ∷ ys)) ≡ x ∷ xs) ⊎ (length (cond a (i ∷ x ∷ xs) (cond b (x ∷ xs) (x ∷ ys))) ≡ suc (suc (length xs)))
insert_step true b i x xs ys h = inr refl
insert_step false true i x xs ys h = inl refl
insert_step false false i x xs ys (inl e) = inl (ap (λ zs. x ∷ zs) e)
insert_step false false i x xs ys (inr l) = inr (ap suc l)

insert_grows : (i : ℕ) (xs : List ℕ) → (insert i xs ≡ xs) ⊎ (length (insert i xs) ≡ suc (length xs))
insert_grows i [] = inr refl
insert_grows i (x ∷ xs) = insert_step (nat_lt i x) (i == x) i x xs (insert i xs) (insert_grows i xs)

union_grows : (xs ys : List ℕ) → (union xs ys ≡ xs) ⊎ (length xs < length (union xs ys))
union_grows xs [] = inl refl
union_grows xs (y ∷ ys) =
    elim (insert_grows y xs) [
      | inl e ↦ subst (λ zs. (union zs ys ≡ xs) ⊎ (length xs < length (union zs ys))) (sym e) (union_grows xs ys)
      | inr l ↦ inr (elim (union_grows (insert y xs) ys) [
        | inl e ↦ let n : length (union (insert y xs) ys) ≡ length (insert y xs) = ap length e in omega (arith, l, n)
        | inr m ↦ omega (arith, l, m)
      ])
    ]

below : (a k : ℕ) → a ≤ suc k → (a ≡ suc k) ⊎ (a ≤ k)
below a k l = elim (cases_lt k a) [ inl lt ↦ inl (omega (arith, l, lt)) | inr le ↦ inr le ]

module _ (step : ℕ → Reading (List ℕ)) (v : Sight) (starts : List ℕ) where
  abbrev so_far : ℕ → List ℕ
  so_far n = (reached step n starts).answer v

  abbrev ends : List ℕ → List ℕ
  ends xs = flat_map (λ x. (step x).answer v) xs

  -- so many rounds were followed by one that brought nothing new, or each brought an id
  record Stopped (n : ℕ) : Type 0 where
    at : ℕ
    early : at ≤ n
    still : so_far (suc at) ≡ so_far at

  none_first : starts ≡ [] → so_far 0 ≡ []
  none_first e = ends_first step v starts ∙ ap ascending e

  begun : (ss : List ℕ) → starts ≡ ss → Stopped 0 ⊎ (0 < length (so_far 0))
  begun [] e = inl (record {
    at = 0;
    early = omega arith;
    still = ends_more step v starts 0 ∙ ap (λ xs. union xs (ends xs)) (none_first e) ∙ sym (none_first e);
  })
  begun (x ∷ ss) e =
      let first : so_far 0 ≡ union (x ∷ []) ss = ends_first step v starts ∙ ap ascending e in
      inr (subst (λ xs. 0 < length xs) (sym first) (elim (union_grows (x ∷ []) ss) [
        | inl same ↦ let n : length (union (x ∷ []) ss) ≡ 1 = ap length same in omega (arith, n)
        | inr m ↦ omega (arith, m)
      ]))

  grows : (n : ℕ) → Stopped n ⊎ (n < length (so_far n))
  grows zero = begun starts refl
  grows (suc n) =
      elim (grows n) [
        | inl s ↦ inl (record { at = s.at; early = omega (arith, s.early); still = s.still })
        | inr l ↦ elim (union_grows (so_far n) (ends (so_far n))) [
          | inl e ↦ inl (record { at = n; early = omega arith; still = ends_more step v starts n ∙ e })
          | inr m ↦ inr (subst (λ xs. suc n < length xs) (sym (ends_more step v starts n)) (omega (arith, l, m)))
        ]
      ]

  all_ids : ((y : ℕ) → In y starts → IsId y) → ((x y : ℕ) → In y ((step x).answer v) → IsId y) → (n y : ℕ) → In y (so_far n) → IsId y
  all_ids f g zero y i = elim (in_union y [] starts (subst (λ xs. In y xs) (ends_first step v starts) i)) [ inl a ↦ absurd a | inr b ↦ f y b ]
  all_ids f g (suc n) y i =
      elim (in_union y (so_far n) (ends (so_far n)) (subst (λ xs. In y xs) (ends_more step v starts n) i)) [
        | inl a ↦ all_ids f g n y a
        | inr b ↦ let r = in_flat (λ x. (step x).answer v) (so_far n) y b in g r.at y r.gives
      ]

  stopped : ((y : ℕ) → In y starts → IsId y) → ((x y : ℕ) → In y ((step x).answer v) → IsId y) → (m : ℕ) → m ≡ most_hops → Stopped m
  stopped f g m e =
      elim (grows m) [
        | inl s ↦ s
        | inr l ↦ elim (bounded (so_far m) 1 most_hops (asc_reached step v starts m) (all_ids f g m)) [
          | inl none ↦ absurd (let n : length (so_far m) ≡ 0 = ap length none in omega (arith, l, n))
          | inr few ↦ absurd (omega (arith, l, few, e))
        ]
      ]

  -- a round that brings nothing new is followed by none that does
  later : (at : ℕ) → so_far (suc at) ≡ so_far at → (k : ℕ) → at ≤ k → so_far k ≡ so_far at
  later at e zero l = let z : at ≡ zero = omega (arith, l) in ap so_far (sym z)
  later at e (suc k) l = elim (below at k l) [
    | inl z ↦ ap so_far (sym z)
    | inr m ↦ ends_more step v starts k ∙ ap (λ xs. union xs (ends xs)) (later at e k m) ∙ sym (ends_more step v starts at) ∙ e
  ]

  after : (m n : ℕ) → Stopped m → m ≤ n → so_far n ≡ so_far m
  after m n s l =
      let from : (k : ℕ) → s.at ≤ k → so_far k ≡ so_far s.at = later s.at s.still in
      let early : s.at ≤ n = omega (arith, s.early, l) in
      from n early ∙ sym (from m s.early)

pub closures_are_whole : ClosuresAreWhole
closures_are_whole n step v starts f g l = after step v starts most_hops n (stopped step v starts f g most_hops refl) l
