-- The order of pairs, and rows in this order.
use Rattle.std.proofs.Common.{◌≡◌, ℕ, suc, ◌+◌, ◌<◌, ◌≤◌, Bool, true, false, cond, ◌&&◌, ◌||◌, ◌==◌, if◌then◌else◌, nat_lt, List, [], ◌∷◌, length, get_or, Option, Some, None, refl, arith, ap, sym, subst, ◌∙◌, inl, inr, set}
use Rattle.std.specs.List.{prefix_len, slice_get, list_any}
use Rattle.std.specs.Option.{option_map}
use Rattle.std.proofs.lemmas.Option.{slice_get_past, slice_get_read}
use Rattle.std.proofs.lemmas.Bool.{cases_lt, and_parts, lt-ltb, le-ltb, ltb-true, eqb-true, eq-eqb, true≢false}
use Rattle.audit_model.specs.declared.verdict.Pair.{Pair}
use Rattle.audit_model.specs.Pairs.{same_pair}
use Rattle.audit_model.specs.Laws.{ComesBefore}
use Rattle.dirty_board.specs.declared.rows.Row.{Row}
use Rattle.dirty_board.specs.Rows.{below, AreAfter, AreAscending, row_place, with_row}
use Rattle.dirty_board.proofs.Lists.{IsSplit}

-- pairs that are the same are one
pub same_is : (p q : Pair) → same_pair p q ≡ true → p ≡ q
same_is p q e =
    let both : ((p.spec == q.spec) ≡ true) × ((p.elem == q.elem) ≡ true) = and_parts (p.spec == q.spec) (p.elem == q.elem) e in
    let spec_is : p.spec ≡ q.spec = eqb-true p.spec q.spec both.0 in
    let elem_is : p.elem ≡ q.elem = eqb-true p.elem q.elem both.1 in
    λ i. record { spec = spec_is i; elem = elem_is i }

pub is_below : (p q : Pair) → below p q ≡ true → ComesBefore p q
is_below p q e =
    let F : Bool → Type 0 = λ b. nat_lt p.spec q.spec ≡ b → (b || (p.spec == q.spec && nat_lt p.elem q.elem)) ≡ true → ComesBefore p q in
    let at : F (nat_lt p.spec q.spec) = elim (nat_lt p.spec q.spec) as F [
      | true ↦ λ k h. inl (ltb-true p.spec q.spec k)
      | false ↦ λ k h. let both : ((p.spec == q.spec) ≡ true) × (nat_lt p.elem q.elem ≡ true) = and_parts (p.spec == q.spec) (nat_lt p.elem q.elem) h in inr (eqb-true p.spec q.spec both.0, ltb-true p.elem q.elem both.1)
    ] in
    at refl e

pub to_below : (p q : Pair) → ComesBefore p q → below p q ≡ true
to_below p q (inl l) = rw (lt-ltb p.spec q.spec l)
to_below p q (inr h) = rw (le-ltb p.spec q.spec (omega (arith, h.0)), eq-eqb p.spec q.spec h.0, lt-ltb p.elem q.elem h.1)

over : (p q r : Pair) → ComesBefore p q → ComesBefore q r → ComesBefore p r
over p q r (inl a) (inl b) = inl (omega (arith, a, b))
over p q r (inl a) (inr b) = inl (omega (arith, a, b.0))
over p q r (inr a) (inl b) = inl (omega (arith, a.0, b))
over p q r (inr a) (inr b) = inr (a.0 ∙ b.0, omega (arith, a.1, b.1))

pub below_trans : (p q r : Pair) → below p q ≡ true → below q r ≡ true → below p r ≡ true
below_trans p q r a b = to_below p r (over p q r (is_below p q a) (is_below q r b))

-- of a pair that isn't below another the other is, or they are one
pub not_below : (p q : Pair) → below p q ≡ false → same_pair q p ≡ false → below q p ≡ true
not_below p q f d =
    elim (cases_lt p.spec q.spec) [
      | inl l ↦ absurd (true≢false (sym (to_below p q (inl l)) ∙ f))
      | inr g ↦ elim (cases_lt q.spec p.spec) [
        | inl l ↦ to_below q p (inl l)
        | inr g' ↦ elim (cases_lt p.elem q.elem) [
          | inl l ↦ absurd (true≢false (sym (to_below p q (inr (omega (arith, g, g'), l))) ∙ f))
          | inr k ↦ elim (cases_lt q.elem p.elem) [
            | inl l ↦ to_below q p (inr (omega (arith, g, g'), l))
            | inr k' ↦ absurd (let s : same_pair q p ≡ true = rw (eq-eqb q.spec p.spec (omega (arith, g, g')), eq-eqb q.elem p.elem (omega (arith, k, k'))) in true≢false (sym s ∙ d))
          ]
        ]
      ]
    ]

apart : (p q : Pair) → (p ≡ q → ⊥) → same_pair p q ≡ false
apart p q n =
    let F : Bool → Type 0 = λ b. same_pair p q ≡ b → b ≡ false in
    let at : F (same_pair p q) = elim (same_pair p q) as F [ true ↦ λ s. absurd (n (same_is p q s)) | false ↦ λ s. refl ] in
    at refl

pub not_itself : (p : Pair) → below p p ≡ true → ⊥
not_itself p e = elim (is_below p p e) [ inl l ↦ omega (arith, l) | inr l ↦ omega (arith, l.1) ]

-- a pair that is below another isn't it, and neither is one that is above
pub other_below : (p q : Pair) → below p q ≡ true → same_pair q p ≡ false
other_below p q e = apart q p (λ s. not_itself p (subst (λ (x : Pair). below p x ≡ true) s e))

pub other_above : (p q : Pair) → below q p ≡ true → same_pair q p ≡ false
other_above p q e = apart q p (λ s. not_itself p (subst (λ (x : Pair). below x p ≡ true) s e))

-- rows after a pair that isn't below p are not below it
pub none_below : (p x : Pair) (rs : List Row) → below x p ≡ false → AreAfter x rs → list_any (λ r. below r.pair p) rs ≡ false
none_below p x [] f a = refl
none_below p x (r ∷ rs) f a =
    let F : Bool → Type 0 = λ b. below r.pair p ≡ b → (b || list_any (λ s. below s.pair p) rs) ≡ false in
    let at : F (below r.pair p) = elim (below r.pair p) as F [
      | true ↦ λ e. absurd (true≢false (sym (below_trans x r.pair p a.0 e) ∙ f))
      | false ↦ λ e. none_below p x rs f a.1
    ] in
    at refl

pub rows_split : (p : Pair) (rows : List Row) → AreAscending rows → IsSplit (λ r. below r.pair p) rows
rows_split p [] h = tt
rows_split p (r ∷ rs) h = (λ f. none_below p r.pair rs f h.0, rows_split p rs h.1)

-- no row after p is of p
pub none_after : (p : Pair) (rs : List Row) → AreAfter p rs → row_place p rs ≡ None
none_after p [] a = refl
none_after p (r ∷ rs) a = rw (other_above r.pair p a.0, none_after p rs a.1)

pub after_more : (p x : Pair) (rs : List Row) → below p x ≡ true → AreAfter x rs → AreAfter p rs
after_more p x [] b a = tt
after_more p x (r ∷ rs) b a = (below_trans p x r.pair b a.0, after_more p x rs b a.1)

-- the place, if the row there is of the pair
abbrev pub checked : Pair → ℕ → Option Row → Option ℕ
checked p i None = None
checked p i (Some r) = if same_pair p r.pair then Some i else None

checked_more : (p : Pair) (i j : ℕ) (o : Option Row) → j ≡ suc i → option_map (λ n. suc n) (checked p i o) ≡ checked p j o
checked_more p i j None e = refl
checked_more p i j (Some r) e =
    elim (same_pair p r.pair) as (λ b. option_map (λ n. suc n) (if b then Some i else None) ≡ (if b then Some j else None)) [ true ↦ ap (λ (n : ℕ). Some n) (sym e) | false ↦ refl ]

-- the row of a pair can stand behind all that are below it alone
pub place_is : (p : Pair) (rows : List Row) → AreAscending rows → row_place p rows ≡ checked p (prefix_len (λ r. below r.pair p) rows) (slice_get rows (prefix_len (λ r. below r.pair p) rows))
place_is p [] h = refl
place_is p (r ∷ rs) h =
    let F : Bool → Type 0 = λ b. below r.pair p ≡ b → row_place p (r ∷ rs) ≡ checked p (cond b (1 + prefix_len (λ s. below s.pair p) rs) 0) (slice_get (r ∷ rs) (cond b (1 + prefix_len (λ s. below s.pair p) rs) 0)) in
    let at : F (below r.pair p) = elim (below r.pair p) as F [
      | true ↦ λ e.
          let k : ℕ = prefix_len (λ s. below s.pair p) rs in
          let one : 1 + prefix_len (λ s. below s.pair p) rs ≡ suc (prefix_len (λ s. below s.pair p) rs) = omega arith in
          rw (other_below r.pair p e, one, place_is p rs h.1) (checked_more p (prefix_len (λ s. below s.pair p) rs) (suc (prefix_len (λ s. below s.pair p) rs)) (slice_get rs (prefix_len (λ s. below s.pair p) rs)) refl)
      | false ↦ λ e.
          let G : Bool → Type 0 = λ b. same_pair p r.pair ≡ b → (if b then Some 0 else option_map (λ i. suc i) (row_place p rs)) ≡ (if b then Some 0 else None) in
          let here : G (same_pair p r.pair) = elim (same_pair p r.pair) as G [
            | true ↦ λ s. refl
            | false ↦ λ s. rw (none_after p rs (after_more p r.pair rs (not_below r.pair p e s) h.0))
          ] in
          here refl
    ] in
    at refl

pub place_past : (p : Pair) (rows : List Row) → AreAscending rows → length rows ≤ prefix_len (λ r. below r.pair p) rows → row_place p rows ≡ None
place_past p rows h l = rw (place_is p rows h, slice_get_past rows (prefix_len (λ r. below r.pair p) rows) l)

pub place_read : (p : Pair) (rows : List Row) (r : Row) (b : Bool) → AreAscending rows → prefix_len (λ s. below s.pair p) rows < length rows → r ≡ get_or rows (prefix_len (λ s. below s.pair p) rows) r → same_pair p r.pair ≡ b → row_place p rows ≡ (if b then Some (prefix_len (λ s. below s.pair p) rows) else None)
place_read p rows r b h l e same = rw (place_is p rows h, slice_get_read rows (length rows) (prefix_len (λ s. below s.pair p) rows) r refl l e, same)

-- Writes at the place of a pair.

pub place_within : (p : Pair) (rows : List Row) (i : ℕ) → row_place p rows ≡ Some i → i < length rows
place_within p [] i e = absurd (cc)
place_within p (r ∷ rs) i e =
    let F : Bool → Type 0 = λ b. (if b then Some 0 else option_map (λ n. suc n) (row_place p rs)) ≡ Some i → i < length (r ∷ rs) in
    let G : Option ℕ → Type 0 = λ o. row_place p rs ≡ o → option_map (λ n. suc n) o ≡ Some i → i < length (r ∷ rs) in
    let rest : G (row_place p rs) = elim (row_place p rs) as G [
      | None ↦ λ k t. absurd (cc)
      | Some j ↦ λ k t. let l : j < length rs = place_within p rs j k in let same : suc j ≡ i = cc in omega (arith, l, same)
    ] in
    let at : F (same_pair p r.pair) = elim (same_pair p r.pair) as F [ true ↦ λ t. let same : 0 ≡ i = cc in omega (arith, same) | false ↦ λ t. rest refl t ] in
    at e

-- the rows after a write at the place of the pair
pub set_place : (p : Pair) (f : Row → Row) (rows : List Row) (i : ℕ) (d : Row) → row_place p rows ≡ Some i → set rows i (f (get_or rows i d)) ≡ with_row p f rows
set_place p f [] i d e = absurd (cc)
set_place p f (r ∷ rs) i d e =
    let F : Bool → Type 0 = λ b. (if b then Some 0 else option_map (λ n. suc n) (row_place p rs)) ≡ Some i → set (r ∷ rs) i (f (get_or (r ∷ rs) i d)) ≡ (if b then f r ∷ rs else r ∷ with_row p f rs) in
    let G : Option ℕ → Type 0 = λ o. row_place p rs ≡ o → option_map (λ n. suc n) o ≡ Some i → set (r ∷ rs) i (f (get_or (r ∷ rs) i d)) ≡ r ∷ with_row p f rs in
    let rest : G (row_place p rs) = elim (row_place p rs) as G [
      | None ↦ λ h t. absurd (cc)
      | Some j ↦ λ h t. let same : suc j ≡ i = cc in rw (← same) (ap (λ xs. r ∷ xs) (set_place p f rs j d h))
    ] in
    let at : F (same_pair p r.pair) = elim (same_pair p r.pair) as F [ true ↦ λ t. let same : 0 ≡ i = cc in rw (← same) | false ↦ λ t. rest refl t ] in
    at e

pub set_none : (p : Pair) (f : Row → Row) (rows : List Row) → row_place p rows ≡ None → rows ≡ with_row p f rows
set_none p f [] e = refl
set_none p f (r ∷ rs) e =
    let F : Bool → Type 0 = λ b. (if b then Some 0 else option_map (λ n. suc n) (row_place p rs)) ≡ None → r ∷ rs ≡ (if b then f r ∷ rs else r ∷ with_row p f rs) in
    let G : Option ℕ → Type 0 = λ o. row_place p rs ≡ o → option_map (λ n. suc n) o ≡ None → r ∷ rs ≡ r ∷ with_row p f rs in
    let rest : G (row_place p rs) = elim (row_place p rs) as G [ None ↦ λ h t. ap (λ xs. r ∷ xs) (set_none p f rs h) | Some j ↦ λ h t. absurd (cc) ] in
    let at : F (same_pair p r.pair) = elim (same_pair p r.pair) as F [ true ↦ λ t. absurd (cc) | false ↦ λ t. rest refl t ] in
    at e

-- a change that leaves the pairs as they are keeps the order
after_with : (q p : Pair) (f : Row → Row) → ((r : Row) → (f r).pair ≡ r.pair) → (rows : List Row) → AreAfter q rows → AreAfter q (with_row p f rows)
after_with q p f k [] a = tt
after_with q p f k (r ∷ rs) a =
    elim (same_pair p r.pair) as (λ b. AreAfter q (if b then f r ∷ rs else r ∷ with_row p f rs)) [ true ↦ (rw (k r) a.0, a.1) | false ↦ (a.0, after_with q p f k rs a.1) ]

pub ascending_with : (p : Pair) (f : Row → Row) → ((r : Row) → (f r).pair ≡ r.pair) → (rows : List Row) → AreAscending rows → AreAscending (with_row p f rows)
ascending_with p f k [] a = tt
ascending_with p f k (r ∷ rs) a =
    elim (same_pair p r.pair) as (λ b. AreAscending (if b then f r ∷ rs else r ∷ with_row p f rs)) [ true ↦ (rw (k r) a.0, a.1) | false ↦ (after_with r.pair p f k rs a.0, ascending_with p f k rs a.1) ]

-- a row behind p is of a pair that comes after it
pub after_place : (p q : Pair) (rs : List Row) (j : ℕ) → AreAfter p rs → row_place q rs ≡ Some j → below p q ≡ true
after_place p q [] j a e = absurd (cc)
after_place p q (r ∷ rs) j a e =
    let F : Bool → Type 0 = λ b. same_pair q r.pair ≡ b → (if b then Some 0 else option_map (λ n. suc n) (row_place q rs)) ≡ Some j → below p q ≡ true in
    let G : Option ℕ → Type 0 = λ o. row_place q rs ≡ o → option_map (λ n. suc n) o ≡ Some j → below p q ≡ true in
    let rest : G (row_place q rs) = elim (row_place q rs) as G [ None ↦ λ h t. absurd (cc) | Some i ↦ λ h t. after_place p q rs i a.1 h ] in
    let at : F (same_pair q r.pair) = elim (same_pair q r.pair) as F [ true ↦ λ h t. subst (λ (x : Pair). below p x ≡ true) (sym (same_is q r.pair h)) a.0 | false ↦ λ h t. rest refl t ] in
    at refl e
