-- A row more, and a row less.
use Rattle.std.proofs.Common.{◌≡◌, ℕ, suc, zero, ◌+◌, ◌<◌, ◌≤◌, Bool, true, false, cond, not, ◌&&◌, ◌||◌, ◌==◌, if◌then◌else◌, List, [], ◌∷◌, ◌++◌, length, take, drop, fold, get_or, map, filter, Option, Some, None, refl, arith, ap, sym, subst, ◌∙◌, add-one}
use Rattle.std.specs.Prelude.{insert}
use Rattle.std.specs.List.{prefix_len, list_any, remove}
use Rattle.std.specs.Option.{option_map}
use Rattle.std.proofs.lemmas.Bool.{or_parts, true≢false}
use Rattle.std.proofs.lemmas.List.Sums.{fold_more}
use Rattle.std.proofs.Math.Seq.{drop-cons}
use Rattle.audit_model.specs.declared.verdict.Pair.{Pair}
use Rattle.audit_model.specs.Pairs.{same_pair}
use Rattle.dirty_board.specs.declared.rows.Row.{Row}
use Rattle.dirty_board.specs.Rows.{below, is_claimable, is_unsettled, new_row, row_place, without_row, AreAfter, AreAscending, IsTable}
use Rattle.dirty_board.specs.Needing.{is_among}
use Rattle.dirty_board.specs.Rooms.{pairs_of, with_pair, without_pairs, AreNew}
use Rattle.dirty_board.proofs.Order.{after_more, below_trans, none_after, none_below, not_below, not_itself, same_is}
use Rattle.dirty_board.proofs.Lookups.{same_itself}
use Rattle.dirty_board.proofs.Tests.{any_more}

-- Lists.

one_suc : (n : ℕ) → 1 + n ≡ suc n
one_suc n = omega arith

pub map_insert : {X Y : Type 0} (f : X → Y) (xs : List X) (i : ℕ) (y : X) → map f (insert xs i y) ≡ insert (map f xs) i (f y)
map_insert f [] zero y = refl
map_insert f [] (suc i) y = refl
map_insert f (x ∷ xs) zero y = refl
map_insert f (x ∷ xs) (suc i) y = ap (λ ys. f x ∷ ys) (map_insert f xs i y)

pub map_remove : {X Y : Type 0} (f : X → Y) (xs : List X) (i : ℕ) → map f (remove xs i) ≡ remove (map f xs) i
map_remove f [] zero = refl
map_remove f [] (suc i) = refl
map_remove f (x ∷ xs) zero = refl
map_remove f (x ∷ xs) (suc i) = ap (λ ys. f x ∷ ys) (map_remove f xs i)

filter_none : {X : Type 0} (t : X → Bool) (xs : List X) → list_any t xs ≡ false → filter t xs ≡ []
filter_none t [] e = refl
filter_none t (x ∷ xs) e = let both : (t x ≡ false) × (list_any t xs ≡ false) = or_parts (t x) (list_any t xs) e in rw both.0 (filter_none t xs both.1)

filter_after : {X : Type 0} (t u v : X → Bool) → ((x : X) → v x ≡ (t x && u x)) → (xs : List X) → filter u (filter t xs) ≡ filter v xs
filter_after t u v same [] = refl
filter_after {X} t u v same (x ∷ xs) =
    let F : Bool → Type 0 = λ b. t x ≡ b → filter u (cond b (x ∷ filter t xs) (filter t xs)) ≡ filter v (x ∷ xs) in
    let at : F (t x) = elim (t x) as F [
      | true ↦ λ e.
          let here : v x ≡ u x = same x ∙ ap (λ b. b && u x) e in
          rw (here, filter_after t u v same xs)
      | false ↦ λ e.
          let here : v x ≡ false = same x ∙ ap (λ b. b && u x) e in
          rw (here, filter_after t u v same xs)
    ] in
    at refl

-- Order.

below_once : (p q : Pair) → below p q ≡ true → below q p ≡ false
below_once p q e =
    let F : Bool → Type 0 = λ b. below q p ≡ b → b ≡ false in
    let at : F (below q p) = elim (below q p) as F [ true ↦ λ h. absurd (not_itself p (below_trans p q p e h)) | false ↦ λ h. refl ] in
    at refl

pub same_sym : (p q : Pair) → same_pair p q ≡ true → same_pair q p ≡ true
same_sym p q e = subst (λ (r : Pair). same_pair r p ≡ true) (same_is p q e) (same_itself p)

pub not_same_sym : (p q : Pair) → same_pair p q ≡ false → same_pair q p ≡ false
not_same_sym p q e =
    let F : Bool → Type 0 = λ b. same_pair q p ≡ b → b ≡ false in
    let at : F (same_pair q p) = elim (same_pair q p) as F [ true ↦ λ h. absurd (true≢false (sym (same_sym q p h) ∙ e)) | false ↦ λ h. refl ] in
    at refl

-- the pair has no row, so the first row isn't its, and neither is one after
pub none_parts : (p : Pair) (r : Row) (rs : List Row) → row_place p (r ∷ rs) ≡ None → (same_pair p r.pair ≡ false) × (row_place p rs ≡ None)
none_parts p r rs e =
    let F : Bool → Type 0 = λ b. same_pair p r.pair ≡ b → (if b then Some 0 else option_map (λ i. suc i) (row_place p rs)) ≡ None → (same_pair p r.pair ≡ false) × (row_place p rs ≡ None) in
    let G : Option ℕ → Type 0 = λ o. option_map (λ i. suc i) o ≡ None → o ≡ None in
    let rest : G (row_place p rs) = elim (row_place p rs) as G [ None ↦ λ k. refl | Some j ↦ λ k. absurd (cc) ] in
    let at : F (same_pair p r.pair) = elim (same_pair p r.pair) as F [ true ↦ λ h k. absurd (cc) | false ↦ λ h k. (h, rest k) ] in
    at refl e

-- A row more.

-- the new row in its place
abbrev pub inserted : Pair → List Row → List Row
inserted p [] = new_row p ∷ []
inserted p (r ∷ rs) = if below r.pair p then r ∷ inserted p rs else new_row p ∷ r ∷ rs

insert_inserted : (p : Pair) (rows : List Row) → insert rows (prefix_len (λ r. below r.pair p) rows) (new_row p) ≡ inserted p rows
insert_inserted p [] = refl
insert_inserted p (r ∷ rs) =
    elim (below r.pair p) as (λ b. insert (r ∷ rs) (cond b (1 + prefix_len (λ s. below s.pair p) rs) 0) (new_row p) ≡ (if b then r ∷ inserted p rs else new_row p ∷ r ∷ rs)) [
      | true ↦ rw (one_suc (prefix_len (λ s. below s.pair p) rs)) (ap (λ rows. r ∷ rows) (insert_inserted p rs))
      | false ↦ refl
    ]

all_above : (p : Pair) (rs : List Row) → AreAfter p rs → filter (λ (r : Row). below p r.pair) rs ≡ rs
all_above p [] a = refl
all_above p (r ∷ rs) a = rw (a.0, all_above p rs a.1)

pub inserted_with : (p : Pair) (rows : List Row) → AreAscending rows → row_place p rows ≡ None → inserted p rows ≡ with_pair rows p
inserted_with p [] a e = refl
inserted_with p (r ∷ rs) a e =
    let none : (same_pair p r.pair ≡ false) × (row_place p rs ≡ None) = none_parts p r rs e in
    let F : Bool → Type 0 = λ b. below r.pair p ≡ b → (if b then r ∷ inserted p rs else new_row p ∷ r ∷ rs) ≡ cond b (r ∷ filter (λ (s : Row). below s.pair p) rs) (filter (λ (s : Row). below s.pair p) rs) ++ new_row p ∷ filter (λ (s : Row). below p s.pair) (r ∷ rs) in
    let at : F (below r.pair p) = elim (below r.pair p) as F [
      | true ↦ λ h.
          let above : below p r.pair ≡ false = below_once r.pair p h in
          rw above (ap (λ rows. r ∷ rows) (inserted_with p rs a.1 none.1))
      | false ↦ λ h.
          let above : below p r.pair ≡ true = not_below r.pair p h none.0 in
          let front : filter (λ (s : Row). below s.pair p) rs ≡ [] = filter_none (λ (s : Row). below s.pair p) rs (none_below p r.pair rs h a.0) in
          let rest : filter (λ (s : Row). below p s.pair) rs ≡ rs = all_above p rs (after_more p r.pair rs above a.0) in
          rw (front, above, rest)
    ] in
    at refl

after_inserted : (q p : Pair) (rows : List Row) → below q p ≡ true → AreAfter q rows → AreAfter q (inserted p rows)
after_inserted q p [] b a = (b, tt)
after_inserted q p (r ∷ rs) b a = elim (below r.pair p) as (λ c. AreAfter q (if c then r ∷ inserted p rs else new_row p ∷ r ∷ rs)) [ true ↦ (a.0, after_inserted q p rs b a.1) | false ↦ (b, a) ]

ascending_inserted : (p : Pair) (rows : List Row) → AreAscending rows → row_place p rows ≡ None → AreAscending (inserted p rows)
ascending_inserted p [] a e = (tt, tt)
ascending_inserted p (r ∷ rs) a e =
    let none : (same_pair p r.pair ≡ false) × (row_place p rs ≡ None) = none_parts p r rs e in
    let F : Bool → Type 0 = λ b. below r.pair p ≡ b → AreAscending (if b then r ∷ inserted p rs else new_row p ∷ r ∷ rs) in
    let at : F (below r.pair p) = elim (below r.pair p) as F [
      | true ↦ λ h. (after_inserted r.pair p rs h a.0, ascending_inserted p rs a.1 none.1)
      | false ↦ λ h. let above : below p r.pair ≡ true = not_below r.pair p h none.0 in ((above, after_more p r.pair rs above a.0), a)
    ] in
    at refl

pub ascending_with_pair : (p : Pair) (rows : List Row) → AreAscending rows → row_place p rows ≡ None → AreAscending (with_pair rows p)
ascending_with_pair p rows a e = subst AreAscending (inserted_with p rows a e) (ascending_inserted p rows a e)

pub insert_is : (p : Pair) (rows : List Row) → AreAscending rows → row_place p rows ≡ None → insert rows (prefix_len (λ r. below r.pair p) rows) (new_row p) ≡ with_pair rows p
insert_is p rows a e = insert_inserted p rows ∙ inserted_with p rows a e

-- the table with a row more
pub table_insert : {rows : List Row} {us cs : List Bool} → IsTable rows us cs → (p : Pair) (i : ℕ) → row_place p rows ≡ None → i ≡ prefix_len (λ (r : Row). below r.pair p) rows → IsTable (insert rows i (new_row p)) (insert us i true) (insert cs i true)
table_insert {rows} {us} {cs} t p i e place = record {
  ascending = subst AreAscending (sym (ap (λ j. insert rows j (new_row p)) place ∙ insert_inserted p rows)) (ascending_inserted p rows t.ascending e);
  unsettled_is = ap (λ bs. insert bs i true) t.unsettled_is ∙ sym (map_insert is_unsettled rows i (new_row p));
  claimable_is = ap (λ bs. insert bs i true) t.claimable_is ∙ sym (map_insert is_claimable rows i (new_row p));
}

-- Pairs that come.

among_inserted : (p q : Pair) (rows : List Row) → is_among (pairs_of (inserted p rows)) q ≡ true → is_among (p ∷ pairs_of rows) q ≡ true
among_inserted p q [] e = e
among_inserted p q (r ∷ rs) e =
    let F : Bool → Type 0 = λ b. is_among (pairs_of (if b then r ∷ inserted p rs else new_row p ∷ r ∷ rs)) q ≡ true → is_among (p ∷ r.pair ∷ pairs_of rs) q ≡ true in
    let at : F (below r.pair p) = elim (below r.pair p) as F [
      | true ↦ λ h. swapped (same_pair p q) (same_pair r.pair q) (is_among (pairs_of rs) q) (is_among (pairs_of (inserted p rs)) q) (among_inserted p q rs) h
      | false ↦ λ h. h
    ] in
    at e where
      swapped : (a b c d : Bool) → (d ≡ true → (a || c) ≡ true) → (b || d) ≡ true → (a || (b || c)) ≡ true
      swapped true b c d k h = refl
      swapped false true c d k h = refl
      swapped false false c d k h = k h

new_fewer : (ps qs come : List Pair) → ((q : Pair) → is_among qs q ≡ true → is_among ps q ≡ true) → AreNew ps come → AreNew qs come
new_fewer ps qs [] less n = tt
new_fewer ps qs (c ∷ cs) less n =
    let F : Bool → Type 0 = λ b. is_among qs c ≡ b → b ≡ false in
    let at : F (is_among qs c) = elim (is_among qs c) as F [ true ↦ λ h. absurd (true≢false (sym (less c h) ∙ n.0)) | false ↦ λ h. refl ] in
    (at refl, new_fewer (c ∷ ps) (c ∷ qs) cs (λ q h. also (same_pair c q) (is_among qs q) (is_among ps q) (less q) h) n.1) where
      also : (a b c : Bool) → (b ≡ true → c ≡ true) → (a || b) ≡ true → (a || c) ≡ true
      also true b c k h = refl
      also false b c k h = k h

pub new_next : (p : Pair) (come : List Pair) (rows : List Row) → AreAscending rows → row_place p rows ≡ None → AreNew (pairs_of rows) (p ∷ come) → AreNew (pairs_of (with_pair rows p)) come
new_next p come rows a e n = rw (← inserted_with p rows a e) (new_fewer (p ∷ pairs_of rows) (pairs_of (inserted p rows)) come (λ q. among_inserted p q rows) n.1)

-- a pair that isn't listed has no row
pub not_listed : (p : Pair) (rows : List Row) → is_among (pairs_of rows) p ≡ false → row_place p rows ≡ None
not_listed p [] e = refl
not_listed p (r ∷ rs) e =
    let both : (same_pair r.pair p ≡ false) × (is_among (pairs_of rs) p ≡ false) = or_parts (same_pair r.pair p) (is_among (pairs_of rs) p) e in
    rw (not_same_sym r.pair p both.0, not_listed p rs both.1)

-- A row less.

pub remove_is : (p : Pair) (rows : List Row) (i : ℕ) → row_place p rows ≡ Some i → remove rows i ≡ without_row p rows
remove_is p [] i e = absurd (cc)
remove_is p (r ∷ rs) i e =
    let F : Bool → Type 0 = λ b. (if b then Some 0 else option_map (λ n. suc n) (row_place p rs)) ≡ Some i → remove (r ∷ rs) i ≡ (if b then rs else r ∷ without_row p rs) in
    let G : Option ℕ → Type 0 = λ o. row_place p rs ≡ o → option_map (λ n. suc n) o ≡ Some i → remove (r ∷ rs) i ≡ r ∷ without_row p rs in
    let rest : G (row_place p rs) = elim (row_place p rs) as G [
      | None ↦ λ h t. absurd (cc)
      | Some j ↦ λ h t. let same : suc j ≡ i = cc in rw (← same) (ap (λ xs. r ∷ xs) (remove_is p rs j h))
    ] in
    let at : F (same_pair p r.pair) = elim (same_pair p r.pair) as F [ true ↦ λ t. let same : 0 ≡ i = cc in rw (← same) | false ↦ λ t. rest refl t ] in
    at e

pub remove_none : (p : Pair) (rows : List Row) → row_place p rows ≡ None → rows ≡ without_row p rows
remove_none p [] e = refl
remove_none p (r ∷ rs) e =
    let none : (same_pair p r.pair ≡ false) × (row_place p rs ≡ None) = none_parts p r rs e in
    rw none.0 (ap (λ xs. r ∷ xs) (remove_none p rs none.1))

after_without : (q p : Pair) (rows : List Row) → AreAfter q rows → AreAfter q (without_row p rows)
after_without q p [] a = tt
after_without q p (r ∷ rs) a = elim (same_pair p r.pair) as (λ b. AreAfter q (if b then rs else r ∷ without_row p rs)) [ true ↦ a.1 | false ↦ (a.0, after_without q p rs a.1) ]

pub ascending_without : (p : Pair) (rows : List Row) → AreAscending rows → AreAscending (without_row p rows)
ascending_without p [] a = tt
ascending_without p (r ∷ rs) a = elim (same_pair p r.pair) as (λ b. AreAscending (if b then rs else r ∷ without_row p rs)) [ true ↦ a.1 | false ↦ (after_without r.pair p rs a.0, ascending_without p rs a.1) ]

pub table_remove : {rows : List Row} {us cs : List Bool} → IsTable rows us cs → (p : Pair) (i : ℕ) → row_place p rows ≡ Some i → IsTable (remove rows i) (remove us i) (remove cs i)
table_remove {rows} {us} {cs} t p i e = record {
  ascending = subst AreAscending (sym (remove_is p rows i e)) (ascending_without p rows t.ascending);
  unsettled_is = ap (λ bs. remove bs i) t.unsettled_is ∙ sym (map_remove is_unsettled rows i);
  claimable_is = ap (λ bs. remove bs i) t.claimable_is ∙ sym (map_remove is_claimable rows i);
}

none_same : (p : Pair) (rows : List Row) → row_place p rows ≡ None → filter (λ (r : Row). not (same_pair p r.pair)) rows ≡ rows
none_same p [] e = refl
none_same p (r ∷ rs) e =
    let none : (same_pair p r.pair ≡ false) × (row_place p rs ≡ None) = none_parts p r rs e in
    rw (none.0, none_same p rs none.1)

without_filter : (p : Pair) (rows : List Row) → AreAscending rows → without_row p rows ≡ filter (λ (r : Row). not (same_pair p r.pair)) rows
without_filter p [] a = refl
without_filter p (r ∷ rs) a =
    let F : Bool → Type 0 = λ b. same_pair p r.pair ≡ b → (if b then rs else r ∷ without_row p rs) ≡ cond (not b) (r ∷ filter (λ (s : Row). not (same_pair p s.pair)) rs) (filter (λ (s : Row). not (same_pair p s.pair)) rs) in
    let at : F (same_pair p r.pair) = elim (same_pair p r.pair) as F [
      | true ↦ λ e. sym (none_same p rs (subst (λ (q : Pair). row_place q rs ≡ None) (sym (same_is p r.pair e)) (none_after r.pair rs a.0)))
      | false ↦ λ e. ap (λ xs. r ∷ xs) (without_filter p rs a.1)
    ] in
    at refl

-- one pair more that is gone
pub without_more : (gone : List Pair) (i : ℕ) (p : Pair) → i < length gone → p ≡ get_or gone i p → (rows : List Row) → AreAscending (without_pairs (take i gone) rows) → without_row p (without_pairs (take i gone) rows) ≡ without_pairs (take (i + 1) gone) rows
without_more gone i p l e rows a =
    without_filter p (without_pairs (take i gone) rows) a
    ∙ filter_after (λ (r : Row). not (is_among (take i gone) r.pair)) (λ (r : Row). not (same_pair p r.pair)) (λ (r : Row). not (is_among (take (i + 1) gone) r.pair)) (λ r. rw (any_more (λ q. same_pair q r.pair) gone i p l e) (neither (is_among (take i gone) r.pair) (same_pair p r.pair))) rows where
      neither : (a b : Bool) → not (a || b) ≡ (not a && not b)
      neither true b = refl
      neither false b = refl

pub without_none : (rows : List Row) → rows ≡ without_pairs [] rows
without_none [] = refl
without_none (r ∷ rs) = ap (λ xs. r ∷ xs) (without_none rs)

suc_more : (a b : ℕ) → a ≤ b → a ≤ suc b
suc_more a b l = omega (arith, l)

-- no rows come by it
pub without_fewer : (gone : List Pair) (rows : List Row) → length (without_pairs gone rows) ≤ length rows
without_fewer gone [] = omega arith
without_fewer gone (r ∷ rs) =
    let rest : length (without_pairs gone rs) ≤ length rs = without_fewer gone rs in
    elim (is_among gone r.pair) as (λ b. length (cond (not b) (r ∷ without_pairs gone rs) (without_pairs gone rs)) ≤ length (r ∷ rs)) [ true ↦ suc_more (length (without_pairs gone rs)) (length rs) rest | false ↦ omega (arith, rest) ]

among_without : (gone : List Pair) (q : Pair) (rows : List Row) → is_among (pairs_of (without_pairs gone rows)) q ≡ true → is_among (pairs_of rows) q ≡ true
among_without gone q [] e = e
among_without gone q (r ∷ rs) e =
    let F : Bool → Type 0 = λ b. is_among (pairs_of (cond (not b) (r ∷ without_pairs gone rs) (without_pairs gone rs))) q ≡ true → (same_pair r.pair q || is_among (pairs_of rs) q) ≡ true in
    let at : F (is_among gone r.pair) = elim (is_among gone r.pair) as F [
      | true ↦ λ h. later (same_pair r.pair q) (is_among (pairs_of rs) q) (among_without gone q rs h)
      | false ↦ λ h. rest (same_pair r.pair q) (is_among (pairs_of (without_pairs gone rs)) q) (is_among (pairs_of rs) q) (among_without gone q rs) h
    ] in
    at e where
      later : (a b : Bool) → b ≡ true → (a || b) ≡ true
      later true b k = refl
      later false b k = k

      rest : (a b c : Bool) → (b ≡ true → c ≡ true) → (a || b) ≡ true → (a || c) ≡ true
      rest true b c k h = refl
      rest false b c k h = k h

pub new_without : (gone come : List Pair) (rows : List Row) → AreNew (pairs_of rows) come → AreNew (pairs_of (without_pairs gone rows)) come
new_without gone come rows n = new_fewer (pairs_of rows) (pairs_of (without_pairs gone rows)) come (λ q. among_without gone q rows) n

-- Pairs that come, one after the other.

pub added_more : (come : List Pair) (i : ℕ) (p : Pair) → i < length come → p ≡ get_or come i p → (start rows next : List Row) → rows ≡ fold with_pair start (take i come) → next ≡ with_pair rows p → next ≡ fold with_pair start (take (i + 1) come)
added_more come i p l e start rows next h n = n ∙ ap (λ rs. with_pair rs p) h ∙ ap (λ q. with_pair (fold with_pair start (take i come)) q) e ∙ sym (fold_more with_pair start come i p l)

ahead : (come : List Pair) (i : ℕ) (p : Pair) → i < length come → p ≡ get_or come i p → drop i come ≡ p ∷ drop (i + 1) come
ahead come i p l e = drop-cons come i p l ∙ ap (λ q. q ∷ drop (suc i) come) (sym e) ∙ ap (λ (j : ℕ). p ∷ drop j come) (sym (add-one i))

pub new_here : (come : List Pair) (i : ℕ) (p : Pair) → i < length come → p ≡ get_or come i p → (rows : List Row) → AreNew (pairs_of rows) (drop i come) → row_place p rows ≡ None
new_here come i p l e rows n = let first : AreNew (pairs_of rows) (p ∷ drop (i + 1) come) = subst (AreNew (pairs_of rows)) (ahead come i p l e) n in not_listed p rows first.0

pub new_more : (come : List Pair) (i : ℕ) (p : Pair) → i < length come → p ≡ get_or come i p → (rows next : List Row) → AreAscending rows → next ≡ with_pair rows p → AreNew (pairs_of rows) (drop i come) → AreNew (pairs_of next) (drop (i + 1) come)
new_more come i p l e rows next a s n =
    let first : AreNew (pairs_of rows) (p ∷ drop (i + 1) come) = subst (AreNew (pairs_of rows)) (ahead come i p l e) n in
    rw s (new_next p (drop (i + 1) come) rows a (not_listed p rows first.0) first)

pub some_more : (n : ℕ) → (n == 0) ≡ false → 0 < n
some_more zero e = absurd (true≢false e)
some_more (suc n) e = omega arith
