-- The tallies, while one row changes, goes or comes.
use Rattle.std.proofs.Common.{◌≡◌, ℕ, suc, Bool, true, false, cond, not, ◌==◌, if◌then◌else◌, List, [], ◌∷◌, map, fold, Option, Some, None, refl, ap, sym, subst, ◌∙◌}
use Rattle.std.specs.List.{cons_option}
use Rattle.ifc_base.specs.declared.key.Key.{Key}
use Rattle.audit_model.specs.declared.specification.Specification.{Specification}
use Rattle.audit_model.specs.declared.verdict.Pair.{Pair}
use Rattle.audit_model.specs.declared.verdict.Verdict.{Verdict}
use Rattle.audit_model.specs.declared.report.Tally.{Tally}
use Rattle.audit_model.specs.Pairs.{same_pair}
use Rattle.audit_model.specs.Scratch.{applies, tally_from, skipped_tally}
use Rattle.dirty_board.specs.declared.rows.Row.{Row}
use Rattle.dirty_board.specs.declared.rows.Kept.{Kept}
use Rattle.dirty_board.specs.Rows.{below, dropped_in, dropping, holding, keeping, kept_in, marking, needs_key, new_row, row_at, row_place, with_row, without_key, without_row, AreAscending}
use Rattle.dirty_board.specs.Rooms.{pairs_of, with_pair, AreNew}
use Rattle.dirty_board.specs.Tallying.{counted_in, empty_tally, heading_in, heading_of, is_counted, retold, tallies_from, tally_by, verdicts_of, with_elem, with_tally, AllRising, AreTold, BoardView, Heading}
use Rattle.dirty_board.proofs.MoreLess.{ascending_with_pair, inserted, inserted_with, new_next, not_listed}
use Rattle.dirty_board.proofs.Tables.{row_none}
use Rattle.dirty_board.proofs.TallyLaws.{first_row, listed, IsListed}
use Rattle.dirty_board.proofs.Tallied.{headings_empty, rising_tallies, tallies_changed, tallies_gone}

-- The row of a pair.

pub listed_at : (p : Pair) (rows : List Row) (r : Row) → AreAscending rows → row_at p rows ≡ Some r → IsListed p rows
listed_at p rows r a e =
    let F : Option ℕ → Type 0 = λ o. row_place p rows ≡ o → IsListed p rows in
    let at : F (row_place p rows) = elim (row_place p rows) as F [
      | None ↦ λ h. absurd (let n : row_at p rows ≡ None = row_none p rows h in cc)
      | Some i ↦ λ h. listed p rows i a h
    ] in
    at refl

-- a change that does the same to the row of the pair
with_same : (p : Pair) (f g : Row → Row) (rows : List Row) → ((r : Row) → row_at p rows ≡ Some r → f r ≡ g r) → with_row p f rows ≡ with_row p g rows
with_same p f g [] h = refl
with_same p f g (r ∷ rs) h =
    let F : Bool → Type 0 = λ b. ((s : Row) → cond b (Some r) (row_at p rs) ≡ Some s → f s ≡ g s) → (if b then f r ∷ rs else r ∷ with_row p f rs) ≡ (if b then g r ∷ rs else r ∷ with_row p g rs) in
    let at : F (same_pair p r.pair) = elim (same_pair p r.pair) as F [ true ↦ λ k. ap (λ s. s ∷ rs) (k r refl) | false ↦ λ k. ap (λ xs. r ∷ xs) (with_same p f g rs k) ] in
    at h

-- a change that does nothing to the row of the pair
with_itself : (p : Pair) (f : Row → Row) (rows : List Row) → ((r : Row) → row_at p rows ≡ Some r → f r ≡ r) → rows ≡ with_row p f rows
with_itself p f [] h = refl
with_itself p f (r ∷ rs) h =
    let F : Bool → Type 0 = λ b. ((s : Row) → cond b (Some r) (row_at p rs) ≡ Some s → f s ≡ s) → r ∷ rs ≡ (if b then f r ∷ rs else r ∷ with_row p f rs) in
    let at : F (same_pair p r.pair) = elim (same_pair p r.pair) as F [ true ↦ λ k. ap (λ s. s ∷ rs) (sym (k r refl)) | false ↦ λ k. ap (λ xs. r ∷ xs) (with_itself p f rs k) ] in
    at h

pub no_row : (p : Pair) (f : Row → Row) (rows : List Row) → row_at p rows ≡ None → rows ≡ with_row p f rows
no_row p f rows e = with_itself p f rows (λ r h. absurd (cc))

-- Headings.

heading_by : (h : Heading) (vs : List (ℕ × Verdict)) → heading_in (tally_by h vs) ≡ h
heading_by h vs =
    let H : Bool → Heading = λ b. record { skipped = b; occurs = h.occurs } in
    let F : Bool → Type 0 = λ b. heading_in (if b then skipped_tally h.occurs else tally_from h.occurs vs) ≡ H b in
    let at : F h.skipped = elim h.skipped as F [ true ↦ refl | false ↦ refl ] in
    at

headings_told : (n : ℕ) (hs : List Heading) (rows : List Row) → map heading_in (tallies_from n hs rows) ≡ hs
headings_told n [] rows = refl
headings_told n (h ∷ hs) rows = rw (heading_by h (verdicts_of n rows)) (ap (λ xs. h ∷ xs) (headings_told (suc n) hs rows))

-- Tallies of other rows.

-- these tallies follow those before, now that the rows are these
abbrev pub Follow : List Tally → List Row → List Tally → Type 0
Follow ts rows next = (map heading_in next ≡ map heading_in ts) × AreTold next rows

follow_by : (ts : List Tally) (rows : List Row) (next : List Tally) → next ≡ tallies_from 1 (map heading_in ts) rows → Follow ts rows next
follow_by ts rows next e =
    let same : map heading_in next ≡ map heading_in ts = ap (map heading_in) e ∙ headings_told 1 (map heading_in ts) rows in
    (same, e ∙ ap (λ hs. tallies_from 1 hs rows) (sym same))

-- rows with the same tallies
follow_same : (ts : List Tally) (rows next : List Row) → AreTold ts rows → tallies_from 1 (map heading_in ts) next ≡ tallies_from 1 (map heading_in ts) rows → AreTold ts next
follow_same ts rows next t e = t ∙ sym e

-- what contracts see of rows with these tallies
abbrev pub board_of : List Tally → List Row → BoardView
board_of ts rows = record { headings = map heading_in ts; rows = rows }

pub same_board : (ts next : List Tally) (rows : List Row) → map heading_in next ≡ map heading_in ts → board_of next rows ≡ board_of ts rows
same_board ts next rows e = ap (λ (hs : List Heading). let b : BoardView = record { headings = hs; rows = rows } in b) e

pub rising_told : (ts : List Tally) (rows : List Row) → AreAscending rows → AreTold ts rows → AllRising ts
rising_told ts rows a t = subst AllRising (sym t) (rising_tallies rows a 1 (map heading_in ts))

-- the row of the pair is changed, and k is kept in it
changed_told : (p : Pair) (f : Row → Row) (k : Option Kept) → ((r : Row) → (f r).pair ≡ r.pair) → ((r : Row) → (f r).kept ≡ k) → (rows : List Row) → AreAscending rows → IsListed p rows → (was : Bool) → was ≡ is_counted (kept_in (row_at p rows)) → (ts next : List Tally) → AreTold ts rows → next ≡ with_tally p.spec (retold p.elem was k) 1 ts → next ≡ tallies_from 1 (map heading_in ts) (with_row p f rows)
changed_told p f k same kept rows a l was w ts next t n =
    n
    ∙ ap (λ xs. with_tally p.spec (retold p.elem was k) 1 xs) t
    ∙ ap (λ b. with_tally p.spec (retold p.elem b k) 1 (tallies_from 1 (map heading_in ts) rows)) w
    ∙ sym (tallies_changed p f k same kept rows a l 1 (map heading_in ts))

-- What is kept.

pub not_counted : (p : Pair) (f : Row → Row) (rows : List Row) → counted_in (row_at p rows) ≡ None → rows ≡ with_row p f rows
not_counted p f rows e =
    let F : Option Row → Type 0 = λ o. counted_in o ≡ None → o ≡ None in
    let at : F (row_at p rows) = elim (row_at p rows) as F [ None ↦ λ h. refl | Some r ↦ λ h. absurd (cc) ] in
    no_row p f rows (at e)

pub kept_told : (p : Pair) (kept : Kept) (was : Bool) (rows : List Row) (ts next : List Tally) → AreAscending rows → counted_in (row_at p rows) ≡ Some was → AreTold ts rows → next ≡ with_tally p.spec (retold p.elem was (Some kept)) 1 ts → Follow ts (with_row p (keeping kept) rows) next
kept_told p kept was rows ts next a c t n =
    let F : Option Row → Type 0 = λ o. row_at p rows ≡ o → counted_in o ≡ Some was → IsListed p rows × (was ≡ is_counted (kept_in o)) in
    let at : F (row_at p rows) = elim (row_at p rows) as F [ None ↦ λ h k. absurd (cc) | Some r ↦ λ h k. (listed_at p rows r a h, (let same : is_counted r.kept ≡ was = cc in sym same)) ] in
    let both : IsListed p rows × (was ≡ is_counted (kept_in (row_at p rows))) = at refl c in
    follow_by ts (with_row p (keeping kept) rows) next (changed_told p (keeping kept) (Some kept) (λ r. refl) (λ r. refl) rows a both.0 was both.1 ts next t n)

-- What is dropped.

undropped : (k : Key) (r : Row) → dropped_in k (Some r) ≡ None → without_key k r ≡ r
undropped k r e =
    let F : Bool → Type 0 = λ b. needs_key k r ≡ b → (if b then r.kept else None) ≡ None → (if b then dropping r else r) ≡ r in
    let at : F (needs_key k r) = elim (needs_key k r) as F [ true ↦ λ n h. ap (λ (o : Option Kept). holding o r) (sym h) | false ↦ λ n h. refl ] in
    at refl e

dropped_out : (k : Key) (r : Row) (kept : Kept) → dropped_in k (Some r) ≡ Some kept → (without_key k r ≡ dropping r) × (r.kept ≡ Some kept)
dropped_out k r kept e =
    let F : Bool → Type 0 = λ b. (if b then r.kept else None) ≡ Some kept → ((if b then dropping r else r) ≡ dropping r) × (r.kept ≡ Some kept) in
    let at : F (needs_key k r) = elim (needs_key k r) as F [ true ↦ λ h. (refl, h) | false ↦ λ h. absurd (cc) ] in
    at e

pub not_dropped : (p : Pair) (k : Key) (rows : List Row) → dropped_in k (row_at p rows) ≡ None → rows ≡ with_row p (without_key k) rows
not_dropped p k rows e = with_itself p (without_key k) rows (λ r h. undropped k r (ap (dropped_in k) (sym h) ∙ e))

-- the pair has a row in which this is kept
held : (p : Pair) (kept : Kept) (rows : List Row) → AreAscending rows → kept_in (row_at p rows) ≡ Some kept → IsListed p rows
held p kept rows a e =
    let F : Option Row → Type 0 = λ o. row_at p rows ≡ o → kept_in o ≡ Some kept → IsListed p rows in
    let at : F (row_at p rows) = elim (row_at p rows) as F [ None ↦ λ h k. absurd (cc) | Some r ↦ λ h k. listed_at p rows r a h ] in
    at refl e

out_told : (p : Pair) (kept : Kept) (was : Bool) (rows : List Row) (ts next : List Tally) → AreAscending rows → kept_in (row_at p rows) ≡ Some kept → was ≡ applies kept.verdict → AreTold ts rows → next ≡ with_tally p.spec (retold p.elem was None) 1 ts → next ≡ tallies_from 1 (map heading_in ts) (with_row p dropping rows)
out_told p kept was rows ts next a e w t n = changed_told p dropping None (λ r. refl) (λ r. refl) rows a (held p kept rows a e) was (w ∙ sym (ap is_counted e)) ts next t n

pub dropped_told : (p : Pair) (k : Key) (kept : Kept) (was : Bool) (rows : List Row) (ts next : List Tally) → AreAscending rows → dropped_in k (row_at p rows) ≡ Some kept → was ≡ applies kept.verdict → AreTold ts rows → next ≡ with_tally p.spec (retold p.elem was None) 1 ts → Follow ts (with_row p (without_key k) rows) next
dropped_told p k kept was rows ts next a e w t n =
    let F : Option Row → Type 0 = λ o. dropped_in k o ≡ Some kept → kept_in o ≡ Some kept in
    let at : F (row_at p rows) = elim (row_at p rows) as F [ None ↦ λ h. absurd (cc) | Some r ↦ λ h. (dropped_out k r kept h).1 ] in
    let same : with_row p dropping rows ≡ with_row p (without_key k) rows = with_same p dropping (without_key k) rows (λ r h. sym (dropped_out k r kept (ap (dropped_in k) (sym h) ∙ e)).0) in
    follow_by ts (with_row p (without_key k) rows) next (out_told p kept was rows ts next a (at e) w t n ∙ ap (λ xs. tallies_from 1 (map heading_in ts) xs) same)

-- What goes.

pub gone_told : (p : Pair) (kept : Kept) (was : Bool) (rows : List Row) (ts next : List Tally) → AreAscending rows → kept_in (row_at p rows) ≡ Some kept → was ≡ applies kept.verdict → AreTold ts rows → next ≡ with_tally p.spec (retold p.elem was None) 1 ts → Follow ts (without_row p rows) next
gone_told p kept was rows ts next a e w t n = follow_by ts (without_row p rows) next (out_told p kept was rows ts next a e w t n ∙ sym (tallies_gone p rows 1 (map heading_in ts)))

pub empty_gone : (p : Pair) (rows : List Row) (ts : List Tally) → kept_in (row_at p rows) ≡ None → AreTold ts rows → AreTold ts (without_row p rows)
empty_gone p rows ts e t =
    let nothing : rows ≡ with_row p dropping rows = with_itself p dropping rows (λ r h. ap (λ (o : Option Kept). holding o r) (sym (ap kept_in (sym h) ∙ e))) in
    follow_same ts rows (without_row p rows) t (tallies_gone p rows 1 (map heading_in ts) ∙ ap (λ xs. tallies_from 1 (map heading_in ts) xs) (sym nothing))

-- What says nothing of verdicts.

tallies_same : (xs ys : List Row) → ((n : ℕ) → verdicts_of n xs ≡ verdicts_of n ys) → (a : ℕ) (hs : List Heading) → tallies_from a hs xs ≡ tallies_from a hs ys
tallies_same xs ys same a [] = refl
tallies_same xs ys same a (h ∷ hs) = rw (same a) (ap (λ ts. tally_by h (verdicts_of a ys) ∷ ts) (tallies_same xs ys same (suc a) hs))

-- one row behind another that says the same
row_step : (n : ℕ) (r s : Row) (xs ys : List Row) → r.pair ≡ s.pair → r.kept ≡ s.kept → verdicts_of n xs ≡ verdicts_of n ys → verdicts_of n (r ∷ xs) ≡ verdicts_of n (s ∷ ys)
row_step n r s xs ys p k e =
    let F : Bool → Type 0 = λ b. (s.pair.spec == n) ≡ b → verdicts_of n (r ∷ xs) ≡ verdicts_of n (s ∷ ys) in
    let at : F (s.pair.spec == n) = elim (s.pair.spec == n) as F [
      | true ↦ λ h.
          first_row n r xs true (ap (λ (q : Pair). q.spec == n) p ∙ h)
          ∙ ap (λ (q : Pair). cons_option (with_elem q.elem r.kept) (verdicts_of n xs)) p
          ∙ ap (λ (o : Option Kept). cons_option (with_elem s.pair.elem o) (verdicts_of n xs)) k
          ∙ ap (cons_option (with_elem s.pair.elem s.kept)) e
          ∙ sym (first_row n s ys true h)
      | false ↦ λ h. first_row n r xs false (ap (λ (q : Pair). q.spec == n) p ∙ h) ∙ e ∙ sym (first_row n s ys false h)
    ] in
    at refl

verdicts_marked : (n : ℕ) (p : Pair) (out : Bool) (rows : List Row) → verdicts_of n (with_row p (marking out) rows) ≡ verdicts_of n rows
verdicts_marked n p out [] = refl
verdicts_marked n p out (r ∷ rs) =
    elim (same_pair p r.pair) as (λ b. verdicts_of n (if b then marking out r ∷ rs else r ∷ with_row p (marking out) rs) ≡ verdicts_of n (r ∷ rs)) [
      | true ↦ row_step n (marking out r) r rs rs refl refl refl
      | false ↦ row_step n r r (with_row p (marking out) rs) rs refl refl (verdicts_marked n p out rs)
    ]

pub marked_told : (p : Pair) (out : Bool) (rows : List Row) (ts : List Tally) → AreTold ts rows → AreTold ts (with_row p (marking out) rows)
marked_told p out rows ts t = follow_same ts rows (with_row p (marking out) rows) t (tallies_same (with_row p (marking out) rows) rows (λ n. verdicts_marked n p out rows) 1 (map heading_in ts))

-- a new row says nothing
verdicts_new : (n : ℕ) (p : Pair) (rows : List Row) → verdicts_of n (new_row p ∷ rows) ≡ verdicts_of n rows
verdicts_new n p rows =
    let F : Bool → Type 0 = λ b. (p.spec == n) ≡ b → verdicts_of n (new_row p ∷ rows) ≡ verdicts_of n rows in
    let at : F (p.spec == n) = elim (p.spec == n) as F [ true ↦ λ e. first_row n (new_row p) rows true e | false ↦ λ e. first_row n (new_row p) rows false e ] in
    at refl

verdicts_inserted : (n : ℕ) (p : Pair) (rows : List Row) → verdicts_of n (inserted p rows) ≡ verdicts_of n rows
verdicts_inserted n p [] = verdicts_new n p []
verdicts_inserted n p (r ∷ rs) =
    elim (below r.pair p) as (λ b. verdicts_of n (if b then r ∷ inserted p rs else new_row p ∷ r ∷ rs) ≡ verdicts_of n (r ∷ rs)) [
      | true ↦ row_step n r r (inserted p rs) rs refl refl (verdicts_inserted n p rs)
      | false ↦ verdicts_new n p (r ∷ rs)
    ]

verdicts_added : (n : ℕ) (come : List Pair) (rows : List Row) → AreAscending rows → AreNew (pairs_of rows) come → verdicts_of n (fold with_pair rows come) ≡ verdicts_of n rows
verdicts_added n [] rows a f = refl
verdicts_added n (p ∷ ps) rows a f =
    let none : row_place p rows ≡ None = not_listed p rows f.0 in
    verdicts_added n ps (with_pair rows p) (ascending_with_pair p rows a none) (new_next p ps rows a none f)
    ∙ ap (verdicts_of n) (sym (inserted_with p rows a none))
    ∙ verdicts_inserted n p rows

pub added_told : (come : List Pair) (rows : List Row) (ts : List Tally) → AreAscending rows → AreNew (pairs_of rows) come → AreTold ts rows → AreTold ts (fold with_pair rows come)
added_told come rows ts a f t = follow_same ts rows (fold with_pair rows come) t (tallies_same (fold with_pair rows come) rows (λ n. verdicts_added n come rows a f) 1 (map heading_in ts))

-- Where nothing is kept.

none_kept : (n : ℕ) (ps : List Pair) → verdicts_of n (map new_row ps) ≡ []
none_kept n [] = refl
none_kept n (p ∷ ps) = verdicts_new n p (map new_row ps) ∙ none_kept n ps

empty_by : (q : Specification) → empty_tally q ≡ tally_by (heading_of q) []
empty_by q =
    let T : Bool → Tally = λ b. record { skipped = b; occurs = q.occurs; applicable = 0; failing = [] } in
    let F : Bool → Type 0 = λ b. T b ≡ (if b then skipped_tally q.occurs else tally_from q.occurs []) in
    let at : F (not q.for_model) = elim (not q.for_model) as F [ true ↦ refl | false ↦ refl ] in
    at

empty_from : (a : ℕ) (qs : List Specification) (ps : List Pair) → map empty_tally qs ≡ tallies_from a (map heading_of qs) (map new_row ps)
empty_from a [] ps = refl
empty_from a (q ∷ qs) ps =
    ap (λ t. t ∷ map empty_tally qs) (empty_by q ∙ ap (tally_by (heading_of q)) (sym (none_kept a ps)))
    ∙ ap (λ ts. tally_by (heading_of q) (verdicts_of a (map new_row ps)) ∷ ts) (empty_from (suc a) qs ps)

pub empty_told : (qs : List Specification) (ps : List Pair) → AreTold (map empty_tally qs) (map new_row ps)
empty_told qs ps = empty_from 1 qs ps ∙ ap (λ hs. tallies_from 1 hs (map new_row ps)) (sym (headings_empty qs))
