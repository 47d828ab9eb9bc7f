-- Tallies after one verdict changes.
use Rattle.std.proofs.Common.{◌≡◌, ℕ, suc, zero, ◌+◌, ◌<◌, ◌≤◌, Bool, true, false, cond, ◌==◌, nat_lt, if◌then◌else◌, List, [], ◌∷◌, ◌++◌, length, take, drop, map, filter, Option, Some, None, refl, arith, ap, sym, subst, ◌∙◌, get_or, set, length-append}
use Rattle.std.specs.List.{cons_option, filter_map}
use Rattle.std.specs.Option.{option_to_list}
use Rattle.std.proofs.lemmas.Bool.{eqb-true, eq-eqb, ne_eqb}
use Rattle.std.proofs.lemmas.List.{take-append-drop}
use Rattle.std.proofs.lemmas.List.Elements.{filter-append, filter_map-append}
use Rattle.audit_model.specs.declared.specification.Occurs.{Occurs}
use Rattle.audit_model.specs.declared.specification.Occurs.TheVariants as occurrence
use Rattle.audit_model.specs.declared.specification.Specification.{Specification}
use Rattle.audit_model.specs.declared.verdict.Pair.{Pair}
use Rattle.audit_model.specs.declared.verdict.Verdict.{Verdict}
use Rattle.audit_model.specs.declared.verdict.Verdict.TheVariants.{NotApplicable, Applicable}
use Rattle.audit_model.specs.declared.report.Failing.{Failing}
use Rattle.audit_model.specs.declared.report.Tally.{Tally}
use Rattle.audit_model.specs.Scratch.{applies, failing_of, tally_from, skipped_tally}
use Rattle.dirty_board.specs.declared.rows.Row.{Row}
use Rattle.dirty_board.specs.declared.rows.Kept.{Kept}
use Rattle.dirty_board.specs.Rows.{kept_in, row_at, AreAscending, dropping, with_row, without_row}
use Rattle.dirty_board.specs.Tallying.{empty_tally, failing_by, heading_in, heading_of, is_counted, recounted, retold, tallies_from, tally_by, verdicts_of, with_elem, with_failing, with_tally, AllRising, AreOver, AreRising, Heading}
use Rattle.dirty_board.proofs.TallyLaws.{changed_one, gone_one, held_one, kept_other, with_verdict, AreAbove, IsListed, above_after, first_row}

-- Failing elements.

failing_test : (t : ℕ → Bool) (occurs : Occurs) (e : ℕ) (v : Verdict) (fs : List Failing) → filter (λ (f : Failing). t f.elem) (cons_option (failing_of occurs e v) fs) ≡ cond (t e) (cons_option (failing_of occurs e v) (filter (λ (f : Failing). t f.elem) fs)) (filter (λ (f : Failing). t f.elem) fs)
failing_test t occurs e NotApplicable fs = elim (t e) as (λ b. filter (λ (f : Failing). t f.elem) fs ≡ cond b (filter (λ (f : Failing). t f.elem) fs) (filter (λ (f : Failing). t f.elem) fs)) [ true ↦ refl | false ↦ refl ]
failing_test t occurrence.Prohibited e (Applicable ns) fs = refl
failing_test t occurrence.Required e (Applicable []) fs = elim (t e) as (λ b. filter (λ (f : Failing). t f.elem) fs ≡ cond b (filter (λ (f : Failing). t f.elem) fs) (filter (λ (f : Failing). t f.elem) fs)) [ true ↦ refl | false ↦ refl ]
failing_test t occurrence.Required e (Applicable (n ∷ ns)) fs = refl
failing_test t occurrence.Optional e (Applicable []) fs = elim (t e) as (λ b. filter (λ (f : Failing). t f.elem) fs ≡ cond b (filter (λ (f : Failing). t f.elem) fs) (filter (λ (f : Failing). t f.elem) fs)) [ true ↦ refl | false ↦ refl ]
failing_test t occurrence.Optional e (Applicable (n ∷ ns)) fs = refl

abbrev failings : Occurs → List (ℕ × Verdict) → List Failing
failings occurs vs = filter_map (λ v. failing_of occurs v.0 v.1) vs

failing_filter : (t : ℕ → Bool) (occurs : Occurs) (vs : List (ℕ × Verdict)) → failings occurs (filter (λ w. t w.0) vs) ≡ filter (λ (f : Failing). t f.elem) (failings occurs vs)
failing_filter t occurs [] = refl
failing_filter t occurs (v ∷ vs) =
    let F : Bool → Type 0 = λ b. failings occurs (cond b (v ∷ filter (λ w. t w.0) vs) (filter (λ w. t w.0) vs)) ≡ cond b (cons_option (failing_of occurs v.0 v.1) (filter (λ (f : Failing). t f.elem) (failings occurs vs))) (filter (λ (f : Failing). t f.elem) (failings occurs vs)) in
    let at : F (t v.0) = elim (t v.0) as F [ true ↦ ap (cons_option (failing_of occurs v.0 v.1)) (failing_filter t occurs vs) | false ↦ failing_filter t occurs vs ] in
    at ∙ sym (failing_test t occurs v.0 v.1 (failings occurs vs))

failing_own : (occurs : Occurs) (e : ℕ) (k : Option Kept) → failings occurs (option_to_list (with_elem e k)) ≡ option_to_list (failing_by occurs e k)
failing_own occurs e None = refl
failing_own occurs e (Some k) = elim (failing_of occurs e k.verdict) as (λ o. cons_option o [] ≡ option_to_list o) [ None ↦ refl | Some f ↦ refl ]

failing_changed : (occurs : Occurs) (e : ℕ) (k : Option Kept) (vs : List (ℕ × Verdict)) → failings occurs (with_verdict e (with_elem e k) vs) ≡ with_failing e (failing_by occurs e k) (failings occurs vs)
failing_changed occurs e k vs =
    filter_map-append (λ (v : ℕ × Verdict). failing_of occurs v.0 v.1) (filter (λ w. nat_lt w.0 e) vs ++ option_to_list (with_elem e k)) (filter (λ w. nat_lt e w.0) vs)
    ∙ ap (λ xs. xs ++ failings occurs (filter (λ w. nat_lt e w.0) vs))
    (filter_map-append (λ (v : ℕ × Verdict). failing_of occurs v.0 v.1) (filter (λ w. nat_lt w.0 e) vs) (option_to_list (with_elem e k))
    ∙ ap (λ xs. xs ++ failings occurs (option_to_list (with_elem e k))) (failing_filter (λ n. nat_lt n e) occurs vs)
    ∙ ap (λ xs. filter (λ (f : Failing). nat_lt f.elem e) (failings occurs vs) ++ xs) (failing_own occurs e k))
    ∙ ap (λ xs. (filter (λ (f : Failing). nat_lt f.elem e) (failings occurs vs) ++ option_to_list (failing_by occurs e k)) ++ xs) (failing_filter (λ n. nat_lt e n) occurs vs)

-- Counts.

abbrev count : List (ℕ × Verdict) → ℕ
count vs = length (filter (λ v. applies v.1) vs)

count_append : (xs ys : List (ℕ × Verdict)) → count (xs ++ ys) ≡ count xs + count ys
count_append xs ys = ap length (filter-append (λ v. applies v.1) xs ys) ∙ length-append (filter (λ v. applies v.1) xs) (filter (λ v. applies v.1) ys)

abbrev one_if : Bool → ℕ
one_if true = 1
one_if false = 0

count_single : (w : ℕ × Verdict) (b : Bool) → length (cond b (w ∷ []) []) ≡ one_if b
count_single w true = refl
count_single w false = refl

count_own : (e : ℕ) (k : Option Kept) → count (option_to_list (with_elem e k)) ≡ one_if (is_counted k)
count_own e None = refl
count_own e (Some k) = count_single (e, k.verdict) (applies k.verdict)

count_changed : (e : ℕ) (k : Option Kept) (vs : List (ℕ × Verdict)) → count (with_verdict e (with_elem e k) vs) ≡ (count (filter (λ w. nat_lt w.0 e) vs) + one_if (is_counted k)) + count (filter (λ w. nat_lt e w.0) vs)
count_changed e k vs =
    count_append (filter (λ w. nat_lt w.0 e) vs ++ option_to_list (with_elem e k)) (filter (λ w. nat_lt e w.0) vs)
    ∙ ap (λ n. n + count (filter (λ w. nat_lt e w.0) vs))
    (count_append (filter (λ w. nat_lt w.0 e) vs) (option_to_list (with_elem e k)) ∙ ap (λ n. count (filter (λ w. nat_lt w.0 e) vs) + n) (count_own e k))

recount : (was now : Bool) (a b n m : ℕ) → n ≡ (a + one_if was) + b → m ≡ (a + one_if now) + b → m ≡ recounted was now n
recount true true a b n m p q = q ∙ sym p
recount true false a b n m p q = omega (arith, p, q)
recount false true a b n m p q = omega (arith, p, q)
recount false false a b n m p q = q ∙ sym p

-- Tallies.

pub tally_changed : (h : Heading) (e : ℕ) (was : Option Kept) (k : Option Kept) (vs : List (ℕ × Verdict)) → vs ≡ with_verdict e (with_elem e was) vs → tally_by h (with_verdict e (with_elem e k) vs) ≡ retold e (is_counted was) k (tally_by h vs)
tally_changed h e was k vs held =
    let F : Bool → Type 0 = λ b. (if b then skipped_tally h.occurs else tally_from h.occurs (with_verdict e (with_elem e k) vs)) ≡ retold e (is_counted was) k (if b then skipped_tally h.occurs else tally_from h.occurs vs) in
    let counted : count (with_verdict e (with_elem e k) vs) ≡ recounted (is_counted was) (is_counted k) (count vs) = recount (is_counted was) (is_counted k) (count (filter (λ w. nat_lt w.0 e) vs)) (count (filter (λ w. nat_lt e w.0) vs)) (count vs) (count (with_verdict e (with_elem e k) vs)) (ap count held ∙ count_changed e was vs) (count_changed e k vs) in
    let T : ℕ → List Failing → Tally = λ n fs. record { skipped = false; occurs = h.occurs; applicable = n; failing = fs } in
    elim h.skipped as F [
      | true ↦ refl
      | false ↦ ap (λ n. T n (failings h.occurs (with_verdict e (with_elem e k) vs))) counted ∙ ap (T (recounted (is_counted was) (is_counted k) (count vs))) (failing_changed h.occurs e k vs)
    ]

-- of specifications behind that of the pair nothing changes
tallies_behind : (p : Pair) (f : Row → Row) → ((r : Row) → (f r).pair ≡ r.pair) → (rows : List Row) (a : ℕ) (hs : List Heading) → p.spec < a → tallies_from a hs (with_row p f rows) ≡ tallies_from a hs rows
tallies_behind p f same rows a [] l = refl
tallies_behind p f same rows a (h ∷ hs) l =
    let other : (p.spec == a) ≡ false = ne_eqb p.spec a (λ e. absurd (omega (arith, l, e))) in
    rw (kept_other a p f same other rows) (ap (λ ts. tally_by h (verdicts_of a rows) ∷ ts) (tallies_behind p f same rows (suc a) hs (omega (arith, l))))

eq_sym : (a b : ℕ) → (a == b) ≡ false → (b == a) ≡ false
eq_sym a b e = ne_eqb b a (λ s. absurd (let t : (a == b) ≡ true = eq-eqb a b (sym s) in cc))

pub tallies_changed : (p : Pair) (f : Row → Row) (k : Option Kept) → ((r : Row) → (f r).pair ≡ r.pair) → ((r : Row) → (f r).kept ≡ k) → (rows : List Row) → AreAscending rows → IsListed p rows → (a : ℕ) (hs : List Heading) → tallies_from a hs (with_row p f rows) ≡ with_tally p.spec (retold p.elem (is_counted (kept_in (row_at p rows))) k) a (tallies_from a hs rows)
tallies_changed p f k same kept rows asc l a [] = refl
tallies_changed p f k same kept rows asc l a (h ∷ hs) =
    let G : Tally → Tally = retold p.elem (is_counted (kept_in (row_at p rows))) k in
    let F : Bool → Type 0 = λ b. (a == p.spec) ≡ b → tally_by h (verdicts_of a (with_row p f rows)) ∷ tallies_from (suc a) hs (with_row p f rows) ≡ (if b then G (tally_by h (verdicts_of a rows)) ∷ tallies_from (suc a) hs rows else tally_by h (verdicts_of a rows) ∷ with_tally p.spec G (suc a) (tallies_from (suc a) hs rows)) in
    let at : F (a == p.spec) = elim (a == p.spec) as F [
      | true ↦ λ e.
          let here : a ≡ p.spec = eqb-true a p.spec e in
          let first : tally_by h (verdicts_of p.spec (with_row p f rows)) ≡ G (tally_by h (verdicts_of p.spec rows)) = ap (tally_by h) (changed_one p f k same kept rows asc l) ∙ tally_changed h p.elem (kept_in (row_at p rows)) k (verdicts_of p.spec rows) (held_one p rows asc l) in
          let first_at : tally_by h (verdicts_of a (with_row p f rows)) ≡ G (tally_by h (verdicts_of a rows)) = subst (λ (n : ℕ). tally_by h (verdicts_of n (with_row p f rows)) ≡ G (tally_by h (verdicts_of n rows))) (sym here) first in
          ap (λ t. t ∷ tallies_from (suc a) hs (with_row p f rows)) first_at
          ∙ ap (λ ts. G (tally_by h (verdicts_of a rows)) ∷ ts) (tallies_behind p f same rows (suc a) hs (omega (arith, here)))
      | false ↦ λ e.
          rw (kept_other a p f same (eq_sym a p.spec e) rows) (ap (λ ts. tally_by h (verdicts_of a rows) ∷ ts) (tallies_changed p f k same kept rows asc l (suc a) hs))
    ] in
    at refl

pub tallies_gone : (p : Pair) (rows : List Row) (a : ℕ) (hs : List Heading) → tallies_from a hs (without_row p rows) ≡ tallies_from a hs (with_row p dropping rows)
tallies_gone p rows a [] = refl
tallies_gone p rows a (h ∷ hs) = rw (gone_one a p rows) (ap (λ ts. tally_by h (verdicts_of a (with_row p dropping rows)) ∷ ts) (tallies_gone p rows (suc a) hs))

-- Places.

pub set_tally : (n : ℕ) (g : Tally → Tally) (a : ℕ) (ts : List Tally) (i : ℕ) (d : Tally) → a + i ≡ n → i < length ts → set ts i (g (get_or ts i d)) ≡ with_tally n g a ts
set_tally n g a [] i d e l = absurd (omega (arith, l))
set_tally n g a (t ∷ ts) zero d e l = let here : (a == n) ≡ true = eq-eqb a n (omega (arith, e)) in rw here
set_tally n g a (t ∷ ts) (suc i) d e l =
    let other : (a == n) ≡ false = ne_eqb a n (λ s. absurd (omega (arith, e, s))) in
    rw other (ap (λ xs. t ∷ xs) (set_tally n g (suc a) ts i d (omega (arith, e)) (omega (arith, l))))

pub stay_low : (n : ℕ) (g : Tally → Tally) (a : ℕ) (ts : List Tally) → n < a → ts ≡ with_tally n g a ts
stay_low n g a [] l = refl
stay_low n g a (t ∷ ts) l = let other : (a == n) ≡ false = ne_eqb a n (λ s. absurd (omega (arith, l, s))) in rw other (ap (λ xs. t ∷ xs) (stay_low n g (suc a) ts (omega (arith, l))))

pub stay_high : (n : ℕ) (g : Tally → Tally) (a : ℕ) (ts : List Tally) → a + length ts ≤ n → ts ≡ with_tally n g a ts
stay_high n g a [] l = refl
stay_high n g a (t ∷ ts) l =
    let other : (a == n) ≡ false = ne_eqb a n (λ s. absurd (omega (arith, l, s))) in
    rw other (ap (λ xs. t ∷ xs) (stay_high n g (suc a) ts (omega (arith, l))))

pub rising_at : (ts : List Tally) (i : ℕ) (d : Tally) → AllRising ts → i < length ts → AreRising (get_or ts i d).failing
rising_at [] i d h l = absurd (omega (arith, l))
rising_at (t ∷ ts) zero d h l = h.0
rising_at (t ∷ ts) (suc i) d h l = rising_at ts i d h.1 (omega (arith, l))

-- Order of the failing elements.

over_cons : (occurs : Occurs) (d e : ℕ) (v : Verdict) (fs : List Failing) → d < e → AreOver d fs → AreOver d (cons_option (failing_of occurs e v) fs)
over_cons occurs d e NotApplicable fs l h = h
over_cons occurrence.Prohibited d e (Applicable ns) fs l h = (l, h)
over_cons occurrence.Required d e (Applicable []) fs l h = h
over_cons occurrence.Required d e (Applicable (n ∷ ns)) fs l h = (l, h)
over_cons occurrence.Optional d e (Applicable []) fs l h = h
over_cons occurrence.Optional d e (Applicable (n ∷ ns)) fs l h = (l, h)

rising_cons : (occurs : Occurs) (e : ℕ) (v : Verdict) (fs : List Failing) → AreOver e fs → AreRising fs → AreRising (cons_option (failing_of occurs e v) fs)
rising_cons occurs e NotApplicable fs o h = h
rising_cons occurrence.Prohibited e (Applicable ns) fs o h = (o, h)
rising_cons occurrence.Required e (Applicable []) fs o h = h
rising_cons occurrence.Required e (Applicable (n ∷ ns)) fs o h = (o, h)
rising_cons occurrence.Optional e (Applicable []) fs o h = h
rising_cons occurrence.Optional e (Applicable (n ∷ ns)) fs o h = (o, h)

over_failings : (occurs : Occurs) (d : ℕ) (vs : List (ℕ × Verdict)) → AreAbove d vs → AreOver d (failings occurs vs)
over_failings occurs d [] h = tt
over_failings occurs d (v ∷ vs) h = over_cons occurs d v.0 v.1 (failings occurs vs) h.0 (over_failings occurs d vs h.1)

rising_row : (occurs : Occurs) (e : ℕ) (k : Option Kept) (vs : List (ℕ × Verdict)) → AreAbove e vs → AreRising (failings occurs vs) → AreRising (failings occurs (cons_option (with_elem e k) vs))
rising_row occurs e None vs a h = h
rising_row occurs e (Some k) vs a h = rising_cons occurs e k.verdict (failings occurs vs) (over_failings occurs e vs a) h

rising_failings : (occurs : Occurs) (n : ℕ) (rows : List Row) → AreAscending rows → AreRising (failings occurs (verdicts_of n rows))
rising_failings occurs n [] a = tt
rising_failings occurs n (r ∷ rs) a =
    let F : Bool → Type 0 = λ b. (r.pair.spec == n) ≡ b → AreRising (failings occurs (verdicts_of n (r ∷ rs))) in
    let rest : AreRising (failings occurs (verdicts_of n rs)) = rising_failings occurs n rs a.1 in
    let at : F (r.pair.spec == n) = elim (r.pair.spec == n) as F [
      | true ↦ λ e.
          let above : AreAbove r.pair.elem (verdicts_of n rs) = subst (λ (m : ℕ). AreAbove r.pair.elem (verdicts_of m rs)) (eqb-true r.pair.spec n e) (above_after r.pair rs a.0) in
          subst (λ vs. AreRising (failings occurs vs)) (sym (first_row n r rs true e)) (rising_row occurs r.pair.elem r.kept (verdicts_of n rs) above rest)
      | false ↦ λ e. subst (λ vs. AreRising (failings occurs vs)) (sym (first_row n r rs false e)) rest
    ] in
    at refl

pub rising_tallies : (rows : List Row) → AreAscending rows → (a : ℕ) (hs : List Heading) → AllRising (tallies_from a hs rows)
rising_tallies rows asc a [] = tt
rising_tallies rows asc a (h ∷ hs) =
    (elim h.skipped as (λ b. AreRising (if b then skipped_tally h.occurs else tally_from h.occurs (verdicts_of a rows)).failing) [ true ↦ tt | false ↦ rising_failings h.occurs a rows asc ], rising_tallies rows asc (suc a) hs)

-- What is taken out.

nil_right : {X : Type 0} (xs : List X) → xs ≡ xs ++ []
nil_right [] = refl
nil_right (x ∷ xs) = ap (λ ys. x ∷ ys) (nil_right xs)

pub forgotten : (k : ℕ) (now fs : List Failing) (e : ℕ) → take k now ≡ filter (λ (f : Failing). nat_lt f.elem e) fs → drop k now ≡ filter (λ (f : Failing). nat_lt e f.elem) fs → now ≡ with_failing e None fs
forgotten k now fs e front back =
    sym (take-append-drop k now)
    ∙ ap (λ xs. xs ++ drop k now) (front ∙ nil_right (filter (λ (f : Failing). nat_lt f.elem e) fs))
    ∙ ap (λ xs. (filter (λ (f : Failing). nat_lt f.elem e) fs ++ []) ++ xs) back

pub untold : (t : Tally) (e : ℕ) (was : Bool) (n : ℕ) (fs : List Failing) → t.skipped ≡ false → n ≡ recounted was false t.applicable → fs ≡ with_failing e None t.failing → record { skipped = t.skipped; occurs = t.occurs; applicable = n; failing = fs } ≡ retold e was None t
untold t e was n fs s c f =
    let T : ℕ → List Failing → Tally = λ m xs. record { skipped = false; occurs = t.occurs; applicable = m; failing = xs } in
    rw s (ap (λ m. T m fs) c ∙ ap (T (recounted was false t.applicable)) f)

-- Headings.

pub headings_empty : (qs : List Specification) → map heading_in (map empty_tally qs) ≡ map heading_of qs
headings_empty [] = refl
headings_empty (q ∷ qs) = ap (λ hs. heading_of q ∷ hs) (headings_empty qs)
