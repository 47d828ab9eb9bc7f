-- The tally of a specification after one more verdict is kept: it stands in its place by element.
use Rattle.std.proofs.Common.{◌⊎◌, ◌≡◌, ℕ, suc, ◌<◌, Bool, true, false, ◌==◌, nat_lt, if◌then◌else◌, List, [], ◌∷◌, ◌++◌, filter, Option, Some, None, refl, arith, ap, sym, subst, ◌∙◌, inl, inr}
use Rattle.std.specs.List.{cons_option}
use Rattle.std.specs.Option.{option_map, option_to_list}
use Rattle.std.proofs.lemmas.Bool.{lt-ltb, le-ltb, eqb-true, eq-eqb}
use Rattle.audit_model.specs.declared.verdict.Pair.{Pair}
use Rattle.audit_model.specs.declared.verdict.Verdict.{Verdict}
use Rattle.audit_model.specs.Pairs.{same_pair}
use Rattle.dirty_board.specs.declared.rows.Row.{Row}
use Rattle.dirty_board.specs.declared.rows.Kept.{Kept}
use Rattle.dirty_board.specs.Rows.{below, holding, kept_in, row_at, row_place, AreAfter, AreAscending, dropping, with_row, without_row}
use Rattle.dirty_board.specs.Tallying.{with_elem, verdicts_of}
use Rattle.dirty_board.proofs.Order.{is_below, other_below, same_is, after_place}

-- the verdicts with this in the place of what was said of the element
abbrev pub with_verdict : ℕ → Option (ℕ × Verdict) → List (ℕ × Verdict) → List (ℕ × Verdict)
with_verdict e o vs = filter (λ w. nat_lt w.0 e) vs ++ option_to_list o ++ filter (λ w. nat_lt e w.0) vs

-- the verdicts of rows after p, if of the same specification, are of elements above
abbrev pub AreAbove : ℕ → List (ℕ × Verdict) → Type 0
AreAbove e [] = Unit {0}
AreAbove e (v ∷ vs) = (e < v.0) × AreAbove e vs

none_under : (e : ℕ) (vs : List (ℕ × Verdict)) → AreAbove e vs → filter (λ w. nat_lt w.0 e) vs ≡ []
none_under e [] h = refl
none_under e (v ∷ vs) h = let no : nat_lt v.0 e ≡ false = le-ltb v.0 e (omega (arith, h.0)) in rw (no, none_under e vs h.1)

all_over : (e : ℕ) (vs : List (ℕ × Verdict)) → AreAbove e vs → filter (λ w. nat_lt e w.0) vs ≡ vs
all_over e [] h = refl
all_over e (v ∷ vs) h = let yes : nat_lt e v.0 ≡ true = lt-ltb e v.0 h.0 in rw (yes, all_over e vs h.1)

-- what the first row adds
pub first_row : (n : ℕ) (r : Row) (rs : List Row) (b : Bool) → (r.pair.spec == n) ≡ b → verdicts_of n (r ∷ rs) ≡ (if b then cons_option (with_elem r.pair.elem r.kept) (verdicts_of n rs) else verdicts_of n rs)
first_row n r rs true e = rw e
first_row n r rs false e = rw e

higher : (p q : Pair) → below p q ≡ true → (q.spec == p.spec) ≡ true → p.elem < q.elem
higher p q b e = elim (is_below p q b) [ inl l ↦ absurd (let same : q.spec ≡ p.spec = eqb-true q.spec p.spec e in omega (arith, l, same)) | inr h ↦ h.1 ]

above_row : (e : ℕ) (r : Row) (vs : List (ℕ × Verdict)) → e < r.pair.elem → AreAbove e vs → AreAbove e (cons_option (with_elem r.pair.elem r.kept) vs)
above_row e r vs l h = elim r.kept as (λ o. AreAbove e (cons_option (with_elem r.pair.elem o) vs)) [ None ↦ h | Some k ↦ (l, h) ]

pub above_after : (p : Pair) (rs : List Row) → AreAfter p rs → AreAbove p.elem (verdicts_of p.spec rs)
above_after p [] a = tt
above_after p (r ∷ rs) a =
    let F : Bool → Type 0 = λ b. (r.pair.spec == p.spec) ≡ b → AreAbove p.elem (verdicts_of p.spec (r ∷ rs)) in
    let at : F (r.pair.spec == p.spec) = elim (r.pair.spec == p.spec) as F [
      | true ↦ λ e. subst (AreAbove p.elem) (sym (first_row p.spec r rs true e)) (above_row p.elem r (verdicts_of p.spec rs) (higher p r.pair a.0 e) (above_after p rs a.1))
      | false ↦ λ e. subst (AreAbove p.elem) (sym (first_row p.spec r rs false e)) (above_after p rs a.1)
    ] in
    at refl

-- the pair has a row
abbrev pub IsListed : Pair → List Row → Type 0
IsListed p [] = ⊥
IsListed p (r ∷ rs) = (p ≡ r.pair) ⊎ ((below r.pair p ≡ true) × IsListed p rs)

pub listed : (p : Pair) (rows : List Row) (i : ℕ) → AreAscending rows → row_place p rows ≡ Some i → IsListed p rows
listed p [] i a e = absurd (cc)
listed p (r ∷ rs) i a e =
    let F : Bool → Type 0 = λ b. same_pair p r.pair ≡ b → (if b then Some 0 else option_map (λ n. suc n) (row_place p rs)) ≡ Some i → (p ≡ r.pair) ⊎ ((below r.pair p ≡ true) × IsListed p rs) in
    let G : Option ℕ → Type 0 = λ o. row_place p rs ≡ o → option_map (λ n. suc n) o ≡ Some i → (p ≡ r.pair) ⊎ ((below r.pair p ≡ true) × IsListed p rs) in
    let rest : G (row_place p rs) = elim (row_place p rs) as G [ None ↦ λ h t. absurd (cc) | Some j ↦ λ h t. inr (after_place r.pair p rs j a.0 h, listed p rs j a.1 h) ] in
    let at : F (same_pair p r.pair) = elim (same_pair p r.pair) as F [ true ↦ λ h t. inl (same_is p r.pair h) | false ↦ λ h t. rest refl t ] in
    at refl e

before : (e : ℕ) (o : Option (ℕ × Verdict)) (w : ℕ × Verdict) (vs : List (ℕ × Verdict)) → w.0 < e → w ∷ with_verdict e o vs ≡ with_verdict e o (w ∷ vs)
before e o w vs l =
    let yes : nat_lt w.0 e ≡ true = lt-ltb w.0 e l in
    let no : nat_lt e w.0 ≡ false = le-ltb e w.0 (omega (arith, l)) in
    rw (yes, no)

before_row : (e : ℕ) (o : Option (ℕ × Verdict)) (r : Row) (vs : List (ℕ × Verdict)) → r.pair.elem < e → cons_option (with_elem r.pair.elem r.kept) (with_verdict e o vs) ≡ with_verdict e o (cons_option (with_elem r.pair.elem r.kept) vs)
before_row e o r vs l = elim r.kept as (λ k. cons_option (with_elem r.pair.elem k) (with_verdict e o vs) ≡ with_verdict e o (cons_option (with_elem r.pair.elem k) vs)) [ None ↦ refl | Some k ↦ before e o (r.pair.elem, k.verdict) vs l ]

-- the row's own verdict gives way
own_row : (e : ℕ) (o : Option (ℕ × Verdict)) (k : Option Kept) (vs : List (ℕ × Verdict)) → AreAbove e vs → with_verdict e o (cons_option (with_elem e k) vs) ≡ option_to_list o ++ vs
own_row e o None vs h = rw (none_under e vs h, all_over e vs h)
own_row e o (Some k) vs h =
    let no : nat_lt e e ≡ false = le-ltb e e (omega arith) in
    rw (no, none_under e vs h, all_over e vs h)

cons_is : (o : Option (ℕ × Verdict)) (vs : List (ℕ × Verdict)) → cons_option o vs ≡ option_to_list o ++ vs
cons_is None vs = refl
cons_is (Some v) vs = refl

here : (r : Row) (f : Row → Row) (k : Option Kept) (rs : List Row) → (f r).pair ≡ r.pair → (f r).kept ≡ k → AreAfter r.pair rs → verdicts_of r.pair.spec (f r ∷ rs) ≡ with_verdict r.pair.elem (with_elem r.pair.elem k) (verdicts_of r.pair.spec (r ∷ rs))
here r f k rs same kept a =
    let own : (r.pair.spec == r.pair.spec) ≡ true = eq-eqb r.pair.spec r.pair.spec refl in
    let own_new : ((f r).pair.spec == r.pair.spec) ≡ true = subst (λ (q : Pair). (q.spec == r.pair.spec) ≡ true) (sym same) own in
    let h : AreAbove r.pair.elem (verdicts_of r.pair.spec rs) = above_after r.pair rs a in
    first_row r.pair.spec (f r) rs true own_new
    ∙ ap (λ (q : Pair). cons_option (with_elem q.elem (f r).kept) (verdicts_of r.pair.spec rs)) same
    ∙ ap (λ (o : Option Kept). cons_option (with_elem r.pair.elem o) (verdicts_of r.pair.spec rs)) kept
    ∙ cons_is (with_elem r.pair.elem k) (verdicts_of r.pair.spec rs)
    ∙ sym (ap (with_verdict r.pair.elem (with_elem r.pair.elem k)) (first_row r.pair.spec r rs true own) ∙ own_row r.pair.elem (with_elem r.pair.elem k) r.kept (verdicts_of r.pair.spec rs) h)

-- a change of a row that leaves its pair, after which k is kept, changes the verdicts of its specification
pub changed_one : (p : Pair) (f : Row → Row) (k : Option Kept) → ((r : Row) → (f r).pair ≡ r.pair) → ((r : Row) → (f r).kept ≡ k) → (rows : List Row) → AreAscending rows → IsListed p rows → verdicts_of p.spec (with_row p f rows) ≡ with_verdict p.elem (with_elem p.elem k) (verdicts_of p.spec rows)
changed_one p f k same kept [] a o = absurd o
changed_one p f k same kept (r ∷ rs) a (inl h) =
    let own : same_pair r.pair r.pair ≡ true = rw (eq-eqb r.pair.spec r.pair.spec refl, eq-eqb r.pair.elem r.pair.elem refl) in
    subst (λ (q : Pair). verdicts_of q.spec (with_row q f (r ∷ rs)) ≡ with_verdict q.elem (with_elem q.elem k) (verdicts_of q.spec (r ∷ rs))) (sym h) (rw own (here r f k rs (same r) (kept r) a.0))
changed_one p f k same kept (r ∷ rs) a (inr h) =
    let other : same_pair p r.pair ≡ false = other_below r.pair p h.0 in
    let rest : verdicts_of p.spec (with_row p f rs) ≡ with_verdict p.elem (with_elem p.elem k) (verdicts_of p.spec rs) = changed_one p f k same kept rs a.1 h.1 in
    let F : Bool → Type 0 = λ b. (r.pair.spec == p.spec) ≡ b → verdicts_of p.spec (r ∷ with_row p f rs) ≡ with_verdict p.elem (with_elem p.elem k) (verdicts_of p.spec (r ∷ rs)) in
    let at : F (r.pair.spec == p.spec) = elim (r.pair.spec == p.spec) as F [
      | true ↦ λ e.
          let same_spec : p.spec ≡ r.pair.spec = sym (eqb-true r.pair.spec p.spec e) in
          let back : (p.spec == r.pair.spec) ≡ true = eq-eqb p.spec r.pair.spec same_spec in
          first_row p.spec r (with_row p f rs) true e
          ∙ ap (cons_option (with_elem r.pair.elem r.kept)) rest
          ∙ before_row p.elem (with_elem p.elem k) r (verdicts_of p.spec rs) (higher r.pair p h.0 back)
          ∙ sym (ap (with_verdict p.elem (with_elem p.elem k)) (first_row p.spec r rs true e))
      | false ↦ λ e.
          first_row p.spec r (with_row p f rs) false e ∙ rest ∙ sym (ap (with_verdict p.elem (with_elem p.elem k)) (first_row p.spec r rs false e))
    ] in
    rw other (at refl)

-- what is kept of the pair stands among the verdicts

as_held : (p : Pair) (k : Option Kept) (rows : List Row) → IsListed p rows → kept_in (row_at p rows) ≡ k → with_row p (holding k) rows ≡ rows
as_held p k [] l e = absurd l
as_held p k (r ∷ rs) (inl h) e =
    let own : same_pair p r.pair ≡ true = subst (λ (q : Pair). same_pair q r.pair ≡ true) (sym h) (rw (eq-eqb r.pair.spec r.pair.spec refl, eq-eqb r.pair.elem r.pair.elem refl)) in
    let kept_is : r.kept ≡ k = rw own at e in
    rw own (ap (λ (o : Option Kept). holding o r ∷ rs) (sym kept_is))
as_held p k (r ∷ rs) (inr h) e =
    let other : same_pair p r.pair ≡ false = other_below r.pair p h.0 in
    rw other (ap (λ xs. r ∷ xs) (as_held p k rs h.1 (rw other at e)))

pub held_one : (p : Pair) (rows : List Row) → AreAscending rows → IsListed p rows → verdicts_of p.spec rows ≡ with_verdict p.elem (with_elem p.elem (kept_in (row_at p rows))) (verdicts_of p.spec rows)
held_one p rows a l =
    ap (verdicts_of p.spec) (sym (as_held p (kept_in (row_at p rows)) rows l refl))
    ∙ changed_one p (holding (kept_in (row_at p rows))) (kept_in (row_at p rows)) (λ r. refl) (λ r. refl) rows a l

-- a row that goes takes its verdict with it
pub gone_one : (n : ℕ) (p : Pair) (rows : List Row) → verdicts_of n (without_row p rows) ≡ verdicts_of n (with_row p dropping rows)
gone_one n p [] = refl
gone_one n p (r ∷ rs) =
    let F : Bool → Type 0 = λ b. verdicts_of n (if b then rs else r ∷ without_row p rs) ≡ verdicts_of n (if b then dropping r ∷ rs else r ∷ with_row p dropping rs) in
    let G : Bool → Type 0 = λ b. (r.pair.spec == n) ≡ b → verdicts_of n rs ≡ verdicts_of n (dropping r ∷ rs) in
    let H : Bool → Type 0 = λ b. (r.pair.spec == n) ≡ b → verdicts_of n (r ∷ without_row p rs) ≡ verdicts_of n (r ∷ with_row p dropping rs) in
    let gone : G (r.pair.spec == n) = elim (r.pair.spec == n) as G [ true ↦ λ e. sym (first_row n (dropping r) rs true e) | false ↦ λ e. sym (first_row n (dropping r) rs false e) ] in
    let rest : H (r.pair.spec == n) = elim (r.pair.spec == n) as H [
      | true ↦ λ e. first_row n r (without_row p rs) true e ∙ ap (cons_option (with_elem r.pair.elem r.kept)) (gone_one n p rs) ∙ sym (first_row n r (with_row p dropping rs) true e)
      | false ↦ λ e. first_row n r (without_row p rs) false e ∙ gone_one n p rs ∙ sym (first_row n r (with_row p dropping rs) false e)
    ] in
    elim (same_pair p r.pair) as F [ true ↦ gone refl | false ↦ rest refl ]

-- of another specification nothing changes
pub kept_other : (n : ℕ) (p : Pair) (f : Row → Row) → ((r : Row) → (f r).pair ≡ r.pair) → (p.spec == n) ≡ false → (rows : List Row) → verdicts_of n (with_row p f rows) ≡ verdicts_of n rows
kept_other n p f same strange [] = refl
kept_other n p f same strange (r ∷ rs) =
    let F : Bool → Type 0 = λ b. same_pair p r.pair ≡ b → verdicts_of n (if b then f r ∷ rs else r ∷ with_row p f rs) ≡ verdicts_of n (r ∷ rs) in
    let G : Bool → Type 0 = λ b. (r.pair.spec == n) ≡ b → verdicts_of n (r ∷ with_row p f rs) ≡ verdicts_of n (r ∷ rs) in
    let rest : G (r.pair.spec == n) = elim (r.pair.spec == n) as G [
      | true ↦ λ e. first_row n r (with_row p f rs) true e ∙ ap (cons_option (with_elem r.pair.elem r.kept)) (kept_other n p f same strange rs) ∙ sym (first_row n r rs true e)
      | false ↦ λ e. first_row n r (with_row p f rs) false e ∙ kept_other n p f same strange rs ∙ sym (first_row n r rs false e)
    ] in
    let at : F (same_pair p r.pair) = elim (same_pair p r.pair) as F [
      | true ↦ λ e.
          let is : p ≡ r.pair = same_is p r.pair e in
          let here_no : (r.pair.spec == n) ≡ false = subst (λ (q : Pair). (q.spec == n) ≡ false) is strange in
          let there_no : ((f r).pair.spec == n) ≡ false = subst (λ (q : Pair). (q.spec == n) ≡ false) (sym (same r)) here_no in
          first_row n (f r) rs false there_no ∙ sym (first_row n r rs false here_no)
      | false ↦ λ e. rest refl
    ] in
    at refl
