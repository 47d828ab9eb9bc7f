-- Texts that are appended one after another, and those of a list's items.
use Rattle.std.proofs.Common.{◌≡◌, ℕ, zero, suc, ◌+◌, ◌<◌, List, [], ◌∷◌, ◌++◌, length, get_or, take, ap, sym, ◌∙◌, append_assoc, append-nil, add-one, arith}
use Rattle.std.specs.Prelude.{Bool, codes}
use Rattle.std.specs.Fmt.{decimal}
use Rattle.audit_model.specs.declared.report.Failing.{Failing}
use Rattle.audit_model.specs.declared.report.Tally.{Tally}
use Rattle.audit_model.specs.Report.{all_pass, counts, line, pass_word, passes, report_text, tally_lines, tallies_lines}

-- ---- the items of a list

-- F writes g of each item
item_more : {X : Type 0} (g : X → List ℕ) (F : List X → List ℕ) → F [] ≡ [] → ((x : X) (xs : List X) → F (x ∷ xs) ≡ g x ++ F xs)
    → (xs : List X) (i : ℕ) (d : X) → i < length xs → F (take (i + 1) xs) ≡ F (take i xs) ++ g (get_or xs i d)
item_more {X} g F none more xs i d within = ap (λ k. F (take k xs)) (add-one i) ∙ next xs i within
  where
    next : (xs : List X) (i : ℕ) → i < length xs → F (take (suc i) xs) ≡ F (take i xs) ++ g (get_or xs i d)
    next [] i h = absurd (omega arith)
    next (x ∷ xs) zero h = more x [] ∙ ap (λ w. g x ++ w) none ∙ append-nil (g x) ∙ ap (λ w. w ++ g x) (sym none)
    next (x ∷ xs) (suc i) h =
        more x (take (suc i) xs)
        ∙ ap (λ w. g x ++ w) (next xs i (omega arith))
        ∙ sym (append_assoc (g x) (F (take i xs)) (g (get_or xs i d)))
        ∙ ap (λ w. w ++ g (get_or xs i d)) (sym (more x (take i xs)))

-- what is appended for one more item
pub item_appended : {X : Type 0} (g : X → List ℕ) (F : List X → List ℕ) → F [] ≡ [] → ((x : X) (xs : List X) → F (x ∷ xs) ≡ g x ++ F xs) → (old mid new : List ℕ) (xs : List X) (i : ℕ) (x d : X)
    → i < length xs → x ≡ get_or xs i d → mid ≡ old ++ F (take i xs) → new ≡ mid ++ g x → new ≡ old ++ F (take (i + 1) xs)
item_appended g F none more old mid new xs i x d within item p q =
    q
    ∙ ap (λ w. w ++ g x) p
    ∙ append_assoc old (F (take i xs)) (g x)
    ∙ ap (λ y. old ++ (F (take i xs) ++ g y)) item
    ∙ ap (λ w. old ++ w) (sym (item_more g F none more xs i d within))

-- one more specification
tally_more : (n : ℕ) (ts : List Tally) (i : ℕ) (d : Tally) → i < length ts → tallies_lines n (take (i + 1) ts) ≡ tallies_lines n (take i ts) ++ tally_lines (i + n) (get_or ts i d)
tally_more n ts i d within = ap (λ k. tallies_lines n (take k ts)) (add-one i) ∙ next n ts i within
  where
    next : (n : ℕ) (ts : List Tally) (i : ℕ) → i < length ts → tallies_lines n (take (suc i) ts) ≡ tallies_lines n (take i ts) ++ tally_lines (i + n) (get_or ts i d)
    next n [] i h = absurd (omega arith)
    next n (t ∷ ts) zero h = let same : n ≡ 0 + n = omega arith in append-nil (tally_lines n t) ∙ ap (λ k. tally_lines k t) same
    next n (t ∷ ts) (suc i) h =
        ap (λ w. tally_lines n t ++ w) (next (n + 1) ts i (omega arith))
        ∙ sym (append_assoc (tally_lines n t) (tallies_lines (n + 1) (take i ts)) (tally_lines (i + (n + 1)) (get_or ts i d)))
        ∙ ap (λ k. tally_lines n t ++ tallies_lines (n + 1) (take i ts) ++ tally_lines k (get_or ts i d)) (let same : i + (n + 1) ≡ suc i + n = omega arith in same)

pub tally_appended : (n : ℕ) (old mid new : List ℕ) (ts : List Tally) (i : ℕ) (t d : Tally) → i < length ts → t ≡ get_or ts i d → mid ≡ old ++ tallies_lines n (take i ts) → new ≡ mid ++ tally_lines (i + n) t
    → new ≡ old ++ tallies_lines n (take (i + 1) ts)
tally_appended n old mid new ts i t d within item p q =
    q
    ∙ ap (λ w. w ++ tally_lines (i + n) t) p
    ∙ append_assoc old (tallies_lines n (take i ts)) (tally_lines (i + n) t)
    ∙ ap (λ y. old ++ (tallies_lines n (take i ts) ++ tally_lines (i + n) y)) item
    ∙ ap (λ w. old ++ w) (sym (tally_more n ts i d within))

-- ---- the parts of a line

then_appended : (old mid new first second : List ℕ) → mid ≡ old ++ first → new ≡ mid ++ second → new ≡ old ++ (first ++ second)
then_appended old mid new first second p q = q ∙ ap (λ w. w ++ second) p ∙ append_assoc old first second

-- a blank and a number
pub number_appended : (old mid new : List ℕ) (n : ℕ) → mid ≡ old ++ codes " " → new ≡ mid ++ decimal n → new ≡ old ++ (codes " " ++ decimal n)
number_appended old mid new n p q = then_appended old mid new (codes " ") (decimal n) p q

-- the six parts of a specification's counts
pub counts_appended : (t : Tally) (old w1 w2 w3 w4 w5 w6 word : List ℕ) (passed : Bool) (applicable : ℕ) (failing : List Failing) → passed ≡ passes t → word ≡ pass_word passed → applicable ≡ t.applicable → failing ≡ t.failing
    → w1 ≡ old ++ codes " " → w2 ≡ w1 ++ word → w3 ≡ w2 ++ codes " applicable " → w4 ≡ w3 ++ decimal applicable → w5 ≡ w4 ++ codes " failed " → w6 ≡ w5 ++ decimal (length failing) → w6 ≡ old ++ counts t
counts_appended t old w1 w2 w3 w4 w5 w6 word passed applicable failing same said number items p1 p2 p3 p4 p5 p6 =
    let two = then_appended old w1 w2 (codes " ") (pass_word (passes t)) p1 (p2 ∙ ap (λ w. w1 ++ w) (said ∙ ap pass_word same)) in
    let three = then_appended old w2 w3 _ (codes " applicable ") two p3 in
    let four = then_appended old w3 w4 _ (decimal t.applicable) three (p4 ∙ ap (λ n. w3 ++ decimal n) number) in
    let five = then_appended old w4 w5 _ (codes " failed ") four p5 in
    then_appended old w5 w6 _ (decimal (length t.failing)) five (p6 ∙ ap (λ (fs : List Failing). w5 ++ decimal (length fs)) items)

-- ---- the whole

pub report_appended : (revision : ℕ) (tallies : List Tally) (w0 w1 w2 w3 : List ℕ) (passed : Bool) → passed ≡ all_pass tallies → w0 ≡ [] → w1 ≡ w0 ++ line (codes "report " ++ decimal revision) → w2 ≡ w1 ++ tallies_lines 1 tallies
    → w3 ≡ w2 ++ line (codes "end " ++ pass_word passed) → w3 ≡ report_text revision tallies
unfolding report_text
report_appended revision tallies w0 w1 w2 w3 passed same none p1 p2 p3 =
    let first : w1 ≡ line (codes "report " ++ decimal revision) = p1 ∙ ap (λ w. w ++ line (codes "report " ++ decimal revision)) none in
    let second : w2 ≡ line (codes "report " ++ decimal revision) ++ tallies_lines 1 tallies = p2 ∙ ap (λ w. w ++ tallies_lines 1 tallies) first in
    p3 ∙ ap (λ w. w ++ line (codes "end " ++ pass_word passed)) second
    ∙ ap (λ b. line (codes "report " ++ decimal revision) ++ tallies_lines 1 tallies ++ line (codes "end " ++ pass_word b)) same
