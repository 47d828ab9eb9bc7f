-- A program matches exactly the texts that its expression takes.
use Rattle.std.proofs.Common.{◌≡◌, ℕ, Bool, true, false, List, [], ◌∷◌, ◌++◌, inl, inr, length, fold, replicate, refl, sym, ap, ◌∙◌}
use Rattle.std.proofs.lemmas.List.{append-nil}
use Rattle.pattern_tree.specs.Matching.{Text}
use Rattle.pattern_tree.specs.declared.machine.Wire.{Wire}
use Rattle.pattern_tree.specs.declared.program.Op.{Op}
use Rattle.pattern_tree.specs.declared.program.Op.TheVariants as op
use Rattle.pattern_tree.specs.declared.program.Part.{Part}
use Rattle.pattern_tree.specs.Machine.{wire, run, passed, Reached, taken, begun}
use Rattle.pattern_tree.proofs.Expressions.{Expr, one, blank, both, never, either, loop, Hits, Takes, takes_empty, Fine, Marks, Rest, Good, pass, unmarked}
use Rattle.pattern_tree.proofs.Finals.{pass_next, pass_good, good_unmarked}
use Rattle.pattern_tree.proofs.Shifts.{From, shift_to, shift_from, rest_to_final, final_to_rest, takes_to_empty, empty_to_takes}
use Rattle.pattern_tree.proofs.Runs.{code, flat, said, runs_so}

-- what the sets say, for each set and each character
abbrev pub hit_by : (ℕ → List Bool) → Hits
hit_by hits k c = said (hits c) k

-- a pass over all steps
all_steps : (hits : List Bool) (e : Expr) → Fine e → (m : Marks e) (now : Bool)
    → passed hits (code false e) (flat false e m) now ≡ (let r = pass (said hits) e m (wire now false) in let p : List Bool × Wire = (flat false e r.marks, r.out) in p)
unfolding run
all_steps hits e fine m now =
    let r = pass (said hits) e m (wire now false) in
    ap (λ o. run hits o (flat false e m) (wire now false) []) (sym (append-nil (code false e)))
    ∙ ap (λ x. run hits (code false e ++ []) x (wire now false) []) (sym (append-nil (flat false e m)))
    ∙ (runs_so hits e fine).steps m (wire now false) [] [] []
    ∙ ap (λ l. let p : List Bool × Wire = (l, r.out) in p) (append-nil (flat false e r.marks))

abbrev reached : (e : Expr) → Marks e → Bool → Bool → Reached
reached e m begins ends = record { marks = flat false e m; begins = begins; ends = ends }

-- one character
one_taken : (hits : ℕ → List Bool) (e : Expr) → Fine e → (m : Marks e) (begins ends : Bool) (c : ℕ)
    → taken hits (code false e) (reached e m begins ends) c
    ≡ (let r = pass (said (hits c)) e m (wire begins false) in reached e r.marks false r.out.next)
one_taken hits e fine m begins ends c =
    ap (λ p. let r : Reached = record { marks = p.0; begins = false; ends = p.1.next } in r) (all_steps (hits c) e fine m begins)

-- the flag says rightly whether the end is reached
pub record Tells (hit : Hits) (e : Expr) (m : Marks e) (begins ends : Bool) (s : Text) : Type 0 where
  pub sound : ends ≡ true → From hit e m begins s
  pub complete : From hit e m begins s → ends ≡ true

behind_one : (hits : ℕ → List Bool) (e : Expr) → Fine e → (m : Marks e) (begins : Bool) (c : ℕ)
    → (let r = pass (said (hits c)) e m (wire begins false) in Tells (hit_by hits) e r.marks false r.out.next [])
behind_one hits e fine m begins c =
    let r = pass (said (hits c)) e m (wire begins false) in
    let next = pass_next (said (hits c)) e m (wire begins false) in
    record {
      sound = λ h. inl (final_to_rest (hit_by hits) e r.marks (sym next ∙ h));
      complete = λ f. elim f [
        | inl rest ↦ next ∙ rest_to_final (hit_by hits) e r.marks fine rest
        | inr off_wire ↦ let f = off_wire.0 in absurd (cc)
      ];
    }

-- from marks on, the program tells whether the rest of the text is taken
pub tells : (hits : ℕ → List Bool) (e : Expr) → Fine e → (m : Marks e) → Good e m → (begins ends : Bool) (s : Text) → Tells (hit_by hits) e m begins ends []
    → Tells (hit_by hits) e m begins (fold (taken hits (code false e)) (reached e m begins ends) s).ends s
tells hits e fine m good begins ends [] t = t
tells hits e fine m good begins ends (c ∷ s) t =
    let w = wire begins false in
    let r = pass (said (hits c)) e m w in
    let ih = tells hits e fine r.marks (pass_good (said (hits c)) e m w good) false r.out.next s (behind_one hits e fine m begins c) in
    let same : (fold (taken hits (code false e)) (reached e m begins ends) (c ∷ s)).ends ≡ (fold (taken hits (code false e)) (reached e r.marks false r.out.next) s).ends =
    ap (λ x. (fold (taken hits (code false e)) x s).ends) (one_taken hits e fine m begins ends c) in
    record {
      sound = λ h. elim (ih.sound (sym same ∙ h)) [
        | inl rest ↦ shift_to (hit_by hits) c e m w s fine good rest
        | inr off_wire ↦ let f = off_wire.0 in absurd (cc)
      ];
      complete = λ f. same ∙ ih.complete (inl (shift_from (hit_by hits) c e m w s fine good f));
    }

-- without marks nothing is left
rest_unmarked : (hit : Hits) (e : Expr) (s : Text) → Rest hit e (unmarked e) s → ⊥
rest_unmarked hit (one k) s h = let f = h.0 in absurd (cc)
rest_unmarked hit blank s h = h
rest_unmarked hit (both p q) s h =
    elim h [ inl a ↦ rest_unmarked hit p a.front a.first | inr b ↦ rest_unmarked hit q s b ]
rest_unmarked hit never s h = h
rest_unmarked hit (either p q) s h = elim h [ inl a ↦ rest_unmarked hit p s a | inr b ↦ rest_unmarked hit q s b ]
rest_unmarked hit (loop b p) s h = rest_unmarked hit p h.front h.first

-- no mark at any step
abbrev off : List Op → List Bool
off [] = []
off (op ∷ ops) = false ∷ off ops

off_append : (xs ys : List Op) → off (xs ++ ys) ≡ off xs ++ off ys
off_append [] ys = refl
off_append (x ∷ xs) ys = ap (λ t. false ∷ t) (off_append xs ys)

off_beside : (xs ys : List Op) (us vs : List Bool) → us ≡ off xs → vs ≡ off ys → us ++ vs ≡ off (xs ++ ys)
off_beside xs ys us vs e f = ap (λ t. t ++ vs) e ∙ ap (λ t. off xs ++ t) f ∙ sym (off_append xs ys)

off_replicate : (xs : List Op) → off xs ≡ replicate (length xs) false
off_replicate [] = refl
off_replicate (x ∷ xs) = ap (λ t. false ∷ t) (off_replicate xs)

flat_unmarked : (s : Bool) (e : Expr) → flat s e (unmarked e) ≡ off (code s e)
flat_unmarked false (one k) = refl
flat_unmarked false blank = refl
flat_unmarked false (both p q) =
    off_beside (code false p) (code false q) (flat false p (unmarked p)) (flat false q (unmarked q)) (flat_unmarked false p) (flat_unmarked false q)
flat_unmarked false never = refl
flat_unmarked false (either p q) =
    ap (λ t. false ∷ t) (off_beside (code true (either p q)) (op.Join ∷ []) (flat true (either p q) (unmarked (either p q))) (false ∷ [])
    (off_beside (code false p) (op.Next ∷ code true q) (flat false p (unmarked p)) (false ∷ flat true q (unmarked q)) (flat_unmarked false p) (ap (λ t. false ∷ t) (flat_unmarked true q)))
    refl)
flat_unmarked false (loop b p) =
    ap (λ t. false ∷ t) (off_beside (code false p) (op.Leave b ∷ []) (flat false p (unmarked p)) (false ∷ []) (flat_unmarked false p) refl)
flat_unmarked true (one k) = refl
flat_unmarked true blank = refl
flat_unmarked true (both p q) = refl
flat_unmarked true never = refl
flat_unmarked true (either p q) =
    off_beside (code false p) (op.Next ∷ code true q) (flat false p (unmarked p)) (false ∷ flat true q (unmarked q)) (flat_unmarked false p) (ap (λ t. false ∷ t) (flat_unmarked true q))
flat_unmarked true (loop b p) = refl

-- a part that is the program of an expression
pub record IsOf (part : Part) (e : Expr) : Type 0 where
  pub ops : part.ops ≡ code false e
  pub empty : part.empty ≡ takes_empty e
  pub fine : Fine e

begun_is : (part : Part) (e : Expr) → IsOf part e → begun part ≡ reached e (unmarked e) true (takes_empty e)
begun_is part e h =
    ap (λ l. let r : Reached = record { marks = replicate (length l) false; begins = true; ends = part.empty } in r) h.ops
    ∙ ap (λ b. let r : Reached = record { marks = replicate (length (code false e)) false; begins = true; ends = b } in r) h.empty
    ∙ ap (λ l. let r : Reached = record { marks = l; begins = true; ends = takes_empty e } in r) (sym (flat_unmarked false e ∙ off_replicate (code false e)))

from_start : (hits : ℕ → List Bool) (e : Expr) → Fine e → Tells (hit_by hits) e (unmarked e) true (takes_empty e) []
from_start hits e fine = record {
  sound = λ h. inr (refl, empty_to_takes (hit_by hits) e h);
  complete = λ f. elim f [
    | inl rest ↦ absurd (rest_unmarked (hit_by hits) e [] rest)
    | inr t ↦ takes_to_empty (hit_by hits) e fine t.1
  ];
}

-- the program of an expression matches exactly the texts that it takes
pub record Matched (hits : ℕ → List Bool) (part : Part) (e : Expr) (s : Text) : Type 0 where
  pub sound : (fold (taken hits part.ops) (begun part) s).ends ≡ true → Takes (hit_by hits) e s
  pub complete : Takes (hit_by hits) e s → (fold (taken hits part.ops) (begun part) s).ends ≡ true

pub matched : (hits : ℕ → List Bool) (part : Part) (e : Expr) → IsOf part e → (s : Text) → Matched hits part e s
matched hits part e h s =
    let t = tells hits e h.fine (unmarked e) (good_unmarked e) true (takes_empty e) s (from_start hits e h.fine) in
    let same : (fold (taken hits part.ops) (begun part) s).ends ≡ (fold (taken hits (code false e)) (reached e (unmarked e) true (takes_empty e)) s).ends =
    ap (λ o. (fold (taken hits o) (begun part) s).ends) h.ops ∙ ap (λ x. (fold (taken hits (code false e)) x s).ends) (begun_is part e h) in
    record {
      sound = λ y. elim (t.sound (sym same ∙ y)) [ inl rest ↦ absurd (rest_unmarked (hit_by hits) e s rest) | inr x ↦ x.1 ];
      complete = λ x. same ∙ t.complete (inr (refl, x));
    }
