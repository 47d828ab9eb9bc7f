-- The steps of a program do what a pass over its expression does.
use Rattle.std.proofs.Common.{◌≡◌, ◌+◌, ℕ, zero, suc, Bool, true, false, ◌&&◌, ◌||◌, List, [], ◌∷◌, ◌++◌, length, refl, sym, ap, ◌∙◌, append_assoc, length-append, add-one, if◌then◌else◌, slice_index_or, arith}
use Rattle.std.proofs.Math.Bool.{or-false, or_assoc}
use Rattle.pattern_tree.specs.declared.machine.Wire.{Wire}
use Rattle.pattern_tree.specs.declared.machine.Kept.{Kept}
use Rattle.pattern_tree.specs.declared.program.Op.{Op}
use Rattle.pattern_tree.specs.declared.program.Op.TheVariants as op
use Rattle.pattern_tree.specs.Machine.{wire, or, no_way, kept_of, run, behind, mark_at}
use Rattle.pattern_tree.proofs.Expressions.{Expr, one, blank, both, never, either, loop, Lined, Fine, Marks, pass}

-- the steps of an expression; with the flag those of the sides of an alternation
abbrev pub code : Bool → Expr → List Op
code false (one k) = op.One k ∷ []
code false blank = []
code false (both p q) = code false p ++ code false q
code false never = op.Fork ∷ op.Join ∷ []
code false (either p q) = op.Fork ∷ (code false p ++ op.Next ∷ code true q) ++ op.Join ∷ []
code false (loop b p) = op.Enter (length (code false p) + 1) ∷ code false p ++ op.Leave b ∷ []
code true (one k) = []
code true blank = []
code true (both p q) = []
code true never = []
code true (either p q) = code false p ++ op.Next ∷ code true q
code true (loop b p) = []

-- its marks, one for each step
abbrev pub flat : Bool → (e : Expr) → Marks e → List Bool
flat false (one k) m = m ∷ []
flat false blank m = []
flat false (both p q) m = flat false p m.0 ++ flat false q m.1
flat false never m = false ∷ false ∷ []
flat false (either p q) m = false ∷ (flat false p m.0 ++ false ∷ flat true q m.1) ++ false ∷ []
flat false (loop b p) m = false ∷ flat false p m.1 ++ m.0 ∷ []
flat true (one k) m = []
flat true blank m = []
flat true (both p q) m = []
flat true never m = []
flat true (either p q) m = flat false p m.0 ++ false ∷ flat true q m.1
flat true (loop b p) m = []

beside_length : {A B : Type 0} (xs ys : List A) (us vs : List B) → length xs ≡ length us → length ys ≡ length vs → length (xs ++ ys) ≡ length (us ++ vs)
beside_length xs ys us vs e f = omega (arith, length-append xs ys, length-append us vs)

-- as many marks as steps
pub flat_length : (s : Bool) (e : Expr) (m : Marks e) → length (flat s e m) ≡ length (code s e)
flat_length false (one k) m = refl
flat_length false blank m = refl
flat_length false (both p q) m =
    beside_length (flat false p m.0) (flat false q m.1) (code false p) (code false q) (flat_length false p m.0) (flat_length false q m.1)
flat_length false never m = refl
flat_length false (either p q) m =
    ap suc (beside_length (flat false p m.0 ++ false ∷ flat true q m.1) (false ∷ []) (code false p ++ op.Next ∷ code true q) (op.Join ∷ [])
    (beside_length (flat false p m.0) (false ∷ flat true q m.1) (code false p) (op.Next ∷ code true q) (flat_length false p m.0) (ap suc (flat_length true q m.1)))
    refl)
flat_length false (loop b p) m =
    ap suc (beside_length (flat false p m.1) (m.0 ∷ []) (code false p) (op.Leave b ∷ []) (flat_length false p m.1) refl)
flat_length true (one k) m = refl
flat_length true blank m = refl
flat_length true (both p q) m = refl
flat_length true never m = refl
flat_length true (either p q) m =
    beside_length (flat false p m.0) (false ∷ flat true q m.1) (code false p) (op.Next ∷ code true q) (flat_length false p m.0) (ap suc (flat_length true q m.1))
flat_length true (loop b p) m = refl

-- what the sets of the steps say
abbrev pub said : List Bool → ℕ → Bool
said hits k = slice_index_or hits k false

-- the mark behind so many
mark_behind : (xs : List Bool) (f : Bool) (ms : List Bool) (n : ℕ) → length xs ≡ n → slice_index_or (xs ++ f ∷ ms) n false ≡ f
mark_behind [] f ms zero e = refl
mark_behind [] f ms (suc n) e = absurd (omega arith)
mark_behind (x ∷ xs) f ms zero e = absurd (omega arith)
mark_behind (x ∷ xs) f ms (suc n) e = mark_behind xs f ms n (omega arith)

far_mark : (x : Bool) (xs : List Bool) (f : Bool) (ms : List Bool) (n : ℕ) → length xs ≡ n → mark_at (x ∷ ((xs ++ f ∷ []) ++ ms)) (n + 1) ≡ f
far_mark x xs f ms n e =
    ap (λ k. mark_at (x ∷ ((xs ++ f ∷ []) ++ ms)) k) (add-one n)
    ∙ ap (λ ys. mark_at (x ∷ ys) (suc n)) (append_assoc xs (f ∷ []) ms)
    ∙ mark_behind xs f ms n e

run_at : (hits : List Bool) {ops ops' : List Op} {ms ms' : List Bool} (w : Wire) (kept : List Kept) → ops ≡ ops' → ms ≡ ms' → run hits ops ms w kept ≡ run hits ops' ms' w kept
run_at hits {ops} {ops'} {ms} {ms'} w kept e f = ap (λ o. run hits o ms w kept) e ∙ ap (λ x. run hits ops' x w kept) f

behind_behind : (xs ys : List Bool) (r : List Bool × Wire) → behind xs (behind ys r) ≡ behind (xs ++ ys) r
behind_behind xs ys r = ap (λ l. let p : List Bool × Wire = (l, r.1) in p) (sym (append_assoc xs ys r.0))

or_no_way : (o : Wire) → or o no_way ≡ o
or_no_way o = ap (λ n. wire n (o.next || false)) (or-false o.now) ∙ ap (λ x. wire o.now x) (or-false o.next)

or_or : (a b c : Wire) → or (or a b) c ≡ or a (or b c)
or_or a b c =
    ap (λ n. wire n ((a.next || b.next) || c.next)) (or_assoc a.now b.now c.now)
    ∙ ap (λ x. wire (a.now || (b.now || c.now)) x) (or_assoc a.next b.next c.next)

left : (b : Bool) (o w : Wire) → (if b then or o w else o) ≡ wire (o.now || (b && w.now)) (o.next || (b && w.next))
left true o w = refl
left false o w = sym (or_no_way o)

-- how the steps run, with any steps, marks and kept wires behind them
pub record RunsSo (hits : List Bool) (e : Expr) : Type 0 where
  pub steps : (m : Marks e) (w : Wire) (kept : List Kept) (ops : List Op) (ms : List Bool)
      → run hits (code false e ++ ops) (flat false e m ++ ms) w kept
      ≡ behind (flat false e (pass (said hits) e m w).marks) (run hits ops ms (pass (said hits) e m w).out kept)
  pub sides : Lined e → (m : Marks e) (w acc : Wire) (kept : List Kept) (ops : List Op) (ms : List Bool)
      → run hits (code true e ++ ops) (flat true e m ++ ms) w (kept_of w acc ∷ kept)
      ≡ behind (flat true e (pass (said hits) e m w).marks) (run hits ops ms w (kept_of w (or acc (pass (said hits) e m w).out) ∷ kept))

sides_so : (hits : List Bool) (p q : Expr) → RunsSo hits p → RunsSo hits q → Lined q → (m : Marks (either p q)) (w acc : Wire) (kept : List Kept) (ops : List Op) (ms : List Bool)
    → run hits (code true (either p q) ++ ops) (flat true (either p q) m ++ ms) w (kept_of w acc ∷ kept)
    ≡ behind (flat true (either p q) (pass (said hits) (either p q) m w).marks) (run hits ops ms w (kept_of w (or acc (pass (said hits) (either p q) m w).out) ∷ kept))
unfolding run
sides_so hits p q hp hq lined m w acc kept ops ms =
    let r = pass (said hits) p m.0 w in
    let t = pass (said hits) q m.1 w in
    run_at hits w (kept_of w acc ∷ kept) (append_assoc (code false p) (op.Next ∷ code true q) ops) (append_assoc (flat false p m.0) (false ∷ flat true q m.1) ms)
    ∙ hp.steps m.0 w (kept_of w acc ∷ kept) (op.Next ∷ (code true q ++ ops)) (false ∷ (flat true q m.1 ++ ms))
    ∙ ap (λ x. behind (flat false p r.marks) (behind (false ∷ []) x)) (hq.sides lined m.1 w (or acc r.out) kept ops ms)
    ∙ ap (λ o. behind (flat false p r.marks) (behind (false ∷ []) (behind (flat true q t.marks) (run hits ops ms w (kept_of w o ∷ kept))))) (or_or acc r.out t.out)
    ∙ behind_behind (flat false p r.marks) (false ∷ flat true q t.marks) (run hits ops ms w (kept_of w (or acc (or r.out t.out)) ∷ kept))

either_so : (hits : List Bool) (p q : Expr) → RunsSo hits p → RunsSo hits q → Lined q → (m : Marks (either p q)) (w : Wire) (kept : List Kept) (ops : List Op) (ms : List Bool)
    → run hits (code false (either p q) ++ ops) (flat false (either p q) m ++ ms) w kept
    ≡ behind (flat false (either p q) (pass (said hits) (either p q) m w).marks) (run hits ops ms (pass (said hits) (either p q) m w).out kept)
unfolding run
either_so hits p q hp hq lined m w kept ops ms =
    let r = pass (said hits) (either p q) m w in
    ap (λ x. behind (false ∷ []) x) (
    run_at hits w (kept_of w no_way ∷ kept) (append_assoc (code true (either p q)) (op.Join ∷ []) ops) (append_assoc (flat true (either p q) m) (false ∷ []) ms)
    ∙ sides_so hits p q hp hq lined m w no_way kept (op.Join ∷ ops) (false ∷ ms)
    ∙ behind_behind (flat true (either p q) r.marks) (false ∷ []) (run hits ops ms r.out kept)
    )

loop_so : (hits : List Bool) (b : Bool) (p : Expr) → RunsSo hits p → (m : Marks (loop b p)) (w : Wire) (kept : List Kept) (ops : List Op) (ms : List Bool)
    → run hits (code false (loop b p) ++ ops) (flat false (loop b p) m ++ ms) w kept
    ≡ behind (flat false (loop b p) (pass (said hits) (loop b p) m w).marks) (run hits ops ms (pass (said hits) (loop b p) m w).out kept)
unfolding run
loop_so hits b p hp m w kept ops ms =
    let r = pass (said hits) p m.1 (wire (w.now || m.0) false) in
    ap (λ x. behind (false ∷ []) x) (
    ap (λ f. run hits ((code false p ++ op.Leave b ∷ []) ++ ops) ((flat false p m.1 ++ m.0 ∷ []) ++ ms) (wire (w.now || f) false) (kept_of w no_way ∷ kept))
    (far_mark false (flat false p m.1) m.0 ms (length (code false p)) (flat_length false p m.1))
    ∙ run_at hits (wire (w.now || m.0) false) (kept_of w no_way ∷ kept) (append_assoc (code false p) (op.Leave b ∷ []) ops) (append_assoc (flat false p m.1) (m.0 ∷ []) ms)
    ∙ hp.steps m.1 (wire (w.now || m.0) false) (kept_of w no_way ∷ kept) (op.Leave b ∷ ops) (m.0 ∷ ms)
    ∙ ap (λ o. behind (flat false p r.marks) (behind (r.out.next ∷ []) (run hits ops ms o kept))) (left b r.out w)
    ∙ behind_behind (flat false p r.marks) (r.out.next ∷ []) (run hits ops ms (wire (r.out.now || (b && w.now)) (r.out.next || (b && w.next))) kept)
    )

both_so : (hits : List Bool) (p q : Expr) → RunsSo hits p → RunsSo hits q → (m : Marks (both p q)) (w : Wire) (kept : List Kept) (ops : List Op) (ms : List Bool)
    → run hits (code false (both p q) ++ ops) (flat false (both p q) m ++ ms) w kept
    ≡ behind (flat false (both p q) (pass (said hits) (both p q) m w).marks) (run hits ops ms (pass (said hits) (both p q) m w).out kept)
both_so hits p q hp hq m w kept ops ms =
    let r = pass (said hits) p m.0 w in
    let t = pass (said hits) q m.1 r.out in
    run_at hits w kept (append_assoc (code false p) (code false q) ops) (append_assoc (flat false p m.0) (flat false q m.1) ms)
    ∙ hp.steps m.0 w kept (code false q ++ ops) (flat false q m.1 ++ ms)
    ∙ ap (λ x. behind (flat false p r.marks) x) (hq.steps m.1 r.out kept ops ms)
    ∙ behind_behind (flat false p r.marks) (flat false q t.marks) (run hits ops ms t.out kept)

pub runs_so : (hits : List Bool) (e : Expr) → Fine e → RunsSo hits e
unfolding run
runs_so hits (one k) fine = record { steps = λ m w kept ops ms. refl; sides = λ no. absurd no }
runs_so hits blank fine = record { steps = λ m w kept ops ms. refl; sides = λ no. absurd no }
runs_so hits (both p q) fine =
    record { steps = both_so hits p q (runs_so hits p fine.0) (runs_so hits q fine.1); sides = λ no. absurd no }
runs_so hits never fine = record {
  steps = λ m w kept ops ms. refl;
  sides = λ lined m w acc kept ops ms. ap (λ o. run hits ops ms w (kept_of w o ∷ kept)) (sym (or_no_way acc));
}
runs_so hits (either p q) fine = record {
  steps = either_so hits p q (runs_so hits p fine.0) (runs_so hits q fine.1) fine.2;
  sides = λ lined. sides_so hits p q (runs_so hits p fine.0) (runs_so hits q fine.1) lined;
}
runs_so hits (loop b p) fine = record { steps = loop_so hits b p (runs_so hits p fine.1); sides = λ no. absurd no }
