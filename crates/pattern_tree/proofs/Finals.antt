-- What `final` and the wires of a pass say.
use Rattle.std.proofs.Common.{◌≡◌, ℕ, Bool, true, false, ◌&&◌, ◌||◌, refl, sym, ap, ◌∙◌}
use Rattle.std.proofs.Math.Bool.{or-false, and-false}
use Rattle.pattern_tree.specs.declared.machine.Wire.{Wire}
use Rattle.pattern_tree.specs.Machine.{wire}
use Rattle.pattern_tree.proofs.Expressions.{Expr, one, blank, both, never, either, loop, takes_empty, Fine, Marks, final, Good, pass, unmarked}

absorbed : (y f e : Bool) → (y || f) ≡ ((y || f) || (e && f))
absorbed true f e = refl
absorbed false true e = refl
absorbed false false true = refl
absorbed false false false = refl

both_on : (g : Bool → Bool) (a e f : Bool) → g true ≡ (g false || f) → g (a || e) ≡ (g a || (e && f))
both_on g true e f h = h ∙ absorbed (g false) f e ∙ ap (λ y. y || (e && f)) (sym h)
both_on g false true f h = h
both_on g false false f h = sym (or-false (g false))

regroup : (a e b f : Bool) → ((a || e) || (b || f)) ≡ ((a || b) || (e || f))
regroup true e b f = refl
regroup false true true f = refl
regroup false true false f = refl
regroup false false b f = refl

loop_on : (a b : Bool) → (a || (b && true)) ≡ ((a || (b && false)) || b)
loop_on true b = refl
loop_on false true = refl
loop_on false false = refl

-- a wire that is on reaches the end through the empty text
pub final_on : (e : Expr) (m : Marks e) → final e m true ≡ (final e m false || takes_empty e)
final_on (one k) m = sym (or-false m)
final_on blank m = refl
final_on (both p q) m =
    ap (final q m.1) (final_on p m.0) ∙ both_on (final q m.1) (final p m.0 false) (takes_empty p) (takes_empty q) (final_on q m.1)
final_on never m = refl
final_on (either p q) m =
    let left = final_on p m.0 in
    let right = final_on q m.1 in
    ap (λ y. y || final q m.1 true) left
    ∙ ap (λ y. (final p m.0 false || takes_empty p) || y) right
    ∙ regroup (final p m.0 false) (takes_empty p) (final q m.1 false) (takes_empty q)
final_on (loop b p) m = loop_on (final p m.1 false) b

-- the wire behind, before the next character
pub pass_next : (hit : ℕ → Bool) (e : Expr) (m : Marks e) (w : Wire) → (pass hit e m w).out.next ≡ final e (pass hit e m w).marks w.next
pass_next hit (one k) m w = refl
pass_next hit blank m w = refl
pass_next hit (both p q) m w =
    let r = pass hit p m.0 w in
    pass_next hit q m.1 r.out ∙ ap (final q (pass hit q m.1 r.out).marks) (pass_next hit p m.0 w)
pass_next hit never m w = refl
pass_next hit (either p q) m w =
    ap (λ y. y || (pass hit q m.1 w).out.next) (pass_next hit p m.0 w)
    ∙ ap (λ y. final p (pass hit p m.0 w).marks w.next || y) (pass_next hit q m.1 w)
pass_next hit (loop b p) m w = ap (λ y. y || (b && w.next)) (pass_next hit p m.1 (wire (w.now || m.0) false))

widened : (a e b : Bool) → (e ≡ true → b ≡ true) → ((a || e) || (b && true)) ≡ (a || (b && true))
widened true e b less = refl
widened false true true less = refl
widened false true false less = sym (less refl)
widened false false b less = refl

loop_now : (g : Bool → Bool) (n a e b : Bool) → g true ≡ (a || e) → g false ≡ a → (e ≡ true → b ≡ true) → (g (n || a) || (b && n)) ≡ (a || (b && n))
loop_now g true a e b on off less = rw on (widened a e b less)
loop_now g false true e b on off less = rw on refl
loop_now g false false e b on off less = rw off refl

-- the wire behind, before the character
pub pass_now : (hit : ℕ → Bool) (e : Expr) (m : Marks e) (w : Wire) → Fine e → Good e m → (pass hit e m w).out.now ≡ final e m w.now
pass_now hit (one k) m w fine good = refl
pass_now hit blank m w fine good = refl
pass_now hit (both p q) m w fine good =
    let r = pass hit p m.0 w in
    pass_now hit q m.1 r.out fine.1 good.1 ∙ ap (final q m.1) (pass_now hit p m.0 w fine.0 good.0)
pass_now hit never m w fine good = refl
pass_now hit (either p q) m w fine good =
    ap (λ y. y || (pass hit q m.1 w).out.now) (pass_now hit p m.0 w fine.0 good.0)
    ∙ ap (λ y. final p m.0 w.now || y) (pass_now hit q m.1 w fine.1 good.1)
pass_now hit (loop b p) m w fine good =
    ap (λ y. y || (b && w.now)) (pass_now hit p m.1 (wire (w.now || m.0) false) fine.1 good.1)
    ∙ ap (λ y. final p m.1 (w.now || y) || (b && w.now)) good.0
    ∙ loop_now (final p m.1) w.now (final p m.1 false) (takes_empty p) b (final_on p m.1) refl fine.0

-- the marks of the repeats stay right
pub pass_good : (hit : ℕ → Bool) (e : Expr) (m : Marks e) (w : Wire) → Good e m → Good e (pass hit e m w).marks
pass_good hit (one k) m w good = tt
pass_good hit blank m w good = tt
pass_good hit (both p q) m w good = (pass_good hit p m.0 w good.0, pass_good hit q m.1 (pass hit p m.0 w).out good.1)
pass_good hit never m w good = tt
pass_good hit (either p q) m w good = (pass_good hit p m.0 w good.0, pass_good hit q m.1 w good.1)
pass_good hit (loop b p) m w good =
    let v = wire (w.now || m.0) false in (pass_next hit p m.1 v, pass_good hit p m.1 v good.1)

-- without marks no end is reached
pub final_unmarked : (e : Expr) → final e (unmarked e) false ≡ false
final_unmarked (one k) = refl
final_unmarked blank = refl
final_unmarked (both p q) = ap (final q (unmarked q)) (final_unmarked p) ∙ final_unmarked q
final_unmarked never = refl
final_unmarked (either p q) =
    ap (λ y. y || final q (unmarked q) false) (final_unmarked p) ∙ final_unmarked q
final_unmarked (loop b p) = ap (λ y. y || (b && false)) (final_unmarked p) ∙ and-false b

pub good_unmarked : (e : Expr) → Good e (unmarked e)
good_unmarked (one k) = tt
good_unmarked blank = tt
good_unmarked (both p q) = (good_unmarked p, good_unmarked q)
good_unmarked never = tt
good_unmarked (either p q) = (good_unmarked p, good_unmarked q)
good_unmarked (loop b p) = (sym (final_unmarked p), good_unmarked p)
