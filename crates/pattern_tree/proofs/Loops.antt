-- A part again and again; and a repeat without end of such a repeat, which is one repeat.
use Rattle.std.proofs.Common.{◌≡◌, ◌<◌, ◌≤◌, ◌+◌, ℕ, zero, suc, Bool, true, false, ◌&&◌, List, [], ◌∷◌, ◌++◌, inl, inr, length, refl, sym, ap, ◌∙◌, subst, arith, length-append, if◌then◌else◌}
use Rattle.std.proofs.Math.Bool.{and-true}
use Rattle.std.proofs.lemmas.Bool.{eqb-true, cases_Bool}
use Rattle.std.proofs.lemmas.List.{append-nil, nil_from_length}
use Rattle.pattern_tree.specs.Matching.{Text}
use Rattle.pattern_tree.specs.declared.program.Op.{Op}
use Rattle.pattern_tree.specs.declared.program.Op.TheVariants as op
use Rattle.pattern_tree.specs.declared.program.Part.{Part}
use Rattle.pattern_tree.specs.Programs.{but_last, spans, is_loop, endless}
use Rattle.pattern_tree.proofs.Expressions.{Expr, one, blank, both, never, either, loop, Power, Powers, Hits, Takes, takes_empty, Fine}
use Rattle.pattern_tree.proofs.Joins.{power_map, power_join}
use Rattle.pattern_tree.proofs.Shifts.{empty_to_takes}
use Rattle.pattern_tree.proofs.Runs.{code}
use Rattle.pattern_tree.proofs.Spelling.{Spells, idle, but_last_of}

-- ---- joins of joins

-- the join of so many joins is one join, and of some text where there is one in each of them
record Flat (inner : Bool) (P : Text → Type 0) (n : ℕ) (s : Text) : Type 0 where
  pub number : ℕ
  pub enough : inner ≡ false → 0 < n → 0 < number
  pub texts : Power P number s

power_flat : (inner : Bool) (P : Text → Type 0) (n : ℕ) (s : Text) → Power (Powers inner P) n s → Flat inner P n s
power_flat inner P zero s h = record { number = 0; enough = λ e more. more; texts = h }
power_flat inner P (suc n) s h =
    let rest = power_flat inner P n h.back h.second in
    record {
      number = h.first.number + rest.number;
      enough = λ e more. let some = h.first.enough e in omega arith;
      texts = power_join P h.first.number rest.number (h.first.number + rest.number) s refl (record { front = h.front; back = h.back; parts = h.parts; first = h.first.texts; second = rest.texts });
    }

powers_flat : (b inner : Bool) (P : Text → Type 0) → (inner ≡ true → b ≡ true) → (s : Text) → Powers b (Powers inner P) s → Powers b P s
powers_flat b inner P less s h =
    let all = power_flat inner P h.number s h.texts in
    record {
      number = all.number;
      enough = λ e. elim (cases_Bool inner) [
        | inl held ↦ let on = less held in absurd (cc)
        | inr none ↦ all.enough none (h.enough e)
      ];
      texts = all.texts;
    }

power_nested : (b inner : Bool) (P : Text → Type 0) (n : ℕ) (s : Text) → (b ≡ false → 0 < n) → Power P n s → Powers b (Powers inner P) s
power_nested b inner P zero s enough h = record { number = 0; enough = enough; texts = h }
power_nested b inner P (suc n) s enough h = record {
  number = 1;
  enough = λ e. omega arith;
  texts = record {
    front = s;
    back = [];
    parts = sym (append-nil s);
    first = record { number = suc n; enough = λ e. omega arith; texts = h };
    second = refl;
  };
}

powers_nested : (b inner : Bool) (P : Text → Type 0) (s : Text) → Powers b P s → Powers b (Powers inner P) s
powers_nested b inner P s h = power_nested b inner P h.number s h.enough h.texts

powers_map : (b : Bool) (P Q : Text → Type 0) → ((s : Text) → P s → Q s) → (s : Text) → Powers b P s → Powers b Q s
powers_map b P Q f s h = record { number = h.number; enough = h.enough; texts = power_map P Q f h.number s h.texts }

-- ---- steps that are one repeat without end

enters_both : (xs ys : List Op) (far : ℕ) (ops : List Op) → ((n : ℕ) (os : List Op) → xs ≡ op.Enter n ∷ os → n ≤ length os) → ((n : ℕ) (os : List Op) → ys ≡ op.Enter n ∷ os → n ≤ length os)
    → xs ++ ys ≡ op.Enter far ∷ ops → far ≤ length ops
enters_both [] ys far ops f g h = g far ops h
enters_both (x ∷ xs) ys far ops f g h =
    let head : x ≡ op.Enter far = cc in
    let tail : (xs ++ ys) ≡ ops = cc in
    let less : far ≤ length xs = f far xs (ap (λ o. o ∷ xs) head) in
    let number : length (xs ++ ys) ≡ length ops = ap length tail in
    omega (arith, length-append xs ys)

-- the repeat that the first step begins ends within the steps
enters : (e : Expr) (far : ℕ) (ops : List Op) → code false e ≡ op.Enter far ∷ ops → far ≤ length ops
enters (one k) far ops h = absurd (cc)
enters blank far ops h = absurd (cc)
enters (both p q) far ops h = enters_both (code false p) (code false q) far ops (enters p) (enters q) h
enters never far ops h = absurd (cc)
enters (either p q) far ops h = absurd (cc)
enters (loop b p) far ops h =
    let place : length (code false p) + 1 ≡ far = cc in
    let tail : (code false p ++ op.Leave b ∷ []) ≡ ops = cc in
    let number : length (code false p ++ op.Leave b ∷ []) ≡ length ops = ap length tail in
    omega (arith, length-append (code false p) (op.Leave b ∷ []))

-- the expression is one repeat
record IsLoop (hit : Hits) (e : Expr) : Type 0 where
  pub flag : Bool
  pub body : Expr
  pub is : code false e ≡ code false (loop flag body)
  pub empty : takes_empty e ≡ flag
  pub fine : Fine e → Fine (loop flag body)
  pub sound : (s : Text) → Takes hit e s → Powers flag (Takes hit body) s
  pub complete : (s : Text) → Powers flag (Takes hit body) s → Takes hit e s

-- beside an expression without steps it stays one
idle_first : (hit : Hits) (p q : Expr) → code false p ≡ [] → IsLoop hit q → IsLoop hit (both p q)
idle_first hit p q none h =
    let rest = idle hit p none in
    record {
      flag = h.flag;
      body = h.body;
      is = ap (λ l. l ++ code false q) none ∙ h.is;
      empty = ap (λ x. x && takes_empty q) rest.empty ∙ h.empty;
      fine = λ f. h.fine f.1;
      sound = λ s t. h.sound s (subst (Takes hit q) (sym (t.parts ∙ ap (λ x. x ++ t.back) (rest.only t.front t.first))) t.second);
      complete = λ s t. record { front = []; back = s; parts = refl; first = empty_to_takes hit p rest.empty; second = h.complete s t };
    }

idle_second : (hit : Hits) (p q : Expr) → code false q ≡ [] → IsLoop hit p → IsLoop hit (both p q)
idle_second hit p q none h =
    let rest = idle hit q none in
    record {
      flag = h.flag;
      body = h.body;
      is = ap (λ l. code false p ++ l) none ∙ append-nil (code false p) ∙ h.is;
      empty = ap (λ x. takes_empty p && x) rest.empty ∙ and-true (takes_empty p) ∙ h.empty;
      fine = λ f. h.fine f.0;
      sound = λ s t. h.sound s (subst (Takes hit p) (sym (t.parts ∙ ap (λ x. t.front ++ x) (rest.only t.back t.second) ∙ append-nil t.front)) t.first);
      complete = λ s t. record { front = s; back = []; parts = sym (append-nil s); first = h.complete s t; second = empty_to_takes hit q rest.empty };
    }

both_loop : (hit : Hits) (p q : Expr) (xs ys : List Op) → code false p ≡ xs → code false q ≡ ys
    → ((n : ℕ) (os : List Op) → code false p ≡ op.Enter n ∷ os → n ≡ length os → IsLoop hit p)
    → ((n : ℕ) (os : List Op) → code false q ≡ op.Enter n ∷ os → n ≡ length os → IsLoop hit q)
    → (far : ℕ) (ops : List Op) → xs ++ ys ≡ op.Enter far ∷ ops → far ≡ length ops → IsLoop hit (both p q)
both_loop hit p q [] ys e f hp hq far ops h l = idle_first hit p q e (hq far ops (f ∙ h) l)
both_loop hit p q (x ∷ xs) ys e f hp hq far ops h l =
    let head : x ≡ op.Enter far = cc in
    let tail : (xs ++ ys) ≡ ops = cc in
    let here : code false p ≡ op.Enter far ∷ xs = e ∙ ap (λ o. o ∷ xs) head in
    let less : far ≤ length xs = enters p far xs here in
    let number : length (xs ++ ys) ≡ length ops = ap length tail in
    let none : length ys ≡ 0 = omega (arith, length-append xs ys) in
    let whole : far ≡ length xs = omega (arith, length-append xs ys) in
    idle_second hit p q (f ∙ nil_from_length ys none) (hp far xs here whole)

loop_of : (hit : Hits) (e : Expr) (far : ℕ) (ops : List Op) → code false e ≡ op.Enter far ∷ ops → far ≡ length ops → IsLoop hit e
loop_of hit (one k) far ops h l = absurd (cc)
loop_of hit blank far ops h l = absurd (cc)
loop_of hit (both p q) far ops h l =
    both_loop hit p q (code false p) (code false q) refl refl (loop_of hit p) (loop_of hit q) far ops h l
loop_of hit never far ops h l = absurd (cc)
loop_of hit (either p q) far ops h l = absurd (cc)
loop_of hit (loop b p) far ops h l =
    record { flag = b; body = p; is = refl; empty = refl; fine = λ f. f; sound = λ s t. t; complete = λ s t. t }

-- steps that begin such a repeat, which ends with the last of them
loop_steps : (hit : Hits) (e : Expr) (first : Op) (ops : List Op) → code false e ≡ first ∷ ops → spans first (length ops) ≡ true → IsLoop hit e
loop_steps hit e (op.Enter far) ops h f = loop_of hit e far ops h (eqb-true far (length ops) f)
loop_steps hit e (op.One at) ops h f = absurd (cc)
loop_steps hit e op.Fork ops h f = absurd (cc)
loop_steps hit e op.Next ops h f = absurd (cc)
loop_steps hit e op.Join ops h f = absurd (cc)
loop_steps hit e (op.Leave empty) ops h f = absurd (cc)

loop_list : (hit : Hits) (e : Expr) (ops : List Op) → code false e ≡ ops → is_loop ops ≡ true → IsLoop hit e
loop_list hit e [] h f = absurd (cc)
loop_list hit e (first ∷ ops) h f = loop_steps hit e first ops h f

-- ---- again and again

-- a part that is no such repeat
plain_so : (hit : Hits) (p : Part) (b : Bool) (P : Text → Type 0) → (p.empty ≡ true → b ≡ true) → Spells hit p P
    → Spells hit (record { ops = op.Enter (length p.ops + 1) ∷ p.ops ++ op.Leave b ∷ []; empty = b }) (Powers b P)
plain_so hit p b P less h = record {
  expr = loop b h.expr;
  is = record {
    ops = ap (λ l. op.Enter (length l + 1) ∷ l ++ op.Leave b ∷ []) h.is.ops;
    empty = refl;
    fine = (λ e. less (h.is.empty ∙ e), h.is.fine);
  };
  sound = powers_map b (Takes hit h.expr) P h.sound;
  complete = powers_map b P (Takes hit h.expr) h.complete;
}

-- a part that is such a repeat
nested_so : (hit : Hits) (p : Part) (b : Bool) (P : Text → Type 0) → (p.empty ≡ true → b ≡ true) → (h : Spells hit p P) → IsLoop hit h.expr
    → Spells hit (record { ops = but_last p.ops ++ op.Leave b ∷ []; empty = b }) (Powers b P)
nested_so hit p b P less h inner =
    let steps = code false inner.body in
    let held : inner.flag ≡ true → b ≡ true = λ t. less (h.is.empty ∙ inner.empty ∙ t) in
    let fine = inner.fine h.is.fine in
    let Q : Text → Type 0 = Powers inner.flag (Takes hit inner.body) in
    record {
      expr = loop b inner.body;
      is = record {
        ops = ap (λ l. but_last l ++ op.Leave b ∷ []) (h.is.ops ∙ inner.is)
            ∙ ap (λ l. l ++ op.Leave b ∷ []) (but_last_of (op.Enter (length steps + 1) ∷ steps) (op.Leave inner.flag));
        empty = refl;
        fine = (λ t. held (fine.0 t), fine.1);
      };
      sound = λ s t. powers_map b Q P (λ u x. h.sound u (inner.complete u x)) s (powers_nested b inner.flag (Takes hit inner.body) s t);
      complete = λ s t. powers_flat b inner.flag (Takes hit inner.body) held s (powers_map b P Q (λ u x. inner.sound u (h.complete u x)) s t);
    }

endless_by : (hit : Hits) (p : Part) (b : Bool) (P : Text → Type 0) (i : Bool) → is_loop p.ops ≡ i → (p.empty ≡ true → b ≡ true) → Spells hit p P
    → Spells hit (record { ops = if i then but_last p.ops ++ op.Leave b ∷ [] else op.Enter (length p.ops + 1) ∷ p.ops ++ op.Leave b ∷ []; empty = b }) (Powers b P)
endless_by hit p b P true e less h = nested_so hit p b P less h (loop_list hit h.expr p.ops (sym h.is.ops) e)
endless_by hit p b P false e less h = plain_so hit p b P less h

pub endless_so : (hit : Hits) (p : Part) (b : Bool) (P : Text → Type 0) → (p.empty ≡ true → b ≡ true) → Spells hit p P → Spells hit (endless p b) (Powers b P)
endless_so hit p b P less h = endless_by hit p b P (is_loop p.ops) refl less h
