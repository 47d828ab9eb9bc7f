-- Which texts the program of a part matches, by an expression of which it is the program.
use Rattle.std.proofs.Common.{◌≡◌, ◌-◌, ℕ, zero, suc, Bool, true, false, ◌&&◌, ◌||◌, List, [], ◌∷◌, ◌++◌, inl, inr, length, take, refl, sym, ap, ◌∙◌, subst, append_assoc, length-append, arith, if◌then◌else◌}
use Rattle.std.proofs.Math.Seq.{take-append_seam}
use Rattle.pattern_tree.specs.Matching.{Text}
use Rattle.pattern_tree.specs.declared.program.Op.{Op}
use Rattle.pattern_tree.specs.declared.program.Op.TheVariants as op
use Rattle.pattern_tree.specs.declared.program.Part.{Part}
use Rattle.pattern_tree.specs.Programs.{single, nothing, beside, power, optional, but_last}
use Rattle.pattern_tree.proofs.Expressions.{Expr, one, blank, both, never, either, loop, Split, Power, Hits, Hit, Takes, takes_empty, Fine}
use Rattle.pattern_tree.proofs.Joins.{Maybe, split_map, power_map}
use Rattle.pattern_tree.proofs.Shifts.{empty_to_takes}
use Rattle.pattern_tree.proofs.Runs.{code}
use Rattle.pattern_tree.proofs.Outcomes.{IsOf}

pub record Spells (hit : Hits) (part : Part) (P : Text → Type 0) : Type 0 where
  pub expr : Expr
  pub is : IsOf part expr
  pub sound : (s : Text) → Takes hit expr s → P s
  pub complete : (s : Text) → P s → Takes hit expr s

pub changed : (hit : Hits) (part : Part) (P Q : Text → Type 0) → ((s : Text) → P s → Q s) → ((s : Text) → Q s → P s) → Spells hit part P → Spells hit part Q
changed hit part P Q f g h =
    record { expr = h.expr; is = h.is; sound = λ s t. f s (h.sound s t); complete = λ s q. h.complete s (g s q) }

pub single_so : (hit : Hits) (k : ℕ) → Spells hit (single k) (Hit hit k)
single_so hit k =
    record { expr = one k; is = record { ops = refl; empty = refl; fine = tt }; sound = λ s t. t; complete = λ s p. p }

pub nothing_so : (hit : Hits) → Spells hit nothing (λ s. s ≡ [])
nothing_so hit =
    record { expr = blank; is = record { ops = refl; empty = refl; fine = tt }; sound = λ s t. t; complete = λ s p. p }

pub beside_so : (hit : Hits) (p q : Part) (P Q : Text → Type 0) → Spells hit p P → Spells hit q Q → Spells hit (beside p q) (Split P Q)
beside_so hit p q P Q h k = record {
  expr = both h.expr k.expr;
  is = record {
    ops = ap (λ x. x ++ q.ops) h.is.ops ∙ ap (λ y. code false h.expr ++ y) k.is.ops;
    empty = ap (λ x. x && q.empty) h.is.empty ∙ ap (λ y. takes_empty h.expr && y) k.is.empty;
    fine = (h.is.fine, k.is.fine);
  };
  sound = λ s t. split_map (Takes hit h.expr) (Takes hit k.expr) P Q h.sound k.sound s t;
  complete = λ s t. split_map P Q (Takes hit h.expr) (Takes hit k.expr) h.complete k.complete s t;
}

-- ---- copies

abbrev copies : ℕ → Expr → Expr
copies zero e = blank
copies (suc k) e = both e (copies k e)

copies_code : (k : ℕ) (e : Expr) → code false (copies k e) ≡ power k (code false e)
copies_code zero e = refl
copies_code (suc k) e = ap (λ t. code false e ++ t) (copies_code k e)

copies_fine : (k : ℕ) (e : Expr) → Fine e → Fine (copies k e)
copies_fine zero e h = tt
copies_fine (suc k) e h = (h, copies_fine k e h)

-- copies match the empty text where the part does, or where there are none
abbrev pub none_or : Bool → ℕ → Bool
none_or b zero = true
none_or b (suc k) = b

same_twice : (b : Bool) (k : ℕ) → (b && none_or b k) ≡ b
same_twice true zero = refl
same_twice true (suc k) = refl
same_twice false k = refl

copies_empty : (k : ℕ) (e : Expr) → takes_empty (copies k e) ≡ none_or (takes_empty e) k
copies_empty zero e = refl
copies_empty (suc k) e = ap (λ t. takes_empty e && t) (copies_empty k e) ∙ same_twice (takes_empty e) k

copies_to : (hit : Hits) (k : ℕ) (e : Expr) (s : Text) → Takes hit (copies k e) s → Power (Takes hit e) k s
copies_to hit zero e s h = h
copies_to hit (suc k) e s h =
    split_map (Takes hit e) (Takes hit (copies k e)) (Takes hit e) (Power (Takes hit e) k) (λ t x. x) (copies_to hit k e) s h

copies_from : (hit : Hits) (k : ℕ) (e : Expr) (s : Text) → Power (Takes hit e) k s → Takes hit (copies k e) s
copies_from hit zero e s h = h
copies_from hit (suc k) e s h =
    split_map (Takes hit e) (Power (Takes hit e) k) (Takes hit e) (Takes hit (copies k e)) (λ t x. x) (copies_from hit k e) s h

abbrev pub powered : ℕ → Part → Part
powered k part = record { ops = power k part.ops; empty = none_or part.empty k }

pub powered_so : (hit : Hits) (k : ℕ) (p : Part) (P : Text → Type 0) → Spells hit p P → Spells hit (powered k p) (Power P k)
powered_so hit k p P h = record {
  expr = copies k h.expr;
  is = record {
    ops = ap (power k) h.is.ops ∙ sym (copies_code k h.expr);
    empty = ap (λ b. none_or b k) h.is.empty ∙ sym (copies_empty k h.expr);
    fine = copies_fine k h.expr h.is.fine;
  };
  sound = λ s t. power_map (Takes hit h.expr) P h.sound k s (copies_to hit k h.expr s t);
  complete = λ s t. copies_from hit k h.expr s (power_map P (Takes hit h.expr) h.complete k s t);
}

-- ---- what may be left out

forked_code : (e : Expr) → op.Fork ∷ code false e ++ op.Next ∷ op.Next ∷ op.Join ∷ [] ≡ code false (either e (either blank never))
forked_code e = ap (λ t. op.Fork ∷ t) (sym (append_assoc (code false e) (op.Next ∷ op.Next ∷ []) (op.Join ∷ [])))

optional_of : (hit : Hits) (p : Part) (P : Text → Type 0) (h : Spells hit p P) (b : Bool) → p.empty ≡ b
    → Spells hit (if b then p else record { ops = op.Fork ∷ p.ops ++ op.Next ∷ op.Next ∷ op.Join ∷ []; empty = true }) (Maybe P)
optional_of hit p P h true e = record {
  expr = h.expr;
  is = h.is;
  sound = λ s t. inl (h.sound s t);
  complete = λ s t. elim t [
    | inl a ↦ h.complete s a
    | inr none ↦ subst (Takes hit h.expr) (sym none) (empty_to_takes hit h.expr (sym h.is.empty ∙ e))
  ];
}
optional_of hit p P h false e = record {
  expr = either h.expr (either blank never);
  is = record {
    ops = ap (λ l. op.Fork ∷ l ++ op.Next ∷ op.Next ∷ op.Join ∷ []) h.is.ops ∙ forked_code h.expr;
    empty = sym (ap (λ x. x || true) (sym h.is.empty ∙ e));
    fine = (h.is.fine, (tt, tt, tt), tt);
  };
  sound = λ s t. elim t [
    | inl a ↦ inl (h.sound s a)
    | inr x ↦ elim x [ inl none ↦ inr none | inr nowhere ↦ absurd nowhere ]
  ];
  complete = λ s t. elim t [ inl a ↦ inl (h.complete s a) | inr none ↦ inr (inl none) ];
}

pub optional_so : (hit : Hits) (p : Part) (P : Text → Type 0) → Spells hit p P → Spells hit (optional p) (Maybe P)
optional_so hit p P h = optional_of hit p P h p.empty refl

optional_yes : (p : Part) (b : Bool) → p.empty ≡ b → (if b then p else record { ops = op.Fork ∷ p.ops ++ op.Next ∷ op.Next ∷ op.Join ∷ []; empty = true }).empty ≡ true
optional_yes p true e = e
optional_yes p false e = refl

pub optional_empty : (p : Part) → (optional p).empty ≡ true
optional_empty p = optional_yes p p.empty refl

-- ---- a part without steps matches the empty text alone

pub record Idle (hit : Hits) (e : Expr) : Type 0 where
  pub empty : takes_empty e ≡ true
  pub only : (s : Text) → Takes hit e s → s ≡ []

pub nil_append : (xs ys : List Op) → xs ++ ys ≡ [] → (xs ≡ []) × (ys ≡ [])
nil_append [] ys e = (refl, e)
nil_append (x ∷ xs) ys e = absurd (cc)

pub idle : (hit : Hits) (e : Expr) → code false e ≡ [] → Idle hit e
idle hit (one k) e = absurd (cc)
idle hit blank e = record { empty = refl; only = λ s t. t }
idle hit (both p q) e =
    let parts = nil_append (code false p) (code false q) e in
    let left = idle hit p parts.0 in
    let right = idle hit q parts.1 in
    record {
      empty = ap (λ x. x && takes_empty q) left.empty ∙ right.empty;
      only = λ s t. t.parts ∙ ap (λ x. x ++ t.back) (left.only t.front t.first) ∙ right.only t.back t.second;
    }
idle hit never e = absurd (cc)
idle hit (either p q) e = absurd (cc)
idle hit (loop b p) e = absurd (cc)

-- ---- all steps but the last

pub but_last_of : (ops : List Op) (last : Op) → but_last (ops ++ last ∷ []) ≡ ops
but_last_of ops last =
    let number : length (ops ++ last ∷ []) - 1 ≡ length ops = omega (arith, length-append ops (last ∷ [])) in
    ap (λ n. take n (ops ++ last ∷ [])) number ∙ take-append_seam ops (last ∷ [])
