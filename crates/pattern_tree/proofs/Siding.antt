-- An alternation matches what one of its sides matches.
use Rattle.std.proofs.Common.{◌≡◌, Bool, true, false, ◌&&◌, ◌||◌, ◌==◌, [], ◌∷◌, ◌++◌, ◌⊎◌, inl, inr, length, refl, sym, ap, ◌∙◌, subst, append_assoc, if◌then◌else◌}
use Rattle.std.proofs.Math.Bool.{or-false, or_assoc}
use Rattle.std.proofs.lemmas.Bool.{eqb-true}
use Rattle.std.proofs.lemmas.List.{append-nil, nil_from_length}
use Rattle.pattern_tree.specs.Matching.{Text}
use Rattle.pattern_tree.specs.declared.program.Op.TheVariants as op
use Rattle.pattern_tree.specs.declared.program.Part.{Part}
use Rattle.pattern_tree.specs.declared.program.Sides.{Sides}
use Rattle.pattern_tree.specs.Programs.{nothing, forked, gathered, no_sides, but_last, optional, only, alternated}
use Rattle.pattern_tree.proofs.Expressions.{Expr, one, blank, both, never, either, loop, Hits, Takes, takes_empty, Lined, Fine}
use Rattle.pattern_tree.proofs.Joins.{Maybe}
use Rattle.pattern_tree.proofs.Runs.{code}
use Rattle.pattern_tree.proofs.Shifts.{empty_to_takes}
use Rattle.pattern_tree.proofs.Spelling.{Spells, nothing_so, changed, optional_so, idle, nil_append, but_last_of}

-- one more side behind the others
abbrev add : Expr → Expr → Expr
add (one k) e = never
add blank e = never
add (both p q) e = never
add never e = either e never
add (either p q) e = either p (add q e)
add (loop b p) e = never

add_code : (x e : Expr) → Lined x → code true (add x e) ≡ code true x ++ (code false e ++ op.Next ∷ [])
add_code (one k) e h = absurd h
add_code blank e h = absurd h
add_code (both p q) e h = absurd h
add_code never e h = refl
add_code (either p q) e h =
    ap (λ t. code false p ++ op.Next ∷ t) (add_code q e h) ∙ sym (append_assoc (code false p) (op.Next ∷ code true q) (code false e ++ op.Next ∷ []))
add_code (loop b p) e h = absurd h

add_lined : (x e : Expr) → Lined x → Lined (add x e)
add_lined (one k) e h = absurd h
add_lined blank e h = absurd h
add_lined (both p q) e h = absurd h
add_lined never e h = tt
add_lined (either p q) e h = add_lined q e h
add_lined (loop b p) e h = absurd h

add_fine : (x e : Expr) → Lined x → Fine x → Fine e → Fine (add x e)
add_fine (one k) e h f g = absurd h
add_fine blank e h f g = absurd h
add_fine (both p q) e h f g = absurd h
add_fine never e h f g = (g, tt, tt)
add_fine (either p q) e h f g = (f.0, add_fine q e h f.1 g, add_lined q e h)
add_fine (loop b p) e h f g = absurd h

add_empty : (x e : Expr) → Lined x → takes_empty (add x e) ≡ (takes_empty x || takes_empty e)
add_empty (one k) e h = absurd h
add_empty blank e h = absurd h
add_empty (both p q) e h = absurd h
add_empty never e h = or-false (takes_empty e)
add_empty (either p q) e h =
    ap (λ t. takes_empty p || t) (add_empty q e h) ∙ sym (or_assoc (takes_empty p) (takes_empty q) (takes_empty e))
add_empty (loop b p) e h = absurd h

add_to : (hit : Hits) (x e : Expr) → Lined x → (s : Text) → Takes hit (add x e) s → Takes hit x s ⊎ Takes hit e s
add_to hit (one k) e h s t = absurd h
add_to hit blank e h s t = absurd h
add_to hit (both p q) e h s t = absurd h
add_to hit never e h s t = elim t [ inl a ↦ inr a | inr b ↦ absurd b ]
add_to hit (either p q) e h s t =
    elim t [
      | inl a ↦ inl (inl a)
      | inr b ↦ elim (add_to hit q e h s b) [ inl x ↦ inl (inr x) | inr y ↦ inr y ]
    ]
add_to hit (loop b p) e h s t = absurd h

add_from : (hit : Hits) (x e : Expr) → Lined x → (s : Text) → Takes hit x s ⊎ Takes hit e s → Takes hit (add x e) s
add_from hit (one k) e h s t = absurd h
add_from hit blank e h s t = absurd h
add_from hit (both p q) e h s t = absurd h
add_from hit never e h s t = elim t [ inl a ↦ absurd a | inr b ↦ inl b ]
add_from hit (either p q) e h s t =
    elim t [
      | inl x ↦ elim x [ inl a ↦ inl a | inr b ↦ inr (add_from hit q e h s (inl b)) ]
      | inr y ↦ inr (add_from hit q e h s (inr y))
    ]
add_from hit (loop b p) e h s t = absurd h

-- one side alone
abbrev pub Single : Expr → Type 0
Single x = (p : Expr) × (x ≡ either p never)

-- the first side is alone
add_first : (x e : Expr) → Lined x → code true x ≡ [] → Single (add x e)
add_first (one k) e h f = absurd h
add_first blank e h f = absurd h
add_first (both p q) e h f = absurd h
add_first never e h f = (e, refl)
add_first (either p q) e h f =
    let parts = nil_append (code false p) (op.Next ∷ code true q) f in let none = parts.1 in absurd (cc)
add_first (loop b p) e h f = absurd h

-- the sides read so far, as an expression; one without steps is noted apart
pub record Gathers (hit : Hits) (sides : Sides) (P : Text → Type 0) : Type 0 where
  pub expr : Expr
  pub lined : Lined expr
  pub fine : Fine expr
  pub ops : sides.ops ≡ code true expr
  pub empty : sides.empty ≡ takes_empty expr
  pub single : sides.alone ≡ true → Single expr
  pub sound : (s : Text) → Takes hit expr s → P s
  pub noted : sides.blank ≡ true → P []
  pub complete : (s : Text) → P s → Takes hit expr s ⊎ ((sides.blank ≡ true) × (s ≡ []))

pub no_sides_so : (hit : Hits) → Gathers hit no_sides (λ s. ⊥)
no_sides_so hit = record {
  expr = never;
  lined = tt;
  fine = tt;
  ops = refl;
  empty = refl;
  single = λ e. absurd (cc);
  sound = λ s t. t;
  noted = λ e. absurd (cc);
  complete = λ s t. absurd t;
}

gathered_by : (hit : Hits) (sides : Sides) (side : Part) (P Q : Text → Type 0) (b : Bool) → (length side.ops == 0) ≡ b → Gathers hit sides P → Spells hit side Q
    → Gathers hit (if b then record sides { blank = true } else record { ops = sides.ops ++ side.ops ++ op.Next ∷ []; empty = sides.empty || side.empty; blank = sides.blank; alone = length sides.ops == 0 }) (λ s. P s ⊎ Q s)
gathered_by hit sides side P Q true e g h =
    let none : side.ops ≡ [] = nil_from_length side.ops (eqb-true (length side.ops) 0 e) in
    let rest = idle hit h.expr (sym h.is.ops ∙ none) in
    record {
      expr = g.expr;
      lined = g.lined;
      fine = g.fine;
      ops = g.ops;
      empty = g.empty;
      single = g.single;
      sound = λ s t. inl (g.sound s t);
      noted = λ f. inr (h.sound [] (empty_to_takes hit h.expr rest.empty));
      complete = λ s t. elim t [
        | inl p ↦ elim (g.complete s p) [ inl x ↦ inl x | inr y ↦ inr (refl, y.1) ]
        | inr q ↦ inr (refl, rest.only s (h.complete s q))
      ];
    }
gathered_by hit sides side P Q false e g h = record {
  expr = add g.expr h.expr;
  lined = add_lined g.expr h.expr g.lined;
  fine = add_fine g.expr h.expr g.lined g.fine h.is.fine;
  ops = append_assoc sides.ops side.ops (op.Next ∷ []) ∙ ap (λ l. l ++ (side.ops ++ op.Next ∷ [])) g.ops ∙ ap (λ l. code true g.expr ++ (l ++ op.Next ∷ [])) h.is.ops ∙ sym (add_code g.expr h.expr g.lined);
  empty = ap (λ b. b || side.empty) g.empty ∙ ap (λ b. takes_empty g.expr || b) h.is.empty ∙ sym (add_empty g.expr h.expr g.lined);
  single = λ f. add_first g.expr h.expr g.lined (sym g.ops ∙ nil_from_length sides.ops (eqb-true (length sides.ops) 0 f));
  sound = λ s t. elim (add_to hit g.expr h.expr g.lined s t) [ inl x ↦ inl (g.sound s x) | inr y ↦ inr (h.sound s y) ];
  noted = λ f. inl (g.noted f);
  complete = λ s t. elim t [
    | inl p ↦ elim (g.complete s p) [ inl x ↦ inl (add_from hit g.expr h.expr g.lined s (inl x)) | inr y ↦ inr y ]
    | inr q ↦ inl (add_from hit g.expr h.expr g.lined s (inr (h.complete s q)))
  ];
}

pub gathered_so : (hit : Hits) (sides : Sides) (side : Part) (P Q : Text → Type 0) → Gathers hit sides P → Spells hit side Q → Gathers hit (gathered sides side) (λ s. P s ⊎ Q s)
gathered_so hit sides side P Q g h = gathered_by hit sides side P Q (length side.ops == 0) refl g h

-- an alternation is its sides in a fork
lined_code : (x : Expr) → Lined x → code false x ≡ op.Fork ∷ code true x ++ op.Join ∷ []
lined_code (one k) h = absurd h
lined_code blank h = absurd h
lined_code (both p q) h = absurd h
lined_code never h = refl
lined_code (either p q) h = refl
lined_code (loop b p) h = absurd h

-- sides without steps are none
lined_never : (hit : Hits) (x : Expr) → Lined x → code true x ≡ [] → (s : Text) → Takes hit x s → ⊥
lined_never hit (one k) h e s t = h
lined_never hit blank h e s t = h
lined_never hit (both p q) h e s t = h
lined_never hit never h e s t = t
lined_never hit (either p q) h e s t = let parts = nil_append (code false p) (op.Next ∷ code true q) e in let f = parts.1 in absurd (cc)
lined_never hit (loop b p) h e s t = h

forked_by : (hit : Hits) (sides : Sides) (P : Text → Type 0) (b : Bool) → sides.blank ≡ b → Gathers hit sides P
    → Spells hit (record { ops = op.Fork ∷ sides.ops ++ (if b then op.Next ∷ [] else []) ++ op.Join ∷ []; empty = sides.empty || b }) P
forked_by hit sides P true e g =
    let x = add g.expr blank in
    record {
      expr = x;
      is = record {
        ops = ap (λ l. op.Fork ∷ (l ++ op.Next ∷ []) ++ op.Join ∷ []) g.ops
            ∙ ap (λ l. op.Fork ∷ l ++ op.Join ∷ []) (sym (add_code g.expr blank g.lined))
            ∙ sym (lined_code x (add_lined g.expr blank g.lined));
        empty = ap (λ b. b || true) g.empty ∙ sym (add_empty g.expr blank g.lined);
        fine = add_fine g.expr blank g.lined g.fine tt;
      };
      sound = λ s t. elim (add_to hit g.expr blank g.lined s t) [ inl a ↦ g.sound s a | inr none ↦ subst P (sym none) (g.noted e) ];
      complete = λ s p. elim (g.complete s p) [
        | inl a ↦ add_from hit g.expr blank g.lined s (inl a)
        | inr b ↦ add_from hit g.expr blank g.lined s (inr b.1)
      ];
    }
forked_by hit sides P false e g = record {
  expr = g.expr;
  is = record {
    ops = ap (λ l. op.Fork ∷ l ++ op.Join ∷ []) (append-nil sides.ops) ∙ ap (λ l. op.Fork ∷ l ++ op.Join ∷ []) g.ops ∙ sym (lined_code g.expr g.lined);
    empty = or-false sides.empty ∙ g.empty;
    fine = g.fine;
  };
  sound = g.sound;
  complete = λ s p. elim (g.complete s p) [ inl a ↦ a | inr b ↦ let f : true ≡ false = sym b.0 ∙ e in absurd (cc) ];
}

-- one side alone: its own texts, and the empty one where a side without steps stands beside it
abbrev side_of : Sides → Part
side_of sides = record { ops = but_last sides.ops; empty = sides.empty }

side_so : (hit : Hits) (sides : Sides) (P : Text → Type 0) (g : Gathers hit sides P) (p : Expr) → g.expr ≡ either p never → Spells hit (side_of sides) (Takes hit p)
side_so hit sides P g p e = record {
  expr = p;
  is = record {
    ops = ap but_last (g.ops ∙ ap (code true) e) ∙ but_last_of (code false p) op.Next;
    empty = g.empty ∙ ap takes_empty e ∙ or-false (takes_empty p);
    fine = (subst Fine e g.fine).0;
  };
  sound = λ s t. t;
  complete = λ s t. t;
}

only_by : (hit : Hits) (sides : Sides) (P : Text → Type 0) (b : Bool) → sides.blank ≡ b → (g : Gathers hit sides P) (p : Expr) → g.expr ≡ either p never
    → Spells hit (if b then optional (side_of sides) else side_of sides) P
only_by hit sides P true f g p e =
    changed hit (optional (side_of sides)) (Maybe (Takes hit p)) P
    (λ s t. elim t [
      | inl a ↦ g.sound s (subst (λ x. Takes hit x s) (sym e) (inl a))
      | inr none ↦ subst P (sym none) (g.noted f)
    ])
    (λ s t. elim (g.complete s t) [
      | inl a ↦ elim (subst (λ x. Takes hit x s) e a) [ inl x ↦ inl x | inr nowhere ↦ absurd nowhere ]
      | inr c ↦ inr c.1
    ])
    (optional_so hit (side_of sides) (Takes hit p) (side_so hit sides P g p e))
only_by hit sides P false f g p e =
    changed hit (side_of sides) (Takes hit p) P
    (λ s t. g.sound s (subst (λ x. Takes hit x s) (sym e) (inl t)))
    (λ s t. elim (g.complete s t) [
      | inl a ↦ elim (subst (λ x. Takes hit x s) e a) [ inl x ↦ x | inr nowhere ↦ absurd nowhere ]
      | inr c ↦ let no : true ≡ false = sym c.0 ∙ f in absurd (cc)
    ])
    (side_so hit sides P g p e)

alternated_by : (hit : Hits) (sides : Sides) (P : Text → Type 0) (a b i : Bool) → sides.alone ≡ a → sides.blank ≡ b → (length sides.ops == 0) ≡ i → Gathers hit sides P
    → Spells hit (if a then only sides else if b && i then nothing else forked sides) P
alternated_by hit sides P true b i d e f g =
    let one = g.single d in only_by hit sides P sides.blank refl g one.0 one.1
alternated_by hit sides P false true true d e f g =
    let none : sides.ops ≡ [] = nil_from_length sides.ops (eqb-true (length sides.ops) 0 f) in
    changed hit nothing (λ s. s ≡ []) P
    (λ s t. subst P (sym t) (g.noted e))
    (λ s p. elim (g.complete s p) [ inl a ↦ absurd (lined_never hit g.expr g.lined (sym g.ops ∙ none) s a) | inr b ↦ b.1 ])
    (nothing_so hit)
alternated_by hit sides P false true false d e f g = forked_by hit sides P sides.blank refl g
alternated_by hit sides P false false i d e f g = forked_by hit sides P sides.blank refl g

pub alternated_so : (hit : Hits) (sides : Sides) (P : Text → Type 0) → Gathers hit sides P → Spells hit (alternated sides) P
alternated_so hit sides P g =
    alternated_by hit sides P sides.alone sides.blank (length sides.ops == 0) refl refl refl g

pub gathers_changed : (hit : Hits) (sides : Sides) (P Q : Text → Type 0) → ((s : Text) → P s → Q s) → ((s : Text) → Q s → P s) → Gathers hit sides P → Gathers hit sides Q
gathers_changed hit sides P Q f g h = record {
  expr = h.expr;
  lined = h.lined;
  fine = h.fine;
  ops = h.ops;
  empty = h.empty;
  single = h.single;
  sound = λ s t. f s (h.sound s t);
  noted = λ e. f [] (h.noted e);
  complete = λ s q. h.complete s (g s q);
}
