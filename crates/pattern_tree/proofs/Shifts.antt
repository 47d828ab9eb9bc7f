-- One character is taken rightly: what is left from the new marks on is what was left before, behind
-- that character.
use Rattle.std.proofs.Common.{◌≡◌, ℕ, suc, Bool, true, false, ◌&&◌, ◌||◌, [], ◌∷◌, ◌⊎◌, inl, inr, refl, sym, ap, ◌∙◌, arith}
use Rattle.std.proofs.lemmas.Bool.{or_cases, or_left, or_right, and_parts, and_from, cases_Bool}
use Rattle.pattern_tree.specs.Matching.{Text}
use Rattle.pattern_tree.specs.declared.machine.Wire.{Wire}
use Rattle.pattern_tree.specs.Machine.{wire}
use Rattle.pattern_tree.proofs.Expressions.{Expr, one, blank, both, never, either, loop, Powers, Hits, Takes, takes_empty, Fine, Marks, Rest, final, Good, pass}
use Rattle.pattern_tree.proofs.Finals.{final_on, pass_now}
use Rattle.pattern_tree.proofs.Powers.{nil_split, cut_split, Begun, begun, nil_power, any_number}

-- the empty text is taken only where `takes_empty` says so
pub takes_to_empty : (hit : Hits) (e : Expr) → Fine e → Takes hit e [] → takes_empty e ≡ true
takes_to_empty hit (one k) fine h = let e = h.only in absurd (cc)
takes_to_empty hit blank fine h = refl
takes_to_empty hit (both p q) fine h =
    let parts = nil_split h in
    and_from (takes_empty p) (takes_empty q) (takes_to_empty hit p fine.0 parts.0) (takes_to_empty hit q fine.1 parts.1)
takes_to_empty hit never fine h = absurd h
takes_to_empty hit (either p q) fine h =
    elim h [
      | inl a ↦ or_left (takes_empty p) (takes_empty q) (takes_to_empty hit p fine.0 a)
      | inr b ↦ or_right (takes_empty p) (takes_empty q) (takes_to_empty hit q fine.1 b)
    ]
takes_to_empty hit (loop b p) fine h =
    elim (cases_Bool b) [
      | inl held ↦ held
      | inr none ↦ fine.0 (takes_to_empty hit p fine.1 (nil_power (Takes hit p) h.number (h.enough none) h.texts))
    ]

pub empty_to_takes : (hit : Hits) (e : Expr) → takes_empty e ≡ true → Takes hit e []
empty_to_takes hit (one k) h = absurd (cc)
empty_to_takes hit blank h = refl
empty_to_takes hit (both p q) h = record {
  front = [];
  back = [];
  parts = refl;
  first = empty_to_takes hit p (and_parts (takes_empty p) (takes_empty q) h).0;
  second = empty_to_takes hit q (and_parts (takes_empty p) (takes_empty q) h).1;
}
empty_to_takes hit never h = absurd (cc)
empty_to_takes hit (either p q) h =
    elim (or_cases (takes_empty p) (takes_empty q) h) [
      | inl a ↦ inl (empty_to_takes hit p a)
      | inr b ↦ inr (empty_to_takes hit q b)
    ]
empty_to_takes hit (loop b p) h = record { number = 0; enough = λ f. absurd (cc); texts = refl }

-- what reaches the end without the wire reaches it with the wire
pub final_more : (e : Expr) (m : Marks e) (x : Bool) → final e m false ≡ true → final e m x ≡ true
final_more e m true h = final_on e m ∙ or_left (final e m false) (takes_empty e) h
final_more e m false h = h

pub final_through : (e : Expr) (m : Marks e) (x : Bool) → x ≡ true → takes_empty e ≡ true → final e m x ≡ true
final_through e m true h t = final_on e m ∙ or_right (final e m false) (takes_empty e) t
final_through e m false h t = absurd (cc)

-- the end is reached exactly where nothing is left
pub rest_to_final : (hit : Hits) (e : Expr) (m : Marks e) → Fine e → Rest hit e m [] → final e m false ≡ true
rest_to_final hit (one k) m fine h = h.0
rest_to_final hit blank m fine h = absurd h
rest_to_final hit (both p q) m fine h =
    elim h [
      | inl split ↦ let parts = nil_split split in
          final_through q m.1 (final p m.0 false) (rest_to_final hit p m.0 fine.0 parts.0) (takes_to_empty hit q fine.1 parts.1)
      | inr b ↦ final_more q m.1 (final p m.0 false) (rest_to_final hit q m.1 fine.1 b)
    ]
rest_to_final hit never m fine h = absurd h
rest_to_final hit (either p q) m fine h =
    elim h [
      | inl a ↦ or_left (final p m.0 false) (final q m.1 false) (rest_to_final hit p m.0 fine.0 a)
      | inr b ↦ or_right (final p m.0 false) (final q m.1 false) (rest_to_final hit q m.1 fine.1 b)
    ]
rest_to_final hit (loop b p) m fine h =
    or_left (final p m.1 false) (b && false) (rest_to_final hit p m.1 fine.1 (nil_split h).0)

-- the end is reached by the marks, or through the empty text
pub final_cases : (e : Expr) (m : Marks e) (x : Bool) → final e m x ≡ true → (final e m false ≡ true) ⊎ ((x ≡ true) × (takes_empty e ≡ true))
final_cases e m true h =
    elim (or_cases (final e m false) (takes_empty e) (sym (final_on e m) ∙ h)) [ inl a ↦ inl a | inr b ↦ inr (refl, b) ]
final_cases e m false h = inl h

pub final_to_rest : (hit : Hits) (e : Expr) (m : Marks e) → final e m false ≡ true → Rest hit e m []
final_to_rest hit (one k) m h = (h, refl)
final_to_rest hit blank m h = absurd (cc)
final_to_rest hit (both p q) m h =
    elim (final_cases q m.1 (final p m.0 false) h) [
      | inl a ↦ inr (final_to_rest hit q m.1 a)
      | inr b ↦ inl (record { front = []; back = []; parts = refl; first = final_to_rest hit p m.0 b.0; second = empty_to_takes hit q b.1 })
    ]
final_to_rest hit never m h = absurd (cc)
final_to_rest hit (either p q) m h =
    elim (or_cases (final p m.0 false) (final q m.1 false) h) [
      | inl a ↦ inl (final_to_rest hit p m.0 a)
      | inr b ↦ inr (final_to_rest hit q m.1 b)
    ]
final_to_rest hit (loop b p) m h =
    elim (or_cases (final p m.1 false) (b && false) h) [
      | inl a ↦ record { front = []; back = []; parts = refl; first = final_to_rest hit p m.1 a; second = record { number = 0; enough = any_number 0; texts = refl } }
      | inr c ↦ let no = (and_parts b false c).1 in absurd (cc)
    ]

-- what is left from the marks on, or from the beginning where the wire is on
abbrev pub From : Hits → (e : Expr) → Marks e → Bool → Text → Type 0
From hit e m now s = Rest hit e m s ⊎ ((now ≡ true) × Takes hit e s)

pub shift_to : (hit : Hits) (c : ℕ) (e : Expr) (m : Marks e) (w : Wire) (s : Text) → Fine e → Good e m → Rest hit e (pass (λ k. hit k c) e m w).marks s → From hit e m w.now (c ∷ s)
shift_to hit c (one k) m w s fine good h =
    inr ((and_parts w.now (hit k c) h.0).0, record { c = c; only = ap (λ t. c ∷ t) h.1; holds = (and_parts w.now (hit k c) h.0).1 })
shift_to hit c blank m w s fine good h = absurd h
shift_to hit c (both p q) m w s fine good h =
    let r = pass (λ k. hit k c) p m.0 w in
    elim h [
      | inl split ↦ elim (shift_to hit c p m.0 w split.front fine.0 good.0 split.first) [
        | inl a ↦ inl (inl (record { front = c ∷ split.front; back = split.back; parts = ap (λ t. c ∷ t) split.parts; first = a; second = split.second }))
        | inr b ↦ inr (b.0, record { front = c ∷ split.front; back = split.back; parts = ap (λ t. c ∷ t) split.parts; first = b.1; second = split.second })
      ]
      | inr rest ↦ elim (shift_to hit c q m.1 r.out s fine.1 good.1 rest) [
        | inl a ↦ inl (inr a)
        | inr b ↦ elim (final_cases p m.0 w.now (sym (pass_now (λ k. hit k c) p m.0 w fine.0 good.0) ∙ b.0)) [
          | inl ended ↦ inl (inl (record { front = []; back = c ∷ s; parts = refl; first = final_to_rest hit p m.0 ended; second = b.1 }))
          | inr through ↦ inr (through.0, record { front = []; back = c ∷ s; parts = refl; first = empty_to_takes hit p through.1; second = b.1 })
        ]
      ]
    ]
shift_to hit c never m w s fine good h = absurd h
shift_to hit c (either p q) m w s fine good h =
    elim h [
      | inl a ↦ elim (shift_to hit c p m.0 w s fine.0 good.0 a) [ inl x ↦ inl (inl x) | inr y ↦ inr (y.0, inl y.1) ]
      | inr b ↦ elim (shift_to hit c q m.1 w s fine.1 good.1 b) [ inl x ↦ inl (inr x) | inr y ↦ inr (y.0, inr y.1) ]
    ]
shift_to hit c (loop b p) m w s fine good h =
    let longer : (empty : Bool) → Takes hit p (c ∷ h.front) → Powers empty (Takes hit p) (c ∷ s) = λ empty first. record {
      number = suc h.second.number;
      enough = λ _. omega arith;
      texts = record { front = c ∷ h.front; back = h.back; parts = ap (λ t. c ∷ t) h.parts; first = first; second = h.second.texts };
    } in
    elim (shift_to hit c p m.1 (wire (w.now || m.0) false) h.front fine.1 good.1 h.first) [
      | inl a ↦ inl (record { front = c ∷ h.front; back = h.back; parts = ap (λ t. c ∷ t) h.parts; first = a; second = h.second })
      | inr d ↦ elim (or_cases w.now m.0 d.0) [
        | inl now ↦ inr (now, longer b d.1)
        | inr ended ↦ inl (record { front = []; back = c ∷ s; parts = refl; first = final_to_rest hit p m.1 (sym good.0 ∙ ended); second = longer true d.1 })
      ]
    ]

-- a first character and what follows, in a repeat
again : (hit : Hits) (c : ℕ) (b : Bool) (p : Expr) (m : Marks (loop b p)) (w : Wire) (s : Text)
    → ((t : Text) → From hit p m.1 (w.now || m.0) (c ∷ t) → Rest hit p (pass (λ k. hit k c) p m.1 (wire (w.now || m.0) false)).marks t)
    → (w.now || m.0) ≡ true → Begun (Takes hit p) c s → Rest hit (loop b p) (pass (λ k. hit k c) (loop b p) m w).marks s
again hit c b p m w s ih on h = record {
  front = h.front;
  back = h.back;
  parts = h.parts;
  first = ih h.front (inr (on, h.first));
  second = record { number = h.number; enough = any_number h.number; texts = h.others };
}

pub shift_from : (hit : Hits) (c : ℕ) (e : Expr) (m : Marks e) (w : Wire) (s : Text) → Fine e → Good e m → From hit e m w.now (c ∷ s) → Rest hit e (pass (λ k. hit k c) e m w).marks s
shift_from hit c (one k) m w s fine good h =
    elim h [
      | inl a ↦ let e = a.1 in absurd (cc)
      | inr t ↦ let e = t.1.only in
          let head : t.1.c ≡ c = cc in
          let tail : s ≡ [] = cc in
          (and_from w.now (hit k c) t.0 (sym (ap (λ d. hit k d) head) ∙ t.1.holds), tail)
    ]
shift_from hit c blank m w s fine good h = elim h [ inl a ↦ absurd a | inr t ↦ let e = t.1 in absurd (cc) ]
shift_from hit c (both p q) m w s fine good h =
    let r = pass (λ k. hit k c) p m.0 w in
    let now = pass_now (λ k. hit k c) p m.0 w fine.0 good.0 in
    elim h [
      | inl x ↦ elim x [
        | inl split ↦ elim (cut_split (Rest hit p m.0) (Takes hit q) c s split) [
          | inl a ↦ inr (shift_from hit c q m.1 r.out s fine.1 good.1 (inr (now ∙ final_more p m.0 w.now (rest_to_final hit p m.0 fine.0 a.0), a.1)))
          | inr d ↦ inl (record { front = d.front; back = d.back; parts = d.parts; first = shift_from hit c p m.0 w d.front fine.0 good.0 (inl d.first); second = d.second })
        ]
        | inr rest ↦ inr (shift_from hit c q m.1 r.out s fine.1 good.1 (inl rest))
      ]
      | inr t ↦ elim (cut_split (Takes hit p) (Takes hit q) c s t.1) [
        | inl a ↦ inr (shift_from hit c q m.1 r.out s fine.1 good.1 (inr (now ∙ final_through p m.0 w.now t.0 (takes_to_empty hit p fine.0 a.0), a.1)))
        | inr d ↦ inl (record { front = d.front; back = d.back; parts = d.parts; first = shift_from hit c p m.0 w d.front fine.0 good.0 (inr (t.0, d.first)); second = d.second })
      ]
    ]
shift_from hit c never m w s fine good h = elim h [ inl a ↦ absurd a | inr t ↦ absurd t.1 ]
shift_from hit c (either p q) m w s fine good h =
    elim h [
      | inl x ↦ elim x [
        | inl a ↦ inl (shift_from hit c p m.0 w s fine.0 good.0 (inl a))
        | inr b ↦ inr (shift_from hit c q m.1 w s fine.1 good.1 (inl b))
      ]
      | inr t ↦ elim t.1 [
        | inl a ↦ inl (shift_from hit c p m.0 w s fine.0 good.0 (inr (t.0, a)))
        | inr b ↦ inr (shift_from hit c q m.1 w s fine.1 good.1 (inr (t.0, b)))
      ]
    ]
shift_from hit c (loop b p) m w s fine good h =
    let inner = wire (w.now || m.0) false in
    let ih : (t : Text) → From hit p m.1 (w.now || m.0) (c ∷ t) → Rest hit p (pass (λ k. hit k c) p m.1 inner).marks t =
    λ t f. shift_from hit c p m.1 inner t fine.1 good.1 f in
    elim h [
      | inl split ↦ elim (cut_split (Rest hit p m.1) (Powers true (Takes hit p)) c s split) [
        | inl a ↦ again hit c b p m w s ih (or_right w.now m.0 (good.0 ∙ rest_to_final hit p m.1 fine.1 a.0)) (begun (Takes hit p) a.1.number c s a.1.texts)
        | inr d ↦ record { front = d.front; back = d.back; parts = d.parts; first = ih d.front (inl d.first); second = d.second }
      ]
      | inr t ↦ again hit c b p m w s ih (or_left w.now m.0 t.0) (begun (Takes hit p) t.1.number c s t.1.texts)
    ]
