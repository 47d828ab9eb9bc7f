-- Repeats: what is read is spelled so, and what is spelled so is read.
use Rattle.std.proofs.Common.{◌≡◌, ℕ, ◌-◌, ◌<◌, ◌≤◌, Bool, true, false, cond, eqb, List, [], ◌∷◌, length, Option, Some, None, Ok, refl, sym, ap, ◌∙◌, subst, inl, inr, arith}
use Rattle.std.specs.Prelude.{nat_le, ◌||◌}
use Rattle.std.proofs.lemmas.Bool.{eqb-true, or_parts}
use Rattle.std.proofs.lemmas.Bool.Decides.{nat_tests}
use Rattle.reading.specs.Reading.{Text, Refused, ◌>>=◌, refuse}
use Rattle.reading.specs.Runs.{begins, run}
use Rattle.reading.proofs.RunLaws.{run_is, run_only, run_shorter}
use Rattle.reading.proofs.Tools.{bound as steps, kept, chosen, ok_is, tested}
use Rattle.pattern_tree.specs.declared.tree.Times.{Times}
use Rattle.xsd_pattern.specs.declared.fault.PatternCause.{PatternCause}
use Rattle.xsd_pattern.specs.declared.fault.PatternCause.TheVariants.{Syntax, TooManyRepeats}
use Rattle.xsd_pattern.specs.Characters.{is_digit}
use Rattle.xsd_pattern.specs.Repeats.{times, most_repeats, number_from, number, bound, closed, behind_comma, behind_bound, braces, some_times, repeat_here}
use Rattle.xsd_pattern.specs.Grammar.{Bound, IsTimes}

-- ---- bounds

-- a bound that was read, of at most 1,000
number_is : (at : Text) (n : ℕ) (r : List ℕ × Text) (m : ℕ) (u : Text) → number at n r ≡ Ok (m, u) → (number_from n r.0 ≤ most_repeats) × (number_from n r.0 ≡ m) × (r.1 ≡ u)
unfolding number
number_is at n r m u e =
    let h = kept (nat_le (number_from n r.0) most_repeats) (Ok (number_from n r.0, r.1)) TooManyRepeats at (m, u) e in
    let same = ok_is {E = Refused PatternCause} (number_from n r.0, r.1) (m, u) h.1 in
    let small : number_from n r.0 ≤ 1000 = let is = h.0 in grind (arith, nat_tests) in
    (small, ap (λ (x : ℕ × Text). x.0) same, ap (λ (x : ℕ × Text). x.1) same)

bound_as : (t : Text) (n m : ℕ) (u w : Text) → n ≡ m → u ≡ w → Bound t n u → Bound t m w
bound_as t n m u w e f b = subst (λ (x : ℕ). Bound t x w) e (subst (λ (v : Text). Bound t n v) f b)

bound_sound : (at t : Text) (n : ℕ) (u : Text) → bound at t ≡ Ok (n, u) → Bound t n u
unfolding bound
bound_sound at [] n u e = absurd cc
bound_sound at (c ∷ t) n u e =
    let k = kept (is_digit c) (number at (c - 48) (run is_digit t)) Syntax (c ∷ t) (n, u) e in
    let m = number_is at (c - 48) (run is_digit t) n u k.1 in
    bound_as (c ∷ t) (number_from (c - 48) (run is_digit t).0) n (run is_digit t).1 u m.1 m.2
    (Bound.bound c t (run is_digit t).0 (run is_digit t).1 k.0 (run_is is_digit t) m.0)

bound_complete : {t : Text} {n : ℕ} {u : Text} (at : Text) → Bound t n u → bound at t ≡ Ok (n, u)
unfolding bound number
bound_complete at (Bound.bound c t ds u is r small) =
    let few : nat_le (number_from (c - 48) ds) most_repeats ≡ true = grind (arith, nat_tests) in
    rw (is, run_only r, few) refl

bound_shorter : {t : Text} {n : ℕ} {u : Text} → Bound t n u → length u < length t
bound_shorter (Bound.bound c t ds u is r small) = omega (arith, run_shorter r)

-- a bound begins with a digit, so not with the closing brace
bound_goes_on : {t : Text} {m : ℕ} {u : Text} (at : Text) (n : ℕ) → Bound t m u → behind_comma at n t ≡ (bound at t >>= λ m. closed at n m.0 m.1)
unfolding behind_comma
bound_goes_on at n (Bound.bound c t ds u is r small) =
    let other : eqb c 125 ≡ false = grind (arith, nat_tests) in
    rw other refl

-- ---- repeats

abbrev Timed : Type 0
Timed = Times × Text

closed_is : (at : Text) (n m : ℕ) (t : Text) (x : Timed) → closed at n m t ≡ Ok x → (t ≡ 125 ∷ x.1) × (n ≤ m) × (x.0 ≡ times n (Some m))
unfolding closed
closed_is at n m [] x e = absurd cc
closed_is at n m (c ∷ t) x e =
    let k = kept (eqb c 125) (cond (nat_le n m) (Ok (times n (Some m), t)) (refuse Syntax at)) Syntax (c ∷ t) x e in
    let h = kept (nat_le n m) (Ok (times n (Some m), t)) Syntax at x k.1 in
    let same = ok_is {E = Refused PatternCause} (times n (Some m), t) x h.1 in
    let le : n ≤ m = let is = h.0 in grind (arith, nat_tests) in
    (ap (λ (a : ℕ). a ∷ t) (eqb-true c 125 k.0) ∙ ap (λ (y : Timed). 125 ∷ y.1) same, le, sym (ap (λ (y : Timed). y.0) same))

as_read : (t : Text) (x y : Timed) → IsTimes t x.0 x.1 → x ≡ y → IsTimes t y.0 y.1
as_read t x y is e = subst (λ (z : Timed). IsTimes t z.0 z.1) e is

comma_sound : (at t : Text) (n : ℕ) (r : Text) (x : Timed) → Bound t n (44 ∷ r) → behind_comma at n r ≡ Ok x → IsTimes (123 ∷ t) x.0 x.1
unfolding behind_comma
comma_sound at t n [] x b e = absurd cc
comma_sound at t n (c ∷ r) x b e =
    elim (chosen (eqb c 125) (Ok (times n None, r)) (bound at (c ∷ r) >>= λ m. closed at n m.0 m.1) (Ok x) e) [
      | inl h ↦
          let here = subst (λ (a : ℕ). Bound t n (44 ∷ a ∷ r)) (eqb-true c 125 h.0) b in
          as_read (123 ∷ t) (times n None, r) x (IsTimes.at_least t n r here) (ok_is {E = Refused PatternCause} (times n None, r) x h.1)
      | inr h ↦
          let s = steps {r = bound at (c ∷ r)} h.1 in
          let k = closed_is at n s.0.0 s.0.1 x s.2 in
          let more = subst (λ (v : Text). Bound (c ∷ r) s.0.0 v) k.0 (bound_sound at (c ∷ r) s.0.0 s.0.1 s.1) in
          rw k.2 (IsTimes.between t n (c ∷ r) s.0.0 x.1 b more k.1)
    ]

behind_sound : (at t : Text) (n : ℕ) (r : Text) (x : Timed) → Bound t n r → behind_bound at n r ≡ Ok x → IsTimes (123 ∷ t) x.0 x.1
unfolding behind_bound
behind_sound at t n [] x b e = absurd cc
behind_sound at t n (c ∷ r) x b e =
    elim (chosen (eqb c 125) (Ok (times n (Some n), r)) (cond (eqb c 44) (behind_comma at n r) (refuse Syntax (c ∷ r))) (Ok x) e) [
      | inl h ↦
          let here = subst (λ (a : ℕ). Bound t n (a ∷ r)) (eqb-true c 125 h.0) b in
          as_read (123 ∷ t) (times n (Some n), r) x (IsTimes.exactly t n r here) (ok_is {E = Refused PatternCause} (times n (Some n), r) x h.1)
      | inr h ↦
          let k = kept (eqb c 44) (behind_comma at n r) Syntax (c ∷ r) x h.1 in
          let here = subst (λ (a : ℕ). Bound t n (a ∷ r)) (eqb-true c 44 k.0) b in
          comma_sound at t n r x here k.1
    ]

braces_sound : (at t : Text) (x : Timed) → braces at t ≡ Ok x → IsTimes (123 ∷ t) x.0 x.1
unfolding braces
braces_sound at t x e =
    let s = steps {r = bound at t} e in
    behind_sound at t s.0.0 s.0.1 x (bound_sound at t s.0.0 s.0.1 s.1) s.2

-- what stands here: no repeat, or this one
abbrev pub Here : Text → Option Times → Text → Type 0
Here t None u = t ≡ u
Here t (Some n) u = IsTimes t n u

abbrev Found : Type 0
Found = Option Times × Text

as_found : (t : Text) (x y : Found) → Here t x.0 x.1 → x ≡ y → Here t y.0 y.1
as_found t x y is e = subst (λ (z : Found). Here t z.0 z.1) e is

as_is : (c n : ℕ) (t : Text) (x : Times) → eqb c n ≡ true → IsTimes (n ∷ t) x t → IsTimes (c ∷ t) x t
as_is c n t x e is = subst (λ (d : ℕ). IsTimes (d ∷ t) x t) (sym (eqb-true c n e)) is

braces_here : (c : ℕ) (t : Text) (y : Found) → eqb c 123 ≡ true → (braces (c ∷ t) t >>= some_times) ≡ Ok y → Here (c ∷ t) y.0 y.1
braces_here c t y is e =
    let s = steps {r = braces (c ∷ t) t} e in
    let same = ok_is {E = Refused PatternCause} (Some s.0.0, s.0.1) y s.2 in
    let read = subst (λ (d : ℕ). IsTimes (d ∷ t) s.0.0 s.0.1) (sym (eqb-true c 123 is)) (braces_sound (c ∷ t) t s.0 s.1) in
    as_found (c ∷ t) (Some s.0.0, s.0.1) y read same

pub repeat_sound : (t : Text) (y : Found) → repeat_here t ≡ Ok y → Here t y.0 y.1
unfolding repeat_here
repeat_sound [] y e = as_found [] (None, []) y refl (ok_is {E = Refused PatternCause} (None, []) y e)
repeat_sound (c ∷ t) y e =
    elim (tested (eqb c 42)) [
      | inl h ↦ let f = rw h at e in as_found (c ∷ t) (Some (times 0 None), t) y (as_is c 42 t (times 0 None) h (IsTimes.star t)) (ok_is {E = Refused PatternCause} (Some (times 0 None), t) y f)
      | inr h ↦ let e1 = rw h at e in
          elim (tested (eqb c 43)) [
            | inl h ↦ let f = rw h at e1 in as_found (c ∷ t) (Some (times 1 None), t) y (as_is c 43 t (times 1 None) h (IsTimes.plus t)) (ok_is {E = Refused PatternCause} (Some (times 1 None), t) y f)
            | inr h ↦ let e2 = rw h at e1 in
                elim (tested (eqb c 63)) [
                  | inl h ↦ let f = rw h at e2 in as_found (c ∷ t) (Some (times 0 (Some 1)), t) y (as_is c 63 t (times 0 (Some 1)) h (IsTimes.maybe t)) (ok_is {E = Refused PatternCause} (Some (times 0 (Some 1)), t) y f)
                  | inr h ↦ let e3 = rw h at e2 in
                      elim (tested (eqb c 123)) [
                        | inl h ↦ let f = rw h at e3 in braces_here c t y h f
                        | inr h ↦ let f = rw h at e3 in as_found (c ∷ t) (None, c ∷ t) y refl (ok_is {E = Refused PatternCause} (None, c ∷ t) y f)
                      ]
                ]
          ]
    ]

pub repeat_complete : {t : Text} {n : Times} {u : Text} → IsTimes t n u → repeat_here t ≡ Ok (Some n, u)
unfolding repeat_here braces behind_bound behind_comma closed
repeat_complete (IsTimes.star t) = refl
repeat_complete (IsTimes.plus t) = refl
repeat_complete (IsTimes.maybe t) = refl
repeat_complete (IsTimes.exactly t n u b) = rw (bound_complete (123 ∷ t) b) refl
repeat_complete (IsTimes.at_least t n u b) = rw (bound_complete (123 ∷ t) b) refl
repeat_complete (IsTimes.between t n r m u b more le) =
    let few : nat_le n m ≡ true = grind (arith, nat_tests) in
    rw (bound_complete (123 ∷ t) b, bound_goes_on (123 ∷ t) n more, bound_complete (123 ∷ t) more, few) refl

-- the characters that begin a repeat: * + ? {
abbrev pub is_repeat : ℕ → Bool
is_repeat c = eqb c 42 || eqb c 43 || eqb c 63 || eqb c 123

pub no_repeat_here : (t : Text) → begins is_repeat t ≡ false → repeat_here t ≡ Ok (None, t)
unfolding repeat_here
no_repeat_here [] e = refl
no_repeat_here (c ∷ t) e =
    let a = or_parts (eqb c 42 || eqb c 43 || eqb c 63) (eqb c 123) e in
    let b = or_parts (eqb c 42 || eqb c 43) (eqb c 63) a.0 in
    let d = or_parts (eqb c 42) (eqb c 43) b.0 in
    rw (d.0, d.1, b.1, a.1) refl

pub times_shorter : {t : Text} {n : Times} {u : Text} → IsTimes t n u → length u < length t
times_shorter (IsTimes.star t) = omega arith
times_shorter (IsTimes.plus t) = omega arith
times_shorter (IsTimes.maybe t) = omega arith
times_shorter (IsTimes.exactly t n u b) = omega (arith, bound_shorter b)
times_shorter (IsTimes.at_least t n u b) = omega (arith, bound_shorter b)
times_shorter (IsTimes.between t n r m u b more le) = omega (arith, bound_shorter b, bound_shorter more)
