-- The place of a failing element.
use Rattle.std.proofs.Common.{◌≡◌, ℕ, suc, ◌+◌, ◌<◌, ◌≤◌, Bool, true, false, cond, ◌==◌, nat_lt, List, [], ◌∷◌, take, drop, filter, refl, arith, ap, sym, ◌∙◌, inl, inr}
use Rattle.std.specs.List.{prefix_len, slice_get, list_any, remove}
use Rattle.std.proofs.lemmas.Bool.{cases_lt, lt-ltb, le-ltb, ltb-true, eqb-true, eq-eqb, true≢false}
use Rattle.audit_model.specs.declared.report.Failing.{Failing}
use Rattle.dirty_board.specs.Tallying.{is_elem, AreOver, AreRising}
use Rattle.dirty_board.proofs.Lists.{IsSplit}

one_suc : (n : ℕ) → 1 + n ≡ suc n
one_suc n = omega arith

over_more : (d e : ℕ) (fs : List Failing) → d ≤ e → AreOver e fs → AreOver d fs
over_more d e [] l h = tt
over_more d e (f ∷ fs) l h = (omega (arith, l, h.0), over_more d e fs l h.1)

none_under : (e : ℕ) (fs : List Failing) → AreOver e fs → filter (λ (f : Failing). nat_lt f.elem e) fs ≡ []
none_under e [] h = refl
none_under e (f ∷ fs) h = let no : nat_lt f.elem e ≡ false = le-ltb f.elem e (omega (arith, h.0)) in rw (no, none_under e fs h.1)

all_over : (e : ℕ) (fs : List Failing) → AreOver e fs → filter (λ (f : Failing). nat_lt e f.elem) fs ≡ fs
all_over e [] h = refl
all_over e (f ∷ fs) h = let yes : nat_lt e f.elem ≡ true = lt-ltb e f.elem h.0 in rw (yes, all_over e fs h.1)

any_under : (e : ℕ) (fs : List Failing) → AreOver e fs → list_any (λ (f : Failing). nat_lt f.elem e) fs ≡ false
any_under e [] h = refl
any_under e (f ∷ fs) h = let no : nat_lt f.elem e ≡ false = le-ltb f.elem e (omega (arith, h.0)) in rw (no, any_under e fs h.1)

not_less : (a b : ℕ) → nat_lt a b ≡ false → b ≤ a
not_less a b e = elim (cases_lt a b) [ inl l ↦ absurd (true≢false (sym (lt-ltb a b l) ∙ e)) | inr g ↦ g ]

not_same : (a b : ℕ) → (a == b) ≡ false → b ≤ a → b < a
not_same a b e l = elim (cases_lt b a) [ inl g ↦ g | inr g ↦ absurd (let same : (a == b) ≡ true = eq-eqb a b (omega (arith, l, g)) in true≢false (sym same ∙ e)) ]

pub rising_split : (e : ℕ) (fs : List Failing) → AreRising fs → IsSplit (λ (f : Failing). nat_lt f.elem e) fs
rising_split e [] h = tt
rising_split e (f ∷ fs) h = ((λ n. any_under e fs (over_more e f.elem fs (not_less f.elem e n) h.0)), rising_split e fs h.1)

abbrev Parts : ℕ → ℕ → List Failing → List Failing → Type 0
Parts e k now fs = (take k now ≡ filter (λ (f : Failing). nat_lt f.elem e) fs) × (drop k now ≡ filter (λ (f : Failing). nat_lt e f.elem) fs)

-- the element isn't among them
pub parts_other : (e : ℕ) (fs : List Failing) → AreRising fs → is_elem e (slice_get fs (prefix_len (λ (f : Failing). nat_lt f.elem e) fs)) ≡ false → Parts e (prefix_len (λ (f : Failing). nat_lt f.elem e) fs) fs fs
parts_other e [] h n = (refl, refl)
parts_other e (f ∷ fs) h n =
    let k : ℕ = prefix_len (λ (g : Failing). nat_lt g.elem e) fs in
    let F : Bool → Type 0 = λ b. nat_lt f.elem e ≡ b → is_elem e (slice_get (f ∷ fs) (cond b (1 + prefix_len (λ (g : Failing). nat_lt g.elem e) fs) 0)) ≡ false → (take (cond b (1 + prefix_len (λ (g : Failing). nat_lt g.elem e) fs) 0) (f ∷ fs) ≡ cond b (f ∷ filter (λ (g : Failing). nat_lt g.elem e) fs) (filter (λ (g : Failing). nat_lt g.elem e) fs)) × (drop (cond b (1 + prefix_len (λ (g : Failing). nat_lt g.elem e) fs) 0) (f ∷ fs) ≡ filter (λ (g : Failing). nat_lt e g.elem) (f ∷ fs)) in
    let at : F (nat_lt f.elem e) = elim (nat_lt f.elem e) as F [
      | true ↦ λ l m.
          let up : nat_lt e f.elem ≡ false = le-ltb e f.elem (let t : f.elem < e = ltb-true f.elem e l in omega (arith, t)) in
          let rest = parts_other e fs h.1 (rw (one_suc (prefix_len (λ (g : Failing). nat_lt g.elem e) fs)) at m) in
          rw (one_suc (prefix_len (λ (g : Failing). nat_lt g.elem e) fs), up) (ap (λ xs. f ∷ xs) rest.0, rest.1)
      | false ↦ λ l m.
          let g : e < f.elem = not_same f.elem e m (not_less f.elem e l) in
          let up : nat_lt e f.elem ≡ true = lt-ltb e f.elem g in
          let later : AreOver e fs = over_more e f.elem fs (omega (arith, g)) h.0 in
          (sym (none_under e fs later), rw up (ap (λ xs. f ∷ xs) (sym (all_over e fs later))))
    ] in
    at refl n

-- the element is among them and is taken out
pub parts_gone : (e : ℕ) (fs : List Failing) → AreRising fs → is_elem e (slice_get fs (prefix_len (λ (f : Failing). nat_lt f.elem e) fs)) ≡ true → Parts e (prefix_len (λ (f : Failing). nat_lt f.elem e) fs) (remove fs (prefix_len (λ (f : Failing). nat_lt f.elem e) fs)) fs
parts_gone e [] h n = absurd (true≢false (sym n))
parts_gone e (f ∷ fs) h n =
    let F : Bool → Type 0 = λ b. nat_lt f.elem e ≡ b → is_elem e (slice_get (f ∷ fs) (cond b (1 + prefix_len (λ (g : Failing). nat_lt g.elem e) fs) 0)) ≡ true → (take (cond b (1 + prefix_len (λ (g : Failing). nat_lt g.elem e) fs) 0) (remove (f ∷ fs) (cond b (1 + prefix_len (λ (g : Failing). nat_lt g.elem e) fs) 0)) ≡ cond b (f ∷ filter (λ (g : Failing). nat_lt g.elem e) fs) (filter (λ (g : Failing). nat_lt g.elem e) fs)) × (drop (cond b (1 + prefix_len (λ (g : Failing). nat_lt g.elem e) fs) 0) (remove (f ∷ fs) (cond b (1 + prefix_len (λ (g : Failing). nat_lt g.elem e) fs) 0)) ≡ filter (λ (g : Failing). nat_lt e g.elem) (f ∷ fs)) in
    let at : F (nat_lt f.elem e) = elim (nat_lt f.elem e) as F [
      | true ↦ λ l m.
          let up : nat_lt e f.elem ≡ false = le-ltb e f.elem (let t : f.elem < e = ltb-true f.elem e l in omega (arith, t)) in
          let rest = parts_gone e fs h.1 (rw (one_suc (prefix_len (λ (g : Failing). nat_lt g.elem e) fs)) at m) in
          rw (one_suc (prefix_len (λ (g : Failing). nat_lt g.elem e) fs), up) (ap (λ xs. f ∷ xs) rest.0, rest.1)
      | false ↦ λ l m.
          let same : f.elem ≡ e = eqb-true f.elem e m in
          let up : nat_lt e f.elem ≡ false = le-ltb e f.elem (omega (arith, same)) in
          let later : AreOver e fs = over_more e f.elem fs (omega (arith, same)) h.0 in
          (sym (none_under e fs later), rw up (sym (all_over e fs later)))
    ] in
    at refl n
