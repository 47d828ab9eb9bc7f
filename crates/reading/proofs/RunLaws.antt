-- Each text has one longest run of a class at its front.
use Rattle.std.proofs.Common.{◌≡◌, ℕ, ◌≤◌, ◌<◌, Bool, true, false, List, [], ◌∷◌, ◌++◌, length, drop, Some, None, refl, ap, ◌∙◌, inl, inr, ◌⊎◌, arith, length-append}
use Rattle.std.specs.Prelude.{◌&&◌}
use Rattle.std.specs.List.{list_all}
use Rattle.reading.specs.Reading.{Text, first}
use Rattle.reading.specs.Runs.{begins, IsRun, with_first, run}

pub false_or_true : (b : Bool) → (b ≡ false) ⊎ (b ≡ true)
false_or_true true = inr refl
false_or_true false = inl refl

and_true : (a b : Bool) → (a && b) ≡ true → (a ≡ true) × (b ≡ true)
and_true true b e = (refl, e)
and_true false b e = absurd cc

-- `run` gives the run
pub run_is : (class : ℕ → Bool) (t : Text) → IsRun class t (run class t).0 (run class t).1
unfolding run
run_is class [] = record { parts = refl; all = refl; longest = refl }
run_is class (c ∷ t) =
    elim (false_or_true (class c)) [
      | inl h ↦ rw h (record { parts = refl; all = refl; longest = h })
      | inr h ↦ let r = run_is class t in rw h (record { parts = ap (λ (w : Text). c ∷ w) r.parts; all = rw h r.all; longest = r.longest })
    ]

-- ---- step by step, for tactics

pub run_more : (class : ℕ → Bool) (c : ℕ) (t : Text) → class c ≡ true → run class (c ∷ t) ≡ with_first c (run class t)
unfolding run
run_more class c t is = rw is refl

pub run_stop : (class : ℕ → Bool) (t : Text) → begins class t ≡ false → run class t ≡ ([], t)
unfolding run
run_stop class [] not = refl
run_stop class (c ∷ t) not = rw not refl

pub begins_first : (class : ℕ → Bool) (t : Text) (c : ℕ) → first t ≡ Some c → begins class t ≡ class c
begins_first class [] c e = absurd cc
begins_first class (d ∷ t) c e = let same : d ≡ c = cc in ap class same

pub begins_end : (class : ℕ → Bool) (t : Text) → first t ≡ None → begins class t ≡ false
begins_end class [] e = refl
begins_end class (d ∷ t) e = absurd cc

-- the same, of what passes a run
pub past_more : (class : ℕ → Bool) (c : ℕ) (t : Text) → class c ≡ true → (run class (c ∷ t)).1 ≡ (run class t).1
past_more class c t is = ap (λ (r : List ℕ × Text). r.1) (run_more class c t is)

pub past_stop : (class : ℕ → Bool) (t : Text) → begins class t ≡ false → (run class t).1 ≡ t
past_stop class t not = ap (λ (r : List ℕ × Text). r.1) (run_stop class t not)

pub past_one : (class : ℕ → Bool) (t : Text) → begins class t ≡ true → (run class t).1 ≡ (run class (drop 1 t)).1
past_one class [] is = absurd cc
past_one class (c ∷ t) is = past_more class c t is

pub one_less : (class : ℕ → Bool) (t : Text) → begins class t ≡ true → length (drop 1 t) < length t
one_less class [] is = absurd cc
one_less class (c ∷ t) is = omega arith

pub ruleset while_laws = (past_one, past_stop, one_less)

pub ruleset pass_laws = (past_more, past_stop, begins_first, begins_end)

pub ruleset run_laws = (run_more, run_stop, begins_first, begins_end)

run_of : (class : ℕ → Bool) (xs u : Text) → list_all class xs ≡ true → begins class u ≡ false → run class (xs ++ u) ≡ (xs, u)
unfolding run
run_of class [] [] all longest = refl
run_of class [] (c ∷ u) all longest = rw longest refl
run_of class (x ∷ xs) u all longest =
    let k = and_true (class x) (list_all class xs) all in
    rw k.0 (ap (with_first x) (run_of class xs u k.1 longest))

-- and there is no other
pub run_only : {class : ℕ → Bool} {t xs u : Text} → IsRun class t xs u → run class t ≡ (xs, u)
run_only {class = class} {xs = xs} {u = u} r = ap (run class) r.parts ∙ run_of class xs u r.all r.longest

-- what is left is no longer than the text
pub run_shorter : {class : ℕ → Bool} {t xs u : Text} → IsRun class t xs u → length u ≤ length t
run_shorter {xs = xs} {u = u} r = omega (arith, ap length r.parts, length-append xs u)
