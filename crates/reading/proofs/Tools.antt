-- What follows from how a step, a test or a loop of turns ended.
use Rattle.std.proofs.Common.{◌≡◌, ℕ, zero, suc, ◌<◌, Bool, true, false, cond, length, Result, Ok, Err, refl, ap, ◌∙◌, subst, inl, inr, ◌⊎◌, arith}
use Rattle.reading.specs.Reading.{Text, Refused, Turn, ◌>>=◌, refuse, each, turns}
use Rattle.reading.proofs.Turns.{turns_enough}

-- ---- steps

-- steps that gave a value: what the first gave, and that the second gave it from there
pub bind_ok : {C A B : Type 0} (r : Result A (Refused C)) (f : A → Result B (Refused C)) (y : B) → (r >>= f) ≡ Ok y → (x : A) × (r ≡ Ok x) × (f x ≡ Ok y)
bind_ok (Ok x) f y e = (x, refl, e)
bind_ok (Err d) f y e = absurd cc

-- the same, with what it reads off the fact implicit
pub bound : {C A B : Type 0} {r : Result A (Refused C)} {f : A → Result B (Refused C)} {y : B} → (r >>= f) ≡ Ok y → (x : A) × (r ≡ Ok x) × (f x ≡ Ok y)
bound {r = Ok x} e = (x, refl, e)
bound {r = Err d} e = absurd cc

-- steps that refused: the first did, or the second from what the first gave
pub bind_err : {C A B : Type 0} (r : Result A (Refused C)) (f : A → Result B (Refused C)) (d : Refused C) → (r >>= f) ≡ Err d → (r ≡ Err d) ⊎ ((x : A) × (r ≡ Ok x) × (f x ≡ Err d))
bind_err (Ok x) f d e = inr (x, refl, e)
bind_err (Err b) f d e = let same : b ≡ d = cc in inl (ap (λ (r : Refused _). Err r) same)

abbrev done : {E A : Type 0} → A → Result A E
done x = Ok x

-- two values of one answer are one
pub ok_is : {E A : Type 0} (x y : A) → done {E = E} x ≡ done y → x ≡ y
ok_is x y e = cc

pub never_ok : {C A : Type 0} (why : C) (at : Text) (y : A) → refuse why at ≡ Ok y → ⊥
never_ok why at y e = cc

-- ---- tests

-- Each test goes one way or the other. For an else-chain `e`: `elim (tested b) [ | inl holds ↦ let f = rw holds at e in .. | inr fails ↦ let f = rw fails at e in .. ]`.
pub tested : (b : Bool) → (b ≡ true) ⊎ (b ≡ false)
tested true = inl refl
tested false = inr refl

-- which way a test went
pub chosen : {A : Type 0} (b : Bool) (x y z : A) → cond b x y ≡ z → ((b ≡ true) × (x ≡ z)) ⊎ ((b ≡ false) × (y ≡ z))
chosen true x y z e = inl (refl, e)
chosen false x y z e = inr (refl, e)

-- a test that refuses where it fails, and gave a value
pub kept : {C A : Type 0} (b : Bool) (x : Result A (Refused C)) (why : C) (at : Text) (y : A) → cond b x (refuse why at) ≡ Ok y → (b ≡ true) × (x ≡ Ok y)
kept true x why at y e = (refl, e)
kept false x why at y e = absurd cc

-- a test that refuses where it holds, and gave a value
pub passed : {C A : Type 0} (b : Bool) (x : Result A (Refused C)) (why : C) (at : Text) (y : A) → cond b (refuse why at) x ≡ Ok y → (b ≡ false) × (x ≡ Ok y)
passed true x why at y e = absurd cc
passed false x why at y e = (refl, e)

-- ---- loops of turns

module _ {C S : Type 0} (why : C) (turn : Turn C S) where
  -- what holds of the last turn, and goes back over each other turn, holds of the loop
  pub each_sound : (P : S → Text → S → Text → Type 0)
      → ((s : S) (t : Text) (r : S) (u : Text) → turn s t ≡ Ok ((false, r), u) → P s t r u)
      → ((s : S) (t : Text) (r : S) (u : Text) (q : S) (w : Text) → turn s t ≡ Ok ((true, r), u) → P r u q w → P s t q w)
      → (n : ℕ) (s : S) (t : Text) (q : S) (w : Text) → each why turn n s t ≡ Ok (q, w) → P s t q w
  unfolding each
  each_sound P last more zero s t q w e = absurd cc
  each_sound P last more (suc n) s t q w e =
      let b = bind_ok (turn s t) (λ x. cond x.0.0 (each why turn n x.0.1 x.1) (Ok (x.0.1, x.1))) (q, w) e in
      elim (chosen b.0.0.0 (each why turn n b.0.0.1 b.0.1) (Ok (b.0.0.1, b.0.1)) (Ok (q, w)) b.2) [
        | inl h ↦ more s t b.0.0.1 b.0.1 q w (b.1 ∙ ap (λ (f : Bool). done ((f, b.0.0.1), b.0.1)) h.0) (each_sound P last more n b.0.0.1 b.0.1 q w h.1)
        | inr h ↦ subst (λ (y : S × Text). P s t y.0 y.1) (ok_is {E = Refused C} (b.0.0.1, b.0.1) (q, w) h.1) (last s t b.0.0.1 b.0.1 (b.1 ∙ ap (λ (f : Bool). done ((f, b.0.0.1), b.0.1)) h.0))
      ]

-- Turns up to the last one, of which each that goes on leaves less.
pub data Run {C S : Type 0} (turn : Turn C S) : S → Text → S → Text → Type 0 where
  last : (s : S) (t : Text) (r : S) (u : Text) → turn s t ≡ Ok ((false, r), u) → Run turn s t r u
  more : (s : S) (t : Text) (r : S) (u : Text) (q : S) (w : Text) → turn s t ≡ Ok ((true, r), u) → length u < length t → Run turn r u q w → Run turn s t q w

pub each_runs : {C S : Type 0} (why : C) (turn : Turn C S) (n : ℕ) {s : S} {t : Text} {q : S} {w : Text} → Run turn s t q w → length t < n → each why turn n s t ≡ Ok (q, w)
unfolding each
each_runs why turn zero run lt = absurd (omega arith)
each_runs why turn (suc n) (Run.last s t r u went) lt = rw went refl
each_runs why turn (suc n) (Run.more s t r u q w went less run) lt = rw went (each_runs why turn n run (omega arith))

-- so a loop of all turns gives what such turns give
pub all_run : {C S : Type 0} (why : C) (turn : Turn C S) {s : S} {t : Text} {q : S} {w : Text} → Run turn s t q w → each why turn (turns t) s t ≡ Ok (q, w)
all_run why turn {t = t} run = each_runs why turn (turns t) run (turns_enough t)
