-- Reading from left to right, with the first refusal. Each definition holds for any cause C that a refusal may have.
use Rattle.std.specs.Prelude.{◌≡◌, ℕ, zero, suc, ◌+◌, ◌<◌, Bool, true, List, [], ◌∷◌, length, Option, Some, None, Result, Ok, Err, nat_lt, if◌then◌else◌}
use Rattle.reading.specs.Codes.{codes_of, size_of}
use Rattle.reading.specs.declared.stop.Stop.{Stop}
use Rattle.reading.specs.declared.stop.Stop.TheVariants as stop

-- What is still to read: codes of characters, and marks of bytes that belong to none.
abbrev pub Text : Type 0
Text = List ℕ

-- A cause, and the text from where the refused token begins.
pub record Refused (C : Type 0) : Type 0 where
  pub why : C
  pub at : Text

-- What was read and what is left, or the first refusal.
abbrev pub Read : Type 0 → Type 0 → Type 0
Read C A = Result (A × Text) (Refused C)

-- One step, and then another from what the first gave. The first refusal stands.
infixl 10 ◌>>=◌
abbrev pub ◌>>=◌ : {C A B : Type 0} → Result A (Refused C) → (A → Result B (Refused C)) → Result B (Refused C)
(Ok x) >>= f = f x
(Err e) >>= f = Err e

abbrev pub refuse : {C A : Type 0} → C → Text → Result A (Refused C)
refuse why at = Err (record { why = why; at = at })

-- The first code, if any.
abbrev pub first : Text → Option ℕ
first [] = None
first (c ∷ t) = Some c

-- The first code, if it is a character of ASCII: below 128.
abbrev pub ascii : Text → Option ℕ
ascii [] = None
ascii (c ∷ t) = if nat_lt c 128 then Some c else None

-- ---- turns

-- One turn of a loop: from a state and a text to whether to go on, a state and what is left.
abbrev pub Turn : Type 0 → Type 0 → Type 0
Turn C S = S → Text → Read C (Bool × S)

-- Turn after turn, as long as they say to go on; n bounds them.
unfoldable pub each : {C S : Type 0} → C → Turn C S → ℕ → S → Text → Read C S
each why turn zero s t = refuse why t
each why turn (suc n) s t = turn s t >>= λ x. if x.0.0 then each why turn n x.0.1 x.1 else Ok (x.0.1, x.1)

-- More than the text has codes: one more than it has bytes.
unfoldable pub turns : Text → ℕ
turns t = size_of t + 1

-- Turn after turn, as long as they say to go on.
abbrev pub all_turns : {C S : Type 0} → C → Turn C S → S → Text → Read C S
all_turns why turn s t = each why turn (turns t) s t

-- A turn that goes on leaves less than it found.
abbrev pub Shortens : {C S : Type 0} → Turn C S → Type 0
Shortens {C} {S} turn = (s : S) (t : Text) (r : S) (u : Text) → turn s t ≡ Ok ((true, r), u) → length u < length t

-- ---- what code gives

-- Code stopped as reading does: at its first refusal, or for want of memory, which says nothing of what was read.
abbrev pub Fails : {C Y : Type 0} → Stop C → Result Y (Refused C) → Type 0
Fails stop.Memory read = Unit {0}
Fails (stop.Refused why at) read = read ≡ refuse why (codes_of at.now)

-- What code returned, seen by `view`, is what reading gives.
abbrev pub Yields : {C X Y : Type 0} → (X → Y) → Result X (Stop C) → Result Y (Refused C) → Type 0
Yields view (Ok x) read = read ≡ Ok (view x)
Yields view (Err e) read = Fails e read

-- What code returned, seen by `view`, and what it left are what reading gives.
abbrev pub Gives : {C X Y : Type 0} → (X → Y) → Result X (Stop C) → Text → Read C Y → Type 0
Gives view (Ok x) new read = read ≡ Ok (view x, new)
Gives view (Err e) new read = Fails e read
