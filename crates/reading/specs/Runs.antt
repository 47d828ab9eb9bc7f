-- Runs of a class of codes at the front of a text.
use Rattle.std.specs.Prelude.{◌≡◌, ℕ, Bool, true, false, List, [], ◌∷◌, ◌++◌, if◌then◌else◌}
use Rattle.std.specs.List.{list_all}
use Rattle.reading.specs.Reading.{Text}

-- The text begins with a code of the class.
abbrev pub begins : (ℕ → Bool) → Text → Bool
begins class [] = false
begins class (c ∷ t) = class c

-- The text is the run and what is left: the run is of the class, and as long as can be.
pub record IsRun (class : ℕ → Bool) (text run left : Text) : Type 0 where
  pub parts : text ≡ run ++ left
  pub all : list_all class run ≡ true
  pub longest : begins class left ≡ false

abbrev pub with_first : ℕ → List ℕ × Text → List ℕ × Text
with_first c r = (c ∷ r.0, r.1)

-- The run and what is left.
unfoldable pub run : (ℕ → Bool) → Text → List ℕ × Text
run class [] = ([], [])
run class (c ∷ t) = if class c then with_first c (run class t) else ([], c ∷ t)
