-- Steps of the reader of values.
use Rattle.std.proofs.Common.{◌≡◌, ℕ, zero, suc, ◌-◌, ◌<◌, Option, Some, None, refl, arith, ap}
use Rattle.reading.specs.Reading.{Text}
use Rattle.reading.proofs.Each.{each_laws}
use Rattle.p21_read.specs.Tokens.{Lexed}
use Rattle.p21_read.specs.Values.{value, value_with, below}

pub value_is : (d : ℕ) (outer : Option Text) (x : Lexed) (t : Text) → value d outer x t ≡ value_with (below d) outer x t
unfolding value below
value_is zero outer x t = refl
value_is (suc d) outer x t = refl

pub below_none : (d : ℕ) → d ≡ 0 → below d ≡ None
unfolding below
below_none zero e = refl
below_none (suc d) e = absurd (omega (arith, e))

pub below_some : (d : ℕ) → 0 < d → below d ≡ Some (value (d - 1))
unfolding below
below_some zero lt = absurd (omega arith)
below_some (suc d) lt = let e : d ≡ suc d - 1 = omega arith in ap (λ n. Some (value n)) e

pub ruleset steps = (value_is, below_none, below_some, each_laws)
