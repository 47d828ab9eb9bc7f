-- Steps of the reader of groups.
use Rattle.std.proofs.Common.{◌≡◌, ℕ, zero, suc, ◌-◌, ◌<◌, Some, None, refl, arith, ap}
use Rattle.reading.specs.Reading.{Text}
use Rattle.reading.proofs.Each.{each_laws}
use Rattle.xsd_pattern.specs.Parts.{sides, sides_with, below}

pub sides_is : (d : ℕ) (t : Text) → sides d t ≡ sides_with (below d) t
unfolding sides below
sides_is zero t = refl
sides_is (suc d) t = refl

pub below_none : (d : ℕ) → d ≡ 0 → below d ≡ None
unfolding below
below_none zero e = refl
below_none (suc d) e = absurd (omega (arith, e))

pub below_some : (d : ℕ) → 0 < d → below d ≡ Some (sides (d - 1))
unfolding below
below_some zero lt = absurd (omega arith)
below_some (suc d) lt = let e : d ≡ suc d - 1 = omega arith in ap (λ n. Some (sides n)) e

pub ruleset depth_laws = (sides_is, below_none, below_some, each_laws)
