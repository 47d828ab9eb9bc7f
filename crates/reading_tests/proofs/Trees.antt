-- Steps of the reader of trees.
use Rattle.std.proofs.Common.{◌≡◌, ℕ, zero, suc, ◌-◌, ◌<◌, Option, Some, None, refl, arith, ap}
use Rattle.reading.specs.Reading.{Text}
use Rattle.reading_tests.specs.Nest.{Lexed, Reader, tree, tree_with}

-- what reads the trees inside, if they may be one deeper
unfoldable pub below : ℕ → Option Reader
below zero = None
below (suc d) = Some (tree d)

pub tree_is : (d : ℕ) (outer : Option Text) (x : Lexed) (t : Text) → tree d outer x t ≡ tree_with (below d) outer x t
unfolding tree below
tree_is zero outer x t = refl
tree_is (suc d) outer x t = refl

pub below_none : (d : ℕ) → d ≡ 0 → below d ≡ None
unfolding below
below_none zero e = refl
below_none (suc d) e = absurd (omega (arith, e))

pub below_some : (d : ℕ) → 0 < d → below d ≡ Some (tree (d - 1))
unfolding below
below_some zero lt = absurd (omega arith)
below_some (suc d) lt = let e : d ≡ suc d - 1 = omega arith in ap (λ n. Some (tree n)) e

pub ruleset tree_laws = (tree_is, below_none, below_some)
