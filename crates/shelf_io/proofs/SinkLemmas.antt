-- Which calls of the sink in memory go well.
use Rattle.std.proofs.Common.{◌≡◌, ℕ, ◌<◌, ◌==◌, false, List, arith}
use Rattle.std.specs.Prelude.{All}
use Rattle.std.specs.List.{list_any}
use Rattle.std.proofs.lemmas.List.Folds.{list_any_none}
use Rattle.std.proofs.lemmas.Grind.{common_steps}

-- a number above all of a list isn't among them
pub not_listed : (numbers : List ℕ) (next : ℕ) → All (λ n. n < next) numbers → list_any (λ n. n == next) numbers ≡ false
not_listed numbers next below =
    list_any_none (λ n. n == next) numbers (λ k d within. let less = below k d within in grind (arith, common_steps))
