-- Where a digit stands in a node, or would stand.
use Rattle.std.specs.Prelude.{ℕ, nat_lt, List}
use Rattle.std.specs.List.{prefix_len}

-- how many branches at the front have a lower digit
abbrev pub place_of : {B : Type 0} → ℕ → List (ℕ × B) → ℕ
place_of digit bs = prefix_len (λ b. nat_lt b.0 digit) bs
