-- The number that digits write, and its rounding to a whole number.
use Rattle.std.specs.Prelude.{ℕ, suc, ℤ, pos, negsuc, ◌+◌, ◌*◌, ◌/◌, ◌^◌, ◌≤◌, ◌<◌, fold, List, All}

-- one more digit behind a number
abbrev pub step : ℕ → ℕ → ℕ
step n d = 10 * n + d

-- the number that digits write
abbrev pub number : List ℕ → ℕ
number ds = fold step 0 ds

-- each is a digit of base ten
abbrev pub AreDigits : List ℕ → Type 0
AreDigits ds = All (λ d. d ≤ 9) ds

-- m * 10 ^ p, rounded to a whole number; a half goes up, so that a signed number of this size is rounded half away
-- from zero
abbrev pub rounded : ℕ → ℤ → ℕ
rounded m (pos p) = m * 10 ^ p
rounded m (negsuc k) = (m + 5 * 10 ^ k) / 10 ^ suc k

-- r is the whole number that is nearest to m / 10 ^ places, and of two that are as near the greater one
pub record IsNearest (m places r : ℕ) : Type 0 where
  pub not_too_great : 2 * r * 10 ^ places ≤ 2 * m + 10 ^ places
  pub not_too_small : 2 * m < (2 * r + 1) * 10 ^ places
