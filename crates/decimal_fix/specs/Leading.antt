-- The leading digits of a number, which are all that its rounding hangs on. Only functions within the crate speak of them.
use Rattle.std.specs.Prelude.{ℕ, suc, ℤ, pos, negsuc, ◌+◌, ◌*◌, ◌/◌, ◌^◌, ◌<◌, ◌≤◌, ◌+ℤ◌, ◌-◌, ◌-ℤ◌, min, List}
use Rattle.decimal_fix.specs.declared.leading.Leading.{Leading}
use Rattle.decimal_fix.specs.Rounding.{number}

-- these digits begin with the leading ones, and as many more follow as are counted
pub record IsLeading (k : Leading) (ds : List ℕ) : Type 0 where
  pub least : k.number * 10 ^ k.more ≤ number ds
  pub below : number ds < (k.number + 1) * 10 ^ k.more

-- how far the point of the leading digits is to be moved to the right, to stand one place behind the unit of 10^-15
abbrev pub shift : ℤ → ℕ → ℕ → ℤ
shift exponent places more = exponent +ℤ pos (16 + more) -ℤ pos places

-- a number with its point moved to the right or left, without what is behind the point, cut at 10^33
abbrev pub moved : ℕ → ℤ → ℕ
moved n (pos p) = min (n * 10 ^ p) (10 ^ 33)
moved n (negsuc k) = n / 10 ^ suc k

-- an exponent, cut where a greater one makes no difference
abbrev pub cut : ℤ → ℤ
cut (pos n) = pos (min n (10 ^ 30))
cut (negsuc n) = negsuc (min n (10 ^ 30 - 1))
