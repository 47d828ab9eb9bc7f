-- A loop of turns, beside `each`.
use Rattle.std.proofs.Common.{◌≡◌, ℕ, suc, ◌+◌, ◌-◌, ◌<◌, ◌≤◌, cond, Ok, ap, arith}
use Rattle.reading.specs.Reading.{Text, Turn, ◌>>=◌, refuse, each, turns}

module _ {C S : Type 0} (why : C) (turn : Turn C S) where
  -- one turn, where turns are left
  pub each_unfold : (n at : ℕ) (s : S) (t : Text) → at < n → each why turn (n - at) s t ≡ (turn s t >>= λ x. cond x.0.0 (each why turn (n - (at + 1)) x.0.1 x.1) (Ok (x.0.1, x.1)))
  unfolding each
  each_unfold n at s t lt = let k : n - at ≡ suc (n - (at + 1)) = omega arith in ap (λ m. each why turn m s t) k

  -- none are left
  pub each_stop : (n at : ℕ) (s : S) (t : Text) → n ≤ at → each why turn (n - at) s t ≡ refuse why t
  unfolding each
  each_stop n at s t le = let k : n - at ≡ 0 = omega arith in ap (λ m. each why turn m s t) k

  -- the first turn is still to come
  pub each_start : (n : ℕ) (s : S) (t : Text) → n ≡ turns t → each why turn (n - 0) s t ≡ each why turn (turns t) s t
  each_start n s t e = let k : n - 0 ≡ turns t = omega (arith, e) in ap (λ m. each why turn m s t) k

pub ruleset each_laws = (each_unfold, each_stop, each_start)
