-- The topmost digit of a key and the others.
use Rattle.std.proofs.Common.{◌≡◌, ℕ, suc, ◌+◌, ◌-◌, ◌*◌, ◌/◌, ◌%◌, ◌^◌, ◌<◌, ◌≤◌, bit_and, arith, ap, ◌∙◌}
use Rattle.tree_map.specs.Ordered.{pow_next, times_le}
use Rattle.std.proofs.Math.Nat.{div-add-mod, div-lt_iff_lt-mul, mod-eq_of_lt}
use Rattle.std.proofs.Math.Pow.{pow-lt}
use Rattle.std.proofs.lemmas.Nat.{and_mask, mod_below, pow_pos}

pub pow_positive : (w : ℕ) → 0 < 2 ^ w
pow_positive w = pow_pos w

pub digit_below : (k w : ℕ) → k < 2 ^ (w + 5) → k / 2 ^ w < 32
digit_below k w h = let e : 2 ^ (w + 5) ≡ 32 * 2 ^ w = pow_next w in (div-lt_iff_lt-mul {x = k} {y = 32} (pow_positive w)).1 (omega arith)

pub mask : (k w : ℕ) → w ≤ 35 → bit_and k (1 * 2 ^ w % 18446744073709551616 - 1) ≡ k % 2 ^ w
mask k w h =
    let small : 1 * 2 ^ w < 2 ^ 64 = (let l : 2 ^ w < 2 ^ 64 = pow-lt (let m : w < 64 = omega arith in m) in omega arith) in
    let same : 1 * 2 ^ w % 18446744073709551616 ≡ 1 * 2 ^ w = mod-eq_of_lt small in
    let one : 1 * 2 ^ w ≡ 2 ^ w = omega arith in
    ap (λ m. bit_and k (m - 1)) (same ∙ one) ∙ and_mask k w

pub parts : (k w : ℕ) → w ≤ 35 → k ≡ k / 2 ^ w * 2 ^ w + bit_and k (1 * 2 ^ w % 18446744073709551616 - 1)
parts k w h = let m : bit_and k (1 * 2 ^ w % 18446744073709551616 - 1) ≡ k % 2 ^ w = mask k w h in omega (arith, div-add-mod k (2 ^ w))

pub rest_below : (k w : ℕ) → w ≤ 35 → bit_and k (1 * 2 ^ w % 18446744073709551616 - 1) < 2 ^ w
rest_below k w h = let m : bit_and k (1 * 2 ^ w % 18446744073709551616 - 1) ≡ k % 2 ^ w = mask k w h in omega (arith, mod_below k (2 ^ w) (pow_positive w))

-- a digit moved up stays in a key, with room for the keys below it
pub moved_up : (from d w : ℕ) → w ≤ 35 → d < 32 → from + 2 ^ (w + 5) ≤ 2 ^ 40 → (d * 2 ^ w % 18446744073709551616 ≡ d * 2 ^ w) × (from + d * 2 ^ w + 2 ^ w ≤ 2 ^ 40)
moved_up from d w l h f =
    let next : suc d * 2 ^ w ≤ 32 * 2 ^ w = times_le (2 ^ w) (suc d) 32 (omega arith) in
    let whole : 2 ^ (w + 5) ≡ 32 * 2 ^ w = pow_next w in
    let room : from + d * 2 ^ w + 2 ^ w ≤ 2 ^ 40 = omega arith in
    (mod-eq_of_lt (let small : d * 2 ^ w < 18446744073709551616 = omega arith in small), room)

pub start_is : (from d w : ℕ) → w ≤ 35 → d < 32 → from + 2 ^ (w + 5) ≤ 2 ^ 40 → from + (d * 2 ^ w % 18446744073709551616) ≡ from + d * 2 ^ w
start_is from d w l h f = ap (λ n. from + n) (moved_up from d w l h f).0
