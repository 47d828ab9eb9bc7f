-- The leading digits alone decide what a number is rounded to.
use Rattle.std.proofs.Common.{true, false, ◌≡◌, ℕ, zero, suc, ◌+◌, ◌-◌, ◌*◌, ◌/◌, ◌^◌, ◌<◌, ◌≤◌, min, List, refl, sym, ap, ◌∙◌, subst, inl, inr, ◌⊎◌, arith}
use Rattle.std.specs.Prelude.{ℤ, pos, negsuc, ◌+ℤ◌, nat_abs}
use lib.Signed.{lt_z}
use Rattle.std.proofs.lemmas.Bool.{cases_lt, ltb-true}
use Rattle.std.proofs.lemmas.Int.{ints}
use Rattle.std.proofs.lemmas.Nat.{div-mul-add, pow-add}
use Rattle.std.proofs.Math.Nat.{pow-le-pow_right, mul-le-mul_left, mul-le-mul_right, mul_comm, add-mul-div_right, div-div-eq-div-mul, le-div_iff_mul-le}
use Rattle.decimal_fix.specs.declared.leading.Leading.{Leading}
use Rattle.decimal_fix.specs.Leading.{IsLeading, shift, moved}
use Rattle.decimal_fix.specs.Rounding.{number, rounded}
use Rattle.decimal_fix.specs.Numerals.{scale}
use Rattle.decimal_fix.proofs.RoundingLaws.{ten_more, some_power}

-- ---- moving the point

pub moved_off : (n k : ℕ) → n < 10 ^ 33 → 33 ≤ k → n / 10 ^ k ≡ 0
moved_off n k lt le =
    let grow : 10 ^ 33 ≤ 10 ^ k = pow-le-pow_right (omega arith) le in
    let as_sum : n ≡ 0 * 10 ^ k + n = omega arith in
    ap (λ (m : ℕ). m / 10 ^ k) as_sum ∙ div-mul-add 0 (10 ^ k) n (omega (arith, grow, lt))

pub moved_far : (n p : ℕ) → (n ≡ 0 → ⊥) → 33 ≤ p → 10 ^ 33 ≡ min (n * 10 ^ p) (10 ^ 33)
moved_far n p some le =
    let grow : 10 ^ 33 ≤ 10 ^ p = pow-le-pow_right (omega arith) le in
    let one : 1 ≤ n = omega (arith, some) in
    let all : 1 * 10 ^ p ≤ n * 10 ^ p = mul-le-mul_right (10 ^ p) one in
    omega (arith, grow, all)

not_left : (p : ℕ) → lt_z (pos p) (pos 0) ≡ true → ⊥
not_left p h = omega (arith, ltb-true p 0 h)

pub moved_nothing : (n : ℕ) (by : ℤ) → n < 10 ^ 33 → 33 < nat_abs by → (lt_z by (pos 0) ≡ true) ⊎ ((lt_z by (pos 0) ≡ false) × (n ≡ 0)) → 0 ≡ moved n by
moved_nothing n (pos p) lt far (inl below) = absurd (not_left p below)
moved_nothing n (pos p) lt far (inr e) = rw e.1 (omega arith)
moved_nothing n (negsuc k) lt far w = sym (moved_off n (suc k) lt (omega (arith, far)))

pub moved_past : (n : ℕ) (by : ℤ) → 33 < nat_abs by → lt_z by (pos 0) ≡ false → (n ≡ 0 → ⊥) → 10 ^ 33 ≡ moved n by
moved_past n (pos p) far right some = moved_far n p some (omega (arith, far))
moved_past n (negsuc k) far right some = absurd cc

pub small_power : (k : ℕ) → k ≤ 33 → 10 ^ k < 2 ^ 128
small_power k le = let grow : 10 ^ k ≤ 10 ^ 33 = pow-le-pow_right (omega arith) le in omega (arith, grow)

-- ---- rounding by the leading digits

-- what stands behind the last power of ten is dropped
dropped : (x r b w : ℕ) → r < b → (x * b + r) / (w * b) ≡ x / w
dropped x r b w lt = rw (mul_comm w b, ← div-div-eq-div-mul (x * b + r) b w, div-mul-add x b r lt) refl

-- a half of the unit is five of the tenth
tenth : (n j : ℕ) → (n / 10 ^ j + 5) / 10 ≡ (n + 5 * 10 ^ j) / 10 ^ suc j
tenth n j =
    let some : 0 < 10 ^ j = some_power j in
    rw (ten_more j, ← div-div-eq-div-mul (n + 5 * 10 ^ j) (10 ^ j) 10, add-mul-div_right n 5 some) refl

-- a unit to the left of the last leading digit, or at it
cut_off : (m n d j : ℕ) → n * 10 ^ d ≤ m → m < (n + 1) * 10 ^ d → rounded m (negsuc (j + d)) ≡ (n / 10 ^ j + 5) / 10
cut_off m n d j least below =
    let r = m - n * 10 ^ d in
    let few : r < 10 ^ d = omega (arith, least, below) in
    let sum : m + 5 * (10 ^ j * 10 ^ d) ≡ (n + 5 * 10 ^ j) * 10 ^ d + r = omega (arith, least) in
    let wide : suc (j + d) ≡ suc j + d = omega arith in
    rw (wide, pow-add 10 j d, pow-add 10 (suc j) d, sum, dropped (n + 5 * 10 ^ j) r (10 ^ d) (10 ^ suc j) few) (sym (tenth n j))

-- a unit to the right of all digits
not_cut : (m n d a : ℕ) → n * 10 ^ d ≤ m → m < (n + 1) * 10 ^ d → (0 < d → 10 ^ 32 ≤ n) → min ((min (n * 10 ^ (a + d + 1)) (10 ^ 33) + 5) / 10) (10 ^ 31) ≡ min (m * 10 ^ a) (10 ^ 31)
not_cut m n zero a least below full =
    let same : m ≡ n = omega (arith, least, below) in
    let one : a + 0 + 1 ≡ suc a = omega arith in
    rw (same, one, ten_more a) (omega arith)
not_cut m n (suc d) a least below full =
    let big : 10 ^ 32 ≤ n = full (omega arith) in
    let some = some_power (a + suc d + 1) in
    let more : n * 1 ≤ n * 10 ^ (a + suc d + 1) = mul-le-mul_left n some in
    let wide : 10 ^ (a + suc d + 1) ≡ 10 ^ (a + suc d) * 10 = let one : a + suc d + 1 ≡ suc (a + suc d) = omega arith in rw (one, ten_more (a + suc d)) refl in
    let some1 = some_power (a + suc d) in
    let ten : n * 10 ≤ n * 10 ^ (a + suc d + 1) = mul-le-mul_left n (omega (arith, wide, some1)) in
    let whole : n * 1 ≤ n * 10 ^ suc d = mul-le-mul_left n (some_power (suc d)) in
    let all : m * 1 ≤ m * 10 ^ a = mul-le-mul_left m (some_power a) in
    omega (arith, big, ten, whole, all, least)

-- a unit among the digits that are only counted: the number is beyond
past : (m n d a : ℕ) → n * 10 ^ d ≤ m → 10 ^ 32 ≤ n → a ≤ d → 10 ^ 31 ≤ (m + 5 * 10 ^ a) / 10 ^ suc a
past m n d a least big le =
    let u = 10 ^ a in
    let some = some_power a in
    let grow : u ≤ 10 ^ d = pow-le-pow_right (omega arith) le in
    let wide : n * u ≤ n * 10 ^ d = mul-le-mul_left n grow in
    let high : 10 ^ 32 * u ≤ n * u = mul-le-mul_right u big in
    let all : 10 ^ 31 * (u * 10) ≤ m + 5 * u = omega (arith, least, wide, high) in
    let ten : 0 < u * 10 = omega (arith, some) in
    rw (ten_more a) ((le-div_iff_mul-le ten).1 all)

both_past : (x y : ℕ) → 10 ^ 32 ≤ x → 10 ^ 31 ≤ y → min ((min x (10 ^ 33) + 5) / 10) (10 ^ 31) ≡ min y (10 ^ 31)
both_past x y le more = omega (arith, le, more)

at_the_end : (m n a : ℕ) → n * 10 ^ 0 ≤ m → m < (n + 1) * 10 ^ 0 → a ≤ 0 → min ((min (n * 10 ^ (0 - a)) (10 ^ 33) + 5) / 10) (10 ^ 31) ≡ min (rounded m (negsuc a)) (10 ^ 31)
at_the_end m n zero least below le = let same : m ≡ n = omega (arith, least, below) in rw same (omega arith)
at_the_end m n (suc a) least below le = absurd (omega (arith, le))

among : (m n d a : ℕ) → n * 10 ^ d ≤ m → m < (n + 1) * 10 ^ d → (0 < d → 10 ^ 32 ≤ n) → a ≤ d → min ((min (n * 10 ^ (d - a)) (10 ^ 33) + 5) / 10) (10 ^ 31) ≡ min (rounded m (negsuc a)) (10 ^ 31)
among m n zero a least below full le = at_the_end m n a least below le
among m n (suc d) a least below full le =
    let big : 10 ^ 32 ≤ n = full (omega arith) in
    let wide : n * 1 ≤ n * 10 ^ (suc d - a) = mul-le-mul_left n (some_power (suc d - a)) in
    both_past (n * 10 ^ (suc d - a)) (rounded m (negsuc a)) (omega (arith, big, wide)) (past m n (suc d) a least big le)

-- what so many leading digits are rounded to, and what all digits are
by_leading : (m n d : ℕ) (p s : ℤ) → n * 10 ^ d ≤ m → m < (n + 1) * 10 ^ d → (0 < d → 10 ^ 32 ≤ n) → s ≡ p +ℤ pos (d + 1) → min ((moved n s + 5) / 10) (10 ^ 31) ≡ min (rounded m p) (10 ^ 31)
by_leading m n d (pos a) s least below full e =
    let at : s ≡ pos (a + d + 1) = omega (arith, ints, e) in
    rw at (not_cut m n d a least below full)
by_leading m n d (negsuc a) s least below full e =
    elim (cases_lt d a) [
      | inl lt ↦
          let j = a - d - 1 in
          let at : s ≡ negsuc j = omega (arith, ints, e, lt) in
          let sum : a ≡ suc j + d = omega (arith, lt) in
          let same = subst (λ (b : ℕ). rounded m (negsuc b) ≡ (n / 10 ^ suc j + 5) / 10) (sym sum) (cut_off m n d (suc j) least below) in
          rw at (ap (λ (x : ℕ). min x (10 ^ 31)) (sym same))
      | inr le ↦
          let at : s ≡ pos (d - a) = omega (arith, ints, e, le) in
          rw at (among m n d a least below full le)
    ]

-- what the code computes is the number of units
pub units_are : (k : Leading) (places : ℕ) (e : ℤ) (s : ℤ) (ds : List ℕ) → IsLeading k ds → s ≡ shift e places k.more → min ((moved k.number s + 5) / 10) (10 ^ 31) ≡ min (rounded (number ds) (scale e places)) (10 ^ 31)
units_are k places e s ds is at = by_leading (number ds) k.number k.more (scale e places) s is.least is.below k.enough (omega (arith, ints, at))
