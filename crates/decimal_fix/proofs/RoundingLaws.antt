-- The number that digits write, and its rounding.
use Rattle.std.proofs.Common.{◌≡◌, ℕ, suc, ◌+◌, ◌*◌, ◌/◌, ◌%◌, ◌^◌, ◌<◌, ◌≤◌, min, List, [], ◌∷◌, ◌++◌, length, ap, ◌∙◌, subst, inl, inr, arith}
use Rattle.std.specs.Prelude.{fold, negsuc}
use Rattle.std.proofs.lemmas.Bool.{cases_lt}
use Rattle.std.proofs.lemmas.List.Sums.{fold-append, fold_push}
use Rattle.std.proofs.lemmas.List.Elements.{All-tail, All-head}
use Rattle.std.proofs.lemmas.Nat.{div-mul-add}
use Rattle.std.proofs.Math.Nat.{pow-suc, pow-le-pow_right, mul-le-mul_left, one-le-pow}
use Rattle.decimal_fix.specs.Rounding.{step, number, AreDigits, rounded}
use Rattle.decimal_fix.specs.Laws.{RoundsToNearest}

pub ten_more : (k : ℕ) → 10 ^ suc k ≡ 10 ^ k * 10
ten_more k = pow-suc 10 k

pub some_power : (k : ℕ) → 1 ≤ 10 ^ k
some_power k = one-le-pow k 10 (omega arith)

pub number_from : (xs : List ℕ) (v : ℕ) → fold step v xs ≡ v * 10 ^ length xs + number xs
number_from [] v = omega arith
number_from (x ∷ xs) v =
    let a = number_from xs (10 * v + x) in
    let b = number_from xs (10 * 0 + x) in
    let p = ten_more (length xs) in
    rw p (omega (arith, a, b))

pub number_append : (xs ys : List ℕ) → number (xs ++ ys) ≡ number xs * 10 ^ length ys + number ys
number_append xs ys = fold-append step 0 xs ys ∙ number_from ys (number xs)

pub number_push : (xs : List ℕ) (d : ℕ) → number (xs ++ d ∷ []) ≡ 10 * number xs + d
number_push xs d = fold_push step 0 xs d

below_from : (xs : List ℕ) (n v : ℕ) → AreDigits xs → v < 10 ^ n → fold step v xs < 10 ^ (n + length xs)
below_from [] n v are lt = let same : n + 0 ≡ n = omega arith in rw same lt
below_from (x ∷ xs) n v are lt =
    let small : x ≤ 9 = All-head (λ d. d ≤ 9) x xs are in
    let next : 10 * v + x < 10 ^ suc n = rw (ten_more n) (omega (arith, small, lt)) in
    let same : suc n + length xs ≡ n + suc (length xs) = omega arith in
    subst (λ (m : ℕ). fold step (10 * v + x) xs < 10 ^ m) same (below_from xs (suc n) (10 * v + x) (All-tail (λ d. d ≤ 9) x xs are) next)

-- as many digits as there are write a number below that power of ten
pub number_below : (xs : List ℕ) → AreDigits xs → number xs < 10 ^ length xs
number_below xs are = let same : 0 + length xs ≡ length xs = omega arith in subst (λ (m : ℕ). number xs < 10 ^ m) same (below_from xs 0 0 are (omega arith))

-- a unit behind which more places stand than there are digits: nothing is left
pub nothing_kept : (ds : List ℕ) (k : ℕ) → AreDigits ds → length ds ≤ k → rounded (number ds) (negsuc k) ≡ 0
nothing_kept ds k are le =
    let below = number_below ds are in
    let grow : 10 ^ length ds ≤ 10 ^ k = pow-le-pow_right (omega arith) le in
    let less : number ds + 5 * 10 ^ k < 10 ^ k * 10 = omega (arith, below, grow) in
    let as_sum : number ds + 5 * 10 ^ k ≡ 0 * (10 ^ k * 10) + (number ds + 5 * 10 ^ k) = omega arith in
    rw (pow-suc 10 k) (ap (λ (n : ℕ). n / (10 ^ k * 10)) as_sum ∙ div-mul-add 0 (10 ^ k * 10) (number ds + 5 * 10 ^ k) less)

-- far to the left a number is beyond or 0
pub far_left : (m p : ℕ) → 31 ≤ p → min (m * 10 ^ p) (10 ^ 31) ≡ min (m * 10 ^ 31) (10 ^ 31)
far_left m p le =
    let grow : 10 ^ 31 ≤ 10 ^ p = pow-le-pow_right (omega arith) le in
    elim (cases_lt 0 m) [
      | inl some ↦ let a = mul-le-mul_left m grow in let one : 10 ^ 31 ≤ m * 10 ^ 31 = omega (arith, some) in omega (arith, a, one)
      | inr none ↦ let z : m ≡ 0 = omega arith in rw z (omega arith)
    ]

nearest_at : (m u r : ℕ) → r * (u * 10) ≤ m + 5 * u → m + 5 * u < r * (u * 10) + u * 10 → (2 * r * (u * 10) ≤ 2 * m + u * 10) × (2 * m < (2 * r + 1) * (u * 10))
nearest_at m u r low high = (omega (arith, low), omega (arith, high))

pub rounds_to_nearest : RoundsToNearest
rounds_to_nearest m k =
    let u = 10 ^ k in
    let some : 1 ≤ u = some_power k in
    let w = u * 10 in
    let r = (m + 5 * u) / w in
    let is : w * r + (m + 5 * u) % w ≡ m + 5 * u = omega arith in
    let less : (m + 5 * u) % w < w = omega (arith, some) in
    let k2 = nearest_at m u r (omega (arith, is)) (omega (arith, is, less)) in
    record { not_too_great = rw (ten_more k) k2.0; not_too_small = rw (ten_more k) k2.1 }
