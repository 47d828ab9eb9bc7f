-- What one more digit does to the leading ones, and which digits a run has.
use Rattle.std.proofs.Common.{◌≡◌, ℕ, zero, suc, ◌+◌, ◌*◌, ◌^◌, ◌<◌, ◌≤◌, List, [], ◌∷◌, ◌++◌, length, length-take, take, drop, get_or, false, refl, sym, subst, arith}
use Rattle.std.specs.List.{prefix_len}
use Rattle.std.specs.Char.{is_ascii_digit}
use Rattle.decimal_fix.specs.Reading.{run}
use Rattle.std.proofs.lemmas.List.Sums.{prefix_len-drop_no, prefix_len-drop_all}
use Rattle.decimal_fix.specs.declared.leading.Leading.{Leading}
use Rattle.decimal_fix.specs.Leading.{IsLeading}
use Rattle.decimal_fix.specs.Rounding.{number}
use Rattle.decimal_fix.specs.Numerals.{digits}
use Rattle.decimal_fix.proofs.RoundingLaws.{ten_more, number_push}

-- behind the digits that are kept another one is only counted
more_counted : (n more m d : ℕ) → n * 10 ^ more ≤ m → m < (n + 1) * 10 ^ more → d ≤ 9 → (n * 10 ^ (more + 1) ≤ 10 * m + d) × (10 * m + d < (n + 1) * 10 ^ (more + 1))
more_counted n more m d least below small =
    let one : more + 1 ≡ suc more = omega arith in
    rw (one, ten_more more) (omega (arith, least), omega (arith, below, small))

more_kept : (n more m d : ℕ) → n * 10 ^ more ≤ m → m < (n + 1) * 10 ^ more → more ≡ 0 → ((10 * n + d) * 10 ^ more ≤ 10 * m + d) × (10 * m + d < (10 * n + d + 1) * 10 ^ more)
more_kept n more m d least below e =
    let l : n * 10 ^ 0 ≤ m = subst (λ (k : ℕ). n * 10 ^ k ≤ m) e least in
    let b : m < (n + 1) * 10 ^ 0 = subst (λ (k : ℕ). m < (n + 1) * 10 ^ k) e below in
    rw e (omega (arith, l), omega (arith, b))

pub counted : (k j : Leading) (ds : List ℕ) (d : ℕ) → IsLeading k ds → j.number ≡ k.number → j.more ≡ k.more + 1 → d ≤ 9 → IsLeading j (ds ++ d ∷ [])
counted k j ds d is n m small =
    let two = more_counted k.number k.more (number ds) d is.least is.below small in
    record { least = rw (n, m, number_push ds d) two.0; below = rw (n, m, number_push ds d) two.1 }

-- a digit is counted only behind 33 of them
not_full : (n more : ℕ) → n < 10 ^ 32 → (0 < more → 10 ^ 32 ≤ n) → more ≡ 0
not_full n zero few full = refl
not_full n (suc more) few full = let big : 10 ^ 32 ≤ n = full (omega arith) in absurd (omega (arith, few, big))

pub kept : (k j : Leading) (ds : List ℕ) (d : ℕ) → IsLeading k ds → j.number ≡ 10 * k.number + d → j.more ≡ k.more → k.number < 10 ^ 32 → IsLeading j (ds ++ d ∷ [])
kept k j ds d is n m few =
    let none = not_full k.number k.more few k.enough in
    let two = more_kept k.number k.more (number ds) d is.least is.below none in
    record { least = rw (n, m, number_push ds d) two.0; below = rw (n, m, number_push ds d) two.1 }

-- the digits before a place are read
pub record HasRun (before now : Leading) (bytes : List ℕ) (at : ℕ) : Type 0 where
  pub leading : (ds : List ℕ) → IsLeading before ds → IsLeading now (ds ++ digits (take at bytes))
  pub all : prefix_len is_ascii_digit bytes ≡ at + prefix_len is_ascii_digit (drop at bytes)
  pub more : now.more ≤ before.more + at

-- what was read up to the end of the run is the run
pub record WasRun (before now : Leading) (bytes : List ℕ) (at : ℕ) : Type 0 where
  pub leading : (ds : List ℕ) → IsLeading before ds → IsLeading now (ds ++ digits (run bytes).0)
  pub count : at ≡ length (run bytes).0
  pub rest : drop at bytes ≡ (run bytes).1

run_is : (before now : Leading) (bytes : List ℕ) (at : ℕ) → HasRun before now bytes at → prefix_len is_ascii_digit bytes ≡ at → at ≤ length bytes → WasRun before now bytes at
unfolding run
run_is before now bytes at has end le =
    let long : length (take at bytes) ≡ at = omega (arith, length-take at bytes, le) in
    record { leading = rw end has.leading; count = rw end (sym long); rest = rw end refl }

-- a place that holds no digit ends the run
pub run_stops : (before now : Leading) (bytes : List ℕ) (at : ℕ) → HasRun before now bytes at → at < length bytes → false ≡ is_ascii_digit (get_or bytes at 0) → WasRun before now bytes at
run_stops before now bytes at has lt other =
    let none = prefix_len-drop_no is_ascii_digit bytes at 0 lt (sym other) in
    run_is before now bytes at has (omega (arith, has.all, none)) (omega (arith, lt))

-- and so does the end
pub run_ends : (before now : Leading) (bytes : List ℕ) (at : ℕ) → HasRun before now bytes at → at ≡ length bytes → WasRun before now bytes at
run_ends before now bytes at has e =
    let none = prefix_len-drop_all is_ascii_digit bytes at (omega (arith, e)) in
    run_is before now bytes at has (omega (arith, has.all, none)) (omega (arith, e))
