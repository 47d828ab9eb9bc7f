-- Steps of the reader of bounds.
use Rattle.std.proofs.Common.{◌≡◌, ℕ, ◌+◌, ◌*◌, ◌-◌, ◌<◌, ◌≤◌, true, false, List, [], ◌∷◌, Ok, refl, ap, ◌∙◌, arith}
use Rattle.std.specs.Prelude.{nat_le}
use Rattle.std.proofs.lemmas.Bool.Decides.{nat_tests}
use Rattle.reading.specs.Reading.{Text, refuse}
use Rattle.reading.specs.Runs.{begins, run}
use Rattle.reading.proofs.RunLaws.{run_more, run_stop}
use Rattle.xsd_pattern.specs.declared.fault.PatternCause.TheVariants.{TooManyRepeats}
use Rattle.xsd_pattern.specs.Characters.{is_digit}
use Rattle.xsd_pattern.specs.Repeats.{number_from, number}

pub number_more : (at : Text) (n c : ℕ) (t : Text) → is_digit c ≡ true → number at n (run is_digit (c ∷ t)) ≡ number at (10 * n + (c - 48)) (run is_digit t)
unfolding number number_from
number_more at n c t is = ap (number at n) (run_more is_digit c t is)

pub number_end : (at : Text) (n : ℕ) (t : Text) → n ≤ 1000 → begins is_digit t ≡ false → number at n (run is_digit t) ≡ Ok (n, t)
unfolding number number_from
number_end at n t le not = let small : nat_le n 1000 ≡ true = grind (arith, nat_tests) in ap (number at n) (run_stop is_digit t not) ∙ rw small refl

pub grows : (ds : List ℕ) (n : ℕ) → n ≤ number_from n ds
unfolding number_from
grows [] n = omega arith
grows (d ∷ ds) n = omega (arith, grows ds (10 * n + (d - 48)))

pub number_past : (at : Text) (n c : ℕ) (t : Text) → is_digit c ≡ true → 1000 < 10 * n + (c - 48) → number at n (run is_digit (c ∷ t)) ≡ refuse TooManyRepeats at
unfolding number
number_past at n c t is past =
    let r = run is_digit t in
    let more = grows r.0 (10 * n + (c - 48)) in
    let big : nat_le (number_from (10 * n + (c - 48)) r.0) 1000 ≡ false = grind (arith, nat_tests) in
    number_more at n c t is ∙ rw big refl

pub ruleset number_laws = (number_more, number_end, number_past)
