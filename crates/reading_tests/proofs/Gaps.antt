-- Passing blanks, and then a comment where a slash stands.
use Rattle.std.proofs.Common.{◌≡◌, ℕ, ◌<◌, Bool, true, false, cond, [], ◌∷◌, length, None, Ok, refl, sym, ap, ◌∙◌, Some, inl, inr, arith}
use Rattle.std.proofs.lemmas.Bool.Decides.{nat_tests}
use Rattle.reading.specs.Reading.{Text, Read, ◌>>=◌, refuse, ascii}
use Rattle.reading.specs.Runs.{begins, run}
use Rattle.reading.proofs.Ascii.{ascii_is, no_ascii}
use Rattle.reading.proofs.RunLaws.{past_more, past_stop}
use Rattle.reading.proofs.Tools.{tested}
use Rattle.reading.proofs.Turns.{first_turn}
use Rattle.reading_tests.specs.declared.tree.Cause.{Cause}
use Rattle.reading_tests.specs.declared.tree.Cause.TheVariants.{BadToken}
use Rattle.reading_tests.specs.Nest.{is_blank, is_slash, gap_turn, gap}
use Rattle.reading_tests.specs.Grammar.{is_gap}
use Rattle.reading_tests.proofs.GapLaws.{blank_other, none_runs, gap_shortens}

-- one turn, and then as from where it left
step : (t : Text) → gap t ≡ (gap_turn tt t >>= λ x. cond x.0.0 (gap x.1) (Ok (tt, x.1)))
unfolding gap
step t = first_turn gap_turn gap_shortens BadToken tt t

-- the blanks at the front may be passed first
past_blanks : (t : Text) → gap t ≡ gap (run is_blank t).1
unfolding run gap_turn
past_blanks [] = refl
past_blanks (c ∷ t) =
    elim (tested (is_blank c)) [
      | inl is ↦
          let turn : gap_turn tt (c ∷ t) ≡ Ok ((true, tt), (run is_blank t).1) = rw (blank_other c is, is) refl in
          step (c ∷ t) ∙ ap (λ (x : Read Cause (Bool × Unit {0})). x >>= λ y. cond y.0.0 (gap y.1) (Ok (tt, y.1))) turn ∙ sym (ap gap (past_more is_blank c t is))
      | inr not ↦ sym (ap gap (past_stop is_blank (c ∷ t) not))
    ]

neither : (c : ℕ) (t : Text) → is_slash c ≡ false → is_blank c ≡ false → begins is_gap (c ∷ t) ≡ false
neither c t slash blank = rw (slash, blank) refl

-- a blank may be passed
pub gap_blank : (c : ℕ) (t : Text) → is_blank c ≡ true → gap (c ∷ t) ≡ gap t
gap_blank c t is = past_blanks (c ∷ t) ∙ ap gap (past_more is_blank c t is) ∙ sym (past_blanks t)

-- and so may a comment
pub gap_comment : (t u : Text) → gap_turn tt t ≡ Ok ((true, tt), u) → gap t ≡ gap u
gap_comment t u e = step t ∙ ap (λ (x : Read Cause (Bool × Unit {0})). x >>= λ y. cond y.0.0 (gap y.1) (Ok (tt, y.1))) e

-- what is refused in its place is refused
pub gap_refused : (t : Text) (why : Cause) → gap_turn tt t ≡ refuse why t → gap t ≡ refuse why t
gap_refused t why e = step t ∙ ap (λ (x : Read Cause (Bool × Unit {0})). x >>= λ y. cond y.0.0 (gap y.1) (Ok (tt, y.1))) e

-- and what else stands there ends the gap
pub gap_ends : (t : Text) → begins is_gap t ≡ false → gap t ≡ Ok (tt, t)
gap_ends t not =
    let turn : gap_turn tt t ≡ Ok ((false, tt), t) = none_runs t not in
    step t ∙ ap (λ (x : Read Cause (Bool × Unit {0})). x >>= λ y. cond y.0.0 (gap y.1) (Ok (tt, y.1))) turn

gap_low : (c : ℕ) → is_gap c ≡ true → c < 128
unfolding is_blank
gap_low c is = grind (arith, nat_tests)

pub gap_none : (t : Text) → ascii t ≡ None → gap t ≡ Ok (tt, t)
gap_none t e = gap_ends t (no_ascii is_gap t e gap_low)

pub gap_other : (t : Text) (c : ℕ) → ascii t ≡ Some c → is_slash c ≡ false → is_blank c ≡ false → gap t ≡ Ok (tt, t)
gap_other [] c e slash blank = absurd cc
gap_other (d ∷ t) c e slash blank = let same = ascii_is d c t e in gap_ends (d ∷ t) (ap is_gap same ∙ neither c t slash blank)

-- the comment leaves less
pub gap_less : (t u : Text) → gap_turn tt t ≡ Ok ((true, tt), u) → length u < length t
gap_less t u e = gap_shortens tt t tt u e

pub ruleset gap_laws = (gap_blank, gap_refused, gap_none, gap_less)
