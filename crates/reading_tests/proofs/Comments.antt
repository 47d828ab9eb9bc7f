-- Runs within comments.
use Rattle.std.proofs.Common.{◌≡◌, ℕ, ◌≤◌, Bool, true, false, eqb, [], ◌∷◌, length, refl, sym, ap, ◌∙◌, inl, inr}
use Rattle.std.specs.Prelude.{not}
use Rattle.reading.specs.Reading.{Text}
use Rattle.reading.specs.Runs.{run}
use Rattle.reading.proofs.RunLaws.{past_more, past_stop, run_is, run_shorter}
use Rattle.reading.proofs.Tools.{tested}
use Rattle.reading_tests.specs.Nest.{comment, is_no_star}

not_star : (b : Bool) → not b ≡ true → b ≡ false
not_star true e = absurd cc
not_star false e = refl

-- in a comment with no star before, all up to the next star may be passed
pub past_no_star : (start t : Text) → comment false start (run is_no_star t).1 ≡ comment false start t
unfolding comment run
past_no_star start [] = refl
past_no_star start (c ∷ t) =
    elim (tested (is_no_star c)) [
      | inl is ↦ ap (comment false start) (past_more is_no_star c t is) ∙ past_no_star start t ∙ sym (ap (λ (b : Bool). comment b start t) (not_star (eqb c 42) is))
      | inr ends ↦ ap (comment false start) (past_stop is_no_star (c ∷ t) ends)
    ]

pub no_longer : (t : Text) → length (run is_no_star t).1 ≤ length t
no_longer t = run_shorter (run_is is_no_star t)

pub ruleset comment_laws = (past_no_star, no_longer)
