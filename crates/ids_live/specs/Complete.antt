-- Which status a run has over inputs that the shelf tells, up to the first that is refused, and where nothing outside fails.
use Rattle.std.specs.Prelude.{◌≡◌, ℕ, List, ◌∷◌, [], true, false, Result, Ok, Err, IsErr, IsTrue, MatchResult}
use Rattle.ids_live.specs.declared.refused.Refused.{Refused}
use Rattle.ids_live.specs.Forms.{Loaded}
use Rattle.ids_live.specs.Lines.{refused_line}
use Rattle.ids_live.specs.Run.{is_among}
use Rattle.ids_live.specs.Steps.{serial, meets_full, output}

-- the inputs load, and their script is done before any call would be answered Full
abbrev pub IsPlayable : Result Loaded Refused → Type 0
IsPlayable loading = MatchResult loading (λ l. meets_full l ≡ false) (λ refused. ⊥)

-- the inputs load, and their script comes to a call that would be answered Full
abbrev pub IsOverfull : Result Loaded Refused → Type 0
IsOverfull loading = MatchResult loading (λ l. meets_full l ≡ true) (λ refused. ⊥)

-- Which inputs lead to which status: 0 and 1 only where they load and the script is done, 7 only where it meets Full, 2 only where an
-- input is refused; and where nothing outside failed and memory wasn't wanting, they do.
pub record IsComplete (loading : Result Loaded Refused) (shelf_failed sink_failed : Type 0) (status : ℕ) : Type 0 where
  pub ran : IsTrue (is_among (0 ∷ 1 ∷ []) status) → IsPlayable loading
  pub filled : status ≡ 7 → IsOverfull loading
  pub refused : status ≡ 2 → IsErr loading
  pub runs : IsPlayable loading → (shelf_failed → ⊥) → (sink_failed → ⊥) → (status ≡ 5 → ⊥) → IsTrue (is_among (0 ∷ 1 ∷ []) status)
  pub fills : IsOverfull loading → (shelf_failed → ⊥) → (sink_failed → ⊥) → (status ≡ 5 → ⊥) → status ≡ 7
  pub refuses : IsErr loading → (shelf_failed → ⊥) → (sink_failed → ⊥) → (status ≡ 5 → ⊥) → status ≡ 2

-- what is to be written: the text of the history, or the line of the refused input
unfoldable pub wanted : Result Loaded Refused → List ℕ
wanted (Ok l) = output l (serial l)
wanted (Err refused) = refused_line refused

-- Where the shelf is steady at the inputs, up to the first that is refused, it doesn't fail; where the sink is sure to take what is to be
-- written, it doesn't fail. Then no count rises.
pub record IsSure (steady sure shelf_calm sink_calm : Type 0) (status : ℕ) : Type 0 where
  pub reads : steady → shelf_calm × (status ≡ 3 → ⊥)
  pub writes : sure → sink_calm × (status ≡ 4 → ⊥)
