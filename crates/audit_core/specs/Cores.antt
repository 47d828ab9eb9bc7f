-- What contracts see of a core: its history, and room that only preparing and finishing a commit speak of.
use Rattle.std.specs.Prelude.{ℕ, List}
use Rattle.audit_model.specs.declared.step.StepRec.{StepRec}
use Rattle.audit_model.specs.History.{Ground}

-- `history` has the entries, the newest first. `spare` is the room of the journal for entries beside one for the end of each claim that is
-- out.
pub record CoreView : Type 0 where
  pub ground : Ground
  pub history : List StepRec
  pub spare : ℕ
