-- What the core's fields are, by the history.
use Rattle.std.specs.Prelude.{◌≡◌, ℕ, ◌+◌, ◌≤◌, List, length, map}
use Rattle.std.specs.FinMap.{FinMap}
use Rattle.std.specs.Ordering.{nat_cmp}
use Rattle.ifc_base.specs.declared.key.Key.{Key}
use Rattle.audit_model.specs.declared.step.StepRec.{StepRec}
use Rattle.audit_model.specs.declared.step.Given.{Given}
use Rattle.audit_model.specs.Pairs.{NumberedFrom}
use Rattle.audit_model.specs.History.{Ground, AllModels, commits, current, revision, out, given, last_change}
use Rattle.audit_model.specs.Machine.{Legal}
use Rattle.model_view.specs.Views.{SnapshotView, IsSnapshotOf}
use Rattle.inverse_index.specs.Log.{last_in}
use Rattle.dirty_board.specs.Tallying.{BoardView, heading_of}
use Rattle.audit_core.specs.Rows.{board_of}

-- The snapshot is the current model and revision; the board has a heading for each specification and a row for each pair of the
-- current model; the claims are those that are out; the log has the last change of each key; `number` is that of the last claim; the
-- journal, with memory for `places` entries, keeps `room` of them, enough for the end of each claim that is out.
pub record IsKept (g : Ground) (h : List StepRec) (view : SnapshotView) (seen : BoardView) (held : List Given) (log : FinMap nat_cmp ℕ) (number room places : ℕ) : Type 0 where
  pub legal : Legal g h
  pub numbered : NumberedFrom 1 g.specs
  pub ascending : AllModels g (commits h)
  pub size : length (current g h) ≤ g.limits.instances
  pub now : IsSnapshotOf g.schema (current g h) (revision h) view
  pub headings : seen.headings ≡ map heading_of g.specs
  pub board : seen.rows ≡ board_of g h
  pub claims : held ≡ out h
  pub changes : (k : Key) → last_in log k ≡ last_change g h k
  pub number_is : number ≡ given h
  pub numbers : number ≤ length h
  pub fits : length h + length held ≤ room
  pub memory : room ≤ places
  pub few : length h + length held ≤ g.limits.steps
