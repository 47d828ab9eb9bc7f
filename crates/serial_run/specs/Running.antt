-- What the lines of a phase, a drain, and a phase leave. Histories stand here with the newest entry first.
use Rattle.std.specs.Prelude.{◌≡◌, ℕ, Bool, true, false, List, [], ◌∷◌, ◌++◌, Result, Ok, Err}
use Rattle.ifc_base.specs.declared.value.Instance.{Instance}
use Rattle.audit_model.specs.Report.{audit_text}
use Rattle.audit_model.specs.Models.{IsModel}
use Rattle.audit_model.specs.Pairs.{NumberedFrom}
use Rattle.audit_model.specs.History.{Ground}
use Rattle.audit_model.specs.declared.step.StepRec.{StepRec}
use Rattle.script_rules.specs.Output.{ends_phase}
use Rattle.script_rules.specs.ScriptLines.{Place, free}
use Rattle.script_rules.specs.Serial.{Done, Run}
use Rattle.script_rules.specs.Telling.{told, is_of_one_editor}
use Rattle.model_view.specs.declared.answers.Halt.{Halt}
use Rattle.audit_core.specs.Cores.{CoreView}
use Rattle.serial_run.specs.declared.editor.Editor.{Editor}
use Rattle.serial_run.specs.Course.{IsDone, IsStopped}
use Rattle.serial_run.specs.Turns.{IsFree}

-- The lines of the phase were told as `before`, and are told as `after` now. The text of the whole phases is as it was, and all
-- entries are still of actor 0 and editor 1.
pub record Tells (old new : CoreView) (before after : List ℕ) : Type 0 where
  pub lines : before ≡ (told old.ground old.history).lines → after ≡ (told new.ground new.history).lines
  pub whole : (told new.ground new.history).whole ≡ (told old.ground old.history).whole
  pub alone : is_of_one_editor old.history ≡ true → is_of_one_editor new.history ≡ true

abbrev pub Steps : Done → CoreView → CoreView → List ℕ → List ℕ → Result Editor Halt → Type 0
Steps d old new before after (Ok e) = IsDone d old new 1 e × Tells old new before after
Steps d old new before after (Err why) = IsStopped why d old new

-- The run of a script has come to this core: it has its history, goes on, and editor 1 is at this place.
pub record AtRun (s : Run) (core : CoreView) (p : Place) : Type 0 where
  pub history : s.history ≡ core.history
  pub going : s.full ≡ false
  pub place_is : s.places 1 ≡ p

-- a run as the end of a course
abbrev pub done_of : Run → Done
done_of s = record { history = s.history; place = free; full = s.full }

-- the run of the script, s, has come to the core, and no claim is out
pub record IsReached (s : Run) (old new : CoreView) : Type 0 where
  pub ground : new.ground ≡ old.ground
  pub at : AtRun s new free
  pub free : IsFree new

-- The lines of a phase were done and told; or the run was stopped.
abbrev pub LeavesLinesTold : {A : Type 0} → Run → CoreView → CoreView → List ℕ → List ℕ → Result A Halt → Type 0
LeavesLinesTold s old new before after (Ok done) = IsReached s old new × Tells old new before after
LeavesLinesTold s old new before after (Err why) = IsStopped why (done_of s) old new

-- what a core of this ground needs so that a drain ends with a report
pub record IsSound (g : Ground) : Type 0 where
  pub numbered : NumberedFrom 1 g.specs
  pub ascending : IsModel g.first

-- the last entry ends a phase
abbrev pub ends_now : List StepRec → Bool
ends_now [] = false
ends_now (e ∷ h) = ends_phase e

-- The phase ends with this report, the audit from scratch of some revision: its text follows on the lines.
pub record IsReported (old new : CoreView) (report : List ℕ) : Type 0 where
  pub model : List Instance
  pub revision : ℕ
  pub report_is : report ≡ audit_text old.ground.schema old.ground.specs model revision
  pub whole : (told new.ground new.history).whole ≡ (told old.ground old.history).whole ++ (told old.ground old.history).lines ++ report
  pub lines : (told new.ground new.history).lines ≡ []
  pub alone : is_of_one_editor old.history ≡ true → is_of_one_editor new.history ≡ true
  pub ended : ends_now new.history ≡ true

abbrev pub Drains : Done → CoreView → CoreView → Result (List ℕ) Halt → Type 0
Drains d old new (Ok report) =
    (d.history ≡ new.history) × (d.full ≡ false) × (new.ground ≡ old.ground) × IsFree new × IsReported old new report
Drains d old new (Err why) = IsStopped why d old new

-- The phase has this text: the lines and the report, where no line was told before it.
pub record IsPhase (s : Run) (old new : CoreView) (text : List ℕ) : Type 0 where
  pub reached : IsReached s old new
  pub lines : List ℕ
  pub report : List ℕ
  pub text_is : text ≡ lines ++ report
  pub model : List Instance
  pub revision : ℕ
  pub report_is : report ≡ audit_text old.ground.schema old.ground.specs model revision
  pub whole : (told old.ground old.history).lines ≡ [] → (told new.ground new.history).whole ≡ (told old.ground old.history).whole ++ text
  pub none : (told new.ground new.history).lines ≡ []
  pub ended : ends_now new.history ≡ true
  pub alone : is_of_one_editor old.history ≡ true → is_of_one_editor new.history ≡ true

abbrev pub Phases : Run → CoreView → CoreView → Result (List ℕ) Halt → Type 0
Phases s old new (Ok text) = IsPhase s old new text
Phases s old new (Err why) = IsStopped why (done_of s) old new
