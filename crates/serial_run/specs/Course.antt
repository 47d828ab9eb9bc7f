-- What a part of a run leaves: it was done, or it was stopped for want of memory or before a call that would be answered Full.
use Rattle.std.specs.Prelude.{◌≡◌, ℕ, true, false, List, [], Option, Some, None, Result, Ok, Err}
use Rattle.audit_model.specs.declared.step.StepRec.{StepRec}
use Rattle.audit_model.specs.History.{out}
use Rattle.audit_model.specs.Machine.{Legal, publish_reply}
use Rattle.script_rules.specs.Output.{report_in}
use Rattle.script_rules.specs.Serial.{Done}
use Rattle.model_view.specs.declared.answers.Halt.{Halt}
use Rattle.model_view.specs.declared.answers.Halt.TheVariants as halt
use Rattle.audit_core.specs.Cores.{CoreView}
use Rattle.serial_run.specs.declared.editor.Editor.{Editor}
use Rattle.serial_run.specs.Growth.{IsLater, returned}
use Rattle.serial_run.specs.Editing.{WorksIn, place_of}

-- all claims that were out were given back
pub record IsReturned (old new : CoreView) : Type 0 where
  pub ground : new.ground ≡ old.ground
  pub history : new.history ≡ returned old.history
  pub legal : Legal new.ground new.history

-- before a call that would be answered Full the course has come to its end, k
abbrev pub IfFull : Halt → Done → List StepRec → Type 0
IfFull halt.Full d k = (d.full ≡ true) × (k ≡ d.history)
IfFull halt.Memory d k = Unit {0}

-- A course that would lead to d was stopped: the history went on from the old one towards d, and then each claim that was out was
-- given back.
pub record IsStopped (why : Halt) (d : Done) (old new : CoreView) : Type 0 where
  pub ground : new.ground ≡ old.ground
  pub legal : Legal new.ground new.history
  pub front : List StepRec
  pub since : IsLater old.history front
  pub within : IsLater front d.history
  pub at_full : IfFull why d front
  pub back : new.history ≡ returned front

-- the line was done, and the editor has this then
pub record IsDone (d : Done) (old new : CoreView) (who : ℕ) (e : Editor) : Type 0 where
  pub ground : new.ground ≡ old.ground
  pub history : d.history ≡ new.history
  pub not_full : d.full ≡ false
  pub place_is : d.place ≡ place_of e
  pub works : WorksIn new who e

-- The line was done, and the editor has this then; or its course was stopped.
abbrev pub LeavesEditor : Done → CoreView → CoreView → ℕ → Result Editor Halt → Type 0
LeavesEditor d old new who (Ok e) = IsDone d old new who e
LeavesEditor d old new who (Err why) = IsStopped why d old new

-- the text of a report, if there is one
abbrev pub text_in : Option (List ℕ) → List ℕ
text_in None = []
text_in (Some text) = text

-- what was published was done, and this is the text of the report that the reply gives, if it does
abbrev pub Publishes : Done → CoreView → CoreView → ℕ → Result (Editor × Option (List ℕ)) Halt → Type 0
Publishes d old new who (Ok done) =
    IsDone d old new who done.0 × (text_in done.1 ≡ report_in new.ground new.history (publish_reply old.ground old.history))
Publishes d old new who (Err why) = IsStopped why d old new

-- rounds were done, and no claim is out
pub record AreRounds (d : Done) (old new : CoreView) : Type 0 where
  pub ground : new.ground ≡ old.ground
  pub history : d.history ≡ new.history
  pub not_full : d.full ≡ false
  pub legal : Legal new.ground new.history
  pub none_out : out new.history ≡ []

abbrev pub Works : {A : Type 0} → Done → CoreView → CoreView → Result A Halt → Type 0
Works d old new (Ok done) = AreRounds d old new
Works d old new (Err why) = IsStopped why d old new
