-- What a whole run of a script leaves. Histories stand here with the newest entry first, journals with the oldest first.
use Rattle.std.specs.Prelude.{◌≡◌, ℕ, nat_eq, ◌+◌, ◌<◌, ◌≤◌, Bool, true, false, List, [], ◌∷◌, ◌++◌, take, length, reverse, codes, if◌then◌else◌, Option}
use Rattle.std.specs.List.{ends_with}
use Rattle.shelf_io.specs.Causes.{Rose}
use Rattle.shelf_io.specs.Pieces.{Appended}
use Rattle.audit_model.specs.declared.step.StepRec.{StepRec}
use Rattle.audit_model.specs.declared.script.Phase.{Phase}
use Rattle.audit_model.specs.History.{Ground, out}
use Rattle.audit_model.specs.Machine.{Legal}
use Rattle.script_rules.specs.Output.{ends_phase, output}
use Rattle.script_rules.specs.Serial.{fresh, phases_run, serial, meets_full}
use Rattle.serial_run.specs.declared.run.End.{End}
use Rattle.serial_run.specs.declared.run.End.TheVariants as ending
use Rattle.serial_run.specs.declared.run.Ran.{Ran}
use Rattle.serial_run.specs.Growth.{IsLater, returned}
use Rattle.serial_run.specs.Running.{ends_now}

-- The text ends with the line `end pass`.
unfoldable pub ends_pass : List ℕ → Bool
ends_pass text = ends_with nat_eq text (codes "end pass\n")

-- the history that the script makes
abbrev pub script_history : Ground → List Phase → List StepRec
script_history g phases = (phases_run g phases fresh).history

-- how many phases have come to their end
abbrev pub ends : List StepRec → ℕ
ends [] = 0
ends (e ∷ h) = if ends_phase e then ends h + 1 else ends h

-- All was done: the journal is the history that the script makes, and its output was written.
pub record IsWhole (g : Ground) (phases : List Phase) (old new : Option (List ℕ)) (journal : List StepRec) : Type 0 where
  pub not_full : meets_full g phases ≡ false
  pub journal_is : journal ≡ serial g phases
  pub text : Appended old new (output g journal)

-- The journal is a front of the history that the script makes, and behind it the return of each claim that was out.
pub record IsCut (g : Ground) (phases : List Phase) (journal : List StepRec) : Type 0 where
  pub front : List StepRec
  pub within : IsLater front (script_history g phases)
  pub back : reverse journal ≡ returned front

-- The sink failed in the text of the last phase, which is whole, with no claim out: that of all earlier phases was written, and a front
-- of its own, at least one byte less than the whole.
pub record IsUnwritten (g : Ground) (phases : List Phase) (old new : Option (List ℕ)) (journal : List StepRec) : Type 0 where
  pub within : IsLater (reverse journal) (script_history g phases)
  pub early : List StepRec
  pub later : IsLater early (reverse journal)
  pub ended : ends_now (reverse journal) ≡ true
  pub none_out : out (reverse journal) ≡ []
  pub few : ends (reverse journal) ≤ ends early + 1
  pub last : List ℕ
  pub split : output g journal ≡ output g (reverse early) ++ last
  pub count : ℕ
  pub short : count < length last
  pub written : Appended old new (output g (reverse early) ++ take count last)

-- Before a call that would be answered Full the script has come to its end. The text of the whole phases was written.
pub record IsFull (g : Ground) (phases : List Phase) (old new : Option (List ℕ)) (journal : List StepRec) : Type 0 where
  pub full : meets_full g phases ≡ true
  pub back : reverse journal ≡ returned (script_history g phases)
  pub text : Appended old new (output g journal)

-- Memory was wanting. The text of the whole phases was written, but that of the last may be missing.
pub record IsLeft (g : Ground) (phases : List Phase) (old new : Option (List ℕ)) (journal : List StepRec) : Type 0 where
  pub cut : IsCut g phases journal
  pub early : List StepRec
  pub later : IsLater early (reverse journal)
  pub few : ends (reverse journal) ≤ ends early + 1
  pub written : Appended old new (output g (reverse early))

abbrev pub IsEndedBy : Ground → List Phase → Option (List ℕ) → Option (List ℕ) → List StepRec → End → Type 0
IsEndedBy g phases old new journal ending.Passed = IsWhole g phases old new journal × (ends_pass (output g journal) ≡ true)
IsEndedBy g phases old new journal ending.Failed = IsWhole g phases old new journal × (ends_pass (output g journal) ≡ false)
IsEndedBy g phases old new journal ending.Unwritten = IsUnwritten g phases old new journal
IsEndedBy g phases old new journal ending.Full = IsFull g phases old new journal
IsEndedBy g phases old new journal ending.Memory = IsLeft g phases old new journal

-- The journal is legal, and what was done and written is as its end says.
pub record IsRan (g : Ground) (phases : List Phase) (old new : Option (List ℕ)) (ran : Ran) : Type 0 where
  pub legal : Legal g (reverse ran.journal)
  pub ended : IsEndedBy g phases old new ran.journal ran.end

-- The sink's count of faults has risen where it failed, and else it stands still.
abbrev pub IsFinished : ℕ → ℕ → End → Type 0
IsFinished before faults ending.Unwritten = (before ≤ faults) × Rose before faults
IsFinished before faults ending.Passed = faults ≡ before
IsFinished before faults ending.Failed = faults ≡ before
IsFinished before faults ending.Full = faults ≡ before
IsFinished before faults ending.Memory = faults ≡ before

-- the sink didn't fail
abbrev pub IsWritten : End → Type 0
IsWritten ending.Unwritten = ⊥
IsWritten ending.Passed = Unit {0}
IsWritten ending.Failed = Unit {0}
IsWritten ending.Full = Unit {0}
IsWritten ending.Memory = Unit {0}
