-- Runs of a core over a list of calls by any actors.
use Rattle.std.specs.Prelude.{◌≡◌, true, ℕ, ◌⊎◌, List, [], ◌∷◌, ◌++◌}
use Rattle.audit_model.specs.declared.step.Call.{Call}
use Rattle.audit_model.specs.declared.step.Call.TheVariants as call
use Rattle.audit_model.specs.declared.step.Reply.{Reply}
use Rattle.audit_model.specs.declared.step.Reply.TheVariants.{Back, Report}
use Rattle.audit_model.specs.declared.step.StepRec.{StepRec}
use Rattle.audit_model.specs.Report.{audit_text}
use Rattle.audit_model.specs.History.{Ground, model_at}
use Rattle.audit_model.specs.Machine.{Legal}
use Rattle.audit_run.specs.declared.calls.Act.{Act}
use Rattle.audit_run.specs.declared.calls.Act.TheVariants as act
use Rattle.audit_run.specs.declared.calls.Asked.{Asked}
use Rattle.audit_run.specs.declared.hands.Taken.{Taken}
use Rattle.audit_core.specs.Cores.{CoreView}
use Rattle.audit_run.specs.Holding.{HandsView, AreTaken, AreBegun, has_begun}

-- After the history h the entry is of the call that the actor was to make. A commit is of a draft that the actor began.
abbrev pub IsCallOf : List StepRec → ℕ → Act → Call → Type 0
IsCallOf h actor act.Begin call.Begin = Unit {0}
IsCallOf h actor (act.Commit edits) (call.Commit base committed) = (committed ≡ edits) × (has_begun h actor base ≡ true)
IsCallOf h actor act.Take call.Claim = Unit {0}
IsCallOf h actor act.Give (call.Deliver number) = Unit {0}
IsCallOf h actor act.Give (call.GiveBack number) = Unit {0}
IsCallOf h actor act.Return (call.GiveBack number) = Unit {0}
IsCallOf h actor act.Publish call.Publish = Unit {0}
IsCallOf h actor _ _ = ⊥

-- after the history h the entry is of this actor, and of its call
pub record IsEntryOf (h : List StepRec) (asked : Asked) (e : StepRec) : Type 0 where
  pub by : e.actor ≡ asked.actor
  pub of : IsCallOf h asked.actor asked.act e.call

-- From the history h the actor's call goes to the history k: it adds one entry, or none.
abbrev pub IsStep : List StepRec → Asked → List StepRec → Type 0
IsStep h asked k = (k ≡ h) ⊎ ((e : StepRec) × ((k ≡ e ∷ h) × IsEntryOf h asked e))

-- From the history h the calls in turn go to the history k.
abbrev pub IsRun : List StepRec → List Asked → List StepRec → Type 0
IsRun h [] k = k ≡ h
IsRun h (asked ∷ more) k = (i : List StepRec) × (IsStep h asked i × IsRun i more k)

-- the audit from scratch that a reply stands for, if it is a report
abbrev pub reported : Ground → List StepRec → Reply → List (List ℕ)
reported g h (Report r) = audit_text g.schema g.specs (model_at g h r) r ∷ []
reported g h _ = []

-- the texts of the audits from scratch of the revisions that a history's reports name, the oldest first
abbrev pub reports : Ground → List StepRec → List (List ℕ)
reports g [] = []
reports g (e ∷ h) = reports g h ++ reported g h e.reply

-- What the hands hold is of this core: its claims are out, and its drafts were begun by their actors. The history is legal.
pub record IsHolding (core : CoreView) (hands : HandsView) : Type 0 where
  pub legal : Legal core.ground core.history
  pub claims : AreTaken core.ground core.history hands.claims
  pub drafts : AreBegun core.history hands.drafts

-- one call was played, and these reports were told
pub record IsPlayed (old new : CoreView) (hands : HandsView) (asked : Asked) (told : List (List ℕ)) : Type 0 where
  pub ground : new.ground ≡ old.ground
  pub step : IsStep old.history asked new.history
  pub reports_are : reports new.ground new.history ≡ reports old.ground old.history ++ told
  pub holding : IsHolding new hands

-- the calls were played in turn, and these reports were told
pub record IsPlay (old new : CoreView) (hands : HandsView) (calls : List Asked) (told : List (List ℕ)) : Type 0 where
  pub ground : new.ground ≡ old.ground
  pub run : IsRun old.history calls new.history
  pub reports_are : reports new.ground new.history ≡ reports old.ground old.history ++ told
  pub holding : IsHolding new hands

-- the entry by which the actor gives the claim back
abbrev pub return_of : Taken → StepRec
return_of t = record { actor = t.actor; call = call.GiveBack t.claim.number; reply = Back }
