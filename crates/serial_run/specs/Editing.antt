-- What an editor has between two lines of a script, and what stands of it.
use Rattle.std.specs.Prelude.{◌≡◌, ℕ, ◌≤◌, Bool, true, false, List, [], ◌∷◌, Option, Some, None}
use Rattle.audit_model.specs.declared.commit.Edit.{Edit}
use Rattle.audit_model.specs.declared.step.Given.{Given}
use Rattle.audit_model.specs.declared.step.StepRec.{StepRec}
use Rattle.audit_model.specs.History.{Ground, out, revision}
use Rattle.audit_model.specs.Machine.{Legal}
use Rattle.script_rules.specs.ScriptLines.{Place, place}
use Rattle.model_view.specs.Answers.{given_of}
use Rattle.model_view.specs.Findings.{IsFindingOf}
use Rattle.model_view.specs.Views.{DraftView, FindingView}
use Rattle.audit_core.specs.Cores.{CoreView}
use Rattle.audit_run.specs.declared.hands.Taken.{Taken}
use Rattle.audit_run.specs.Holding.{IsTaken}
use Rattle.serial_run.specs.declared.editor.Editor.{Editor}
use Rattle.serial_run.specs.declared.editor.Held.{Held}
use Rattle.serial_run.specs.declared.editor.Held.TheVariants as held

-- As the definitions of script lines see it.

abbrev pub draft_of : Option DraftView → Option (ℕ × List Edit)
draft_of None = None
draft_of (Some d) = Some (d.base.revision, d.edits)

abbrev pub held_of : Held → Option (Option ℕ)
held_of held.Nothing = None
held_of held.Idle = Some None
held_of (held.Found f) = Some (Some f.claim.number)

abbrev pub place_of : Editor → Place
place_of e = place (draft_of e.draft) (held_of e.held)

abbrev pub is_drafting : Option DraftView → Bool
is_drafting None = false
is_drafting (Some d) = true

abbrev pub is_holding : Held → Bool
is_holding held.Nothing = false
is_holding held.Idle = true
is_holding (held.Found f) = true

-- As the core sees it.

-- the claims that are out by what this actor holds
abbrev pub out_of : ℕ → Held → List Given
out_of who held.Nothing = []
out_of who held.Idle = []
out_of who (held.Found f) = given_of who f.claim ∷ []

-- the finding is of a claim that is out, at the model of its revision, and true there
abbrev pub IsReady : Ground → List StepRec → ℕ → FindingView → Type 0
IsReady g h who f = IsTaken g h (record { actor = who; claim = f.claim }) × IsFindingOf g.schema g.specs f.claim f

abbrev pub HoldsReady : Ground → List StepRec → ℕ → Held → Type 0
HoldsReady g h who held.Nothing = Unit {0}
HoldsReady g h who held.Idle = Unit {0}
HoldsReady g h who (held.Found f) = IsReady g h who f

abbrev pub IsSoFar : ℕ → Option DraftView → Type 0
IsSoFar r None = Unit {0}
IsSoFar r (Some d) = d.base.revision ≤ r

-- What this actor holds is of the core, and no other claim is out.
pub record HoldsIn (core : CoreView) (who : ℕ) (h : Held) : Type 0 where
  pub legal : Legal core.ground core.history
  pub ready : HoldsReady core.ground core.history who h
  pub out_is : out core.history ≡ out_of who h

-- The editor's draft is of a revision so far, and what it holds is of the core.
pub record WorksIn (core : CoreView) (who : ℕ) (e : Editor) : Type 0 where
  pub draft : IsSoFar (revision core.history) e.draft
  pub holds : HoldsIn core who e.held
