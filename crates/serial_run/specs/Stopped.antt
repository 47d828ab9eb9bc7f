-- The journal of a script with the lines of one editor that was stopped: some phases are whole, and of the next a front was done;
-- then the claim that was held was given back. Entries stand here in the order of the journal.
use Rattle.std.specs.Prelude.{◌≡◌, ℕ, ◌<◌, ◌≤◌, ◌+◌, true, List, [], ◌∷◌, ◌++◌, length, reverse, Option, Some, None, ◌⊎◌}
use Rattle.audit_model.specs.declared.verdict.Pair.{Pair}
use Rattle.audit_model.specs.declared.step.Call.TheVariants as calls
use Rattle.audit_model.specs.declared.step.Reply.TheVariants as replies
use Rattle.audit_model.specs.declared.step.StepRec.{StepRec}
use Rattle.audit_model.specs.declared.script.Act.{Act}
use Rattle.audit_model.specs.declared.script.Act.TheVariants.{Begin, Change, Commit, Publish, Take, Give, Work}
use Rattle.audit_model.specs.declared.script.ScriptLine.{ScriptLine}
use Rattle.audit_model.specs.declared.script.Phase.{Phase}
use Rattle.audit_model.specs.Models.{IsModel}
use Rattle.audit_model.specs.Pairs.{NumberedFrom}
use Rattle.audit_model.specs.History.{Ground, out}
use Rattle.script_rules.specs.ScriptLines.{Place, free, entry, Turns, Rounds, Does, Follows, own}
use Rattle.script_rules.specs.ScriptOrder.{AreOrderly}
use Rattle.serial_run.specs.Phased.{IsPhaseOf}
use Rattle.script_rules.specs.Serial.{meets_full}
use Rattle.serial_run.specs.Growth.{returned}
use Rattle.serial_run.specs.Runs.{IsCut, script_history}

-- the number of the claim that an editor holds; none where it holds nothing, or an Idle
abbrev pub held_number : Option (Option ℕ) → Option ℕ
held_number None = None
held_number (Some number) = number

-- Stopped within n rounds of Claim and Deliver: after fewer whole rounds, or behind the claim of the next round, which is then held.
abbrev pub StopsInRounds : ℕ → ℕ → List StepRec → Option ℕ → Type 0
StopsInRounds who n es held =
    (k : ℕ) × (some : List StepRec) × (k < n) × Turns who k some
    × (((es ≡ some) × (held ≡ None))
    ⊎ ((number : ℕ) × (pair : Pair) × (at : ℕ) × (es ≡ some ++ entry who calls.Claim (replies.Claimed number pair at) ∷ []) × (held ≡ Some number)))

-- Only a `work` can be stopped within.
abbrev pub StopsInLine : ℕ → Act → List StepRec → Option ℕ → Type 0
StopsInLine who (Work n) es held = StopsInRounds who n es held
StopsInLine who act es held = ⊥

-- A front of the lines was done, each once and in their order: the editor stopped before a line, or within a `work`, or behind the
-- last. The number is that of the claim that it held then.
abbrev pub StopsFrom : ℕ → Place → List Act → List StepRec → Option ℕ → Type 0
StopsFrom who p [] es held = (es ≡ []) × (held ≡ held_number p.held)
StopsFrom who p (a ∷ acts) es held =
    ((es ≡ []) × (held ≡ held_number p.held))
    ⊎ (StopsInLine who a es held
    ⊎ ((mid : Place) × (here rest : List StepRec) × (es ≡ here ++ rest) × Does who a p here mid × StopsFrom who mid acts rest held))

-- A drain that stopped before its report: rounds of actor 0, or fewer and then an Idle, or within them.
abbrev pub StopsInDrain : List StepRec → Option ℕ → Type 0
StopsInDrain es held = (n : ℕ) × (StopsInRounds 0 n es held ⊎ (Rounds 0 n es × (held ≡ None)))

-- the return of the claim that is held, if one is
abbrev pub back_of : ℕ → Option ℕ → List StepRec
back_of who None = []
back_of who (Some number) = entry who (calls.GiveBack number) replies.Back ∷ []

-- The phase stopped in the lines of editor 1, and the editor gave back what it held.
pub record StopsInLines (lines : List ScriptLine) (es : List StepRec) : Type 0 where
  pub own_entries : List StepRec
  pub held : Option ℕ
  pub split : es ≡ own_entries ++ back_of 1 held
  pub stops : StopsFrom 1 free (own 1 lines) own_entries held

-- The lines were done; then the drain stopped, and actor 0 gave back what it held.
pub record StopsBehindLines (lines : List ScriptLine) (es : List StepRec) : Type 0 where
  pub own_entries : List StepRec
  pub last : List StepRec
  pub held : Option ℕ
  pub split : es ≡ own_entries ++ (last ++ back_of 0 held)
  pub follows : Follows 1 (own 1 lines) own_entries
  pub stops : StopsInDrain last held

-- Some phases of the script are whole, one after the other; then one stopped, or none is left. There are no other entries.
abbrev pub AreStopped : List Phase → List StepRec → Type 0
AreStopped [] es = es ≡ []
AreStopped (p ∷ ps) es =
    StopsInLines p.lines es
    ⊎ (StopsBehindLines p.lines es
    ⊎ ((here rest : List StepRec) × (es ≡ here ++ rest) × IsPhaseOf p.lines here × AreStopped ps rest))

-- A journal that is a front of the history of an orderly script of editor 1, and behind it the return of each claim that was out, is
-- that of a script that was stopped; and no claim is out at its end.
abbrev pub StopIsPhased : Type 0
StopIsPhased = (g : Ground) (phases : List Phase) (journal : List StepRec) → NumberedFrom 1 g.specs → IsModel g.first → AreOrderly 1 phases → IsCut g phases journal →
    AreStopped phases journal × (out (reverse journal) ≡ [])

-- Where a script comes to a call that would be answered Full, the history up to there, with the return of each claim that was out behind
-- it, has as many entries as the limit of steps but one.
abbrev pub FullIsLong : Type 0
FullIsLong = (g : Ground) (phases : List Phase) (journal : List StepRec) → meets_full g phases ≡ true → reverse journal ≡ returned (script_history g phases) →
    g.limits.steps ≤ length journal + 1
