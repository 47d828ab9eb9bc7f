-- The phases of a journal with the lines of one editor: in each phase first the entries of editor 1, in the order of its lines, and
-- then one drain, whose last entry is the report. Entries stand here in the order of the journal.
use Rattle.std.specs.Prelude.{◌≡◌, ℕ, false, List, [], ◌∷◌, ◌++◌, reverse}
use Rattle.audit_model.specs.declared.step.Call.TheVariants as calls
use Rattle.audit_model.specs.declared.step.Reply.TheVariants as replies
use Rattle.audit_model.specs.declared.step.StepRec.{StepRec}
use Rattle.audit_model.specs.declared.script.ScriptLine.{ScriptLine}
use Rattle.audit_model.specs.declared.script.Phase.{Phase}
use Rattle.audit_model.specs.Models.{IsModel}
use Rattle.audit_model.specs.Pairs.{NumberedFrom}
use Rattle.audit_model.specs.History.{Ground}
use Rattle.audit_model.specs.Machine.{Legal}
use Rattle.audit_model.specs.Drain.{IsDrain, caller_entry}
use Rattle.script_rules.specs.ScriptLines.{Follows, own}
use Rattle.script_rules.specs.ScriptOrder.{AreOrderly}
use Rattle.script_rules.specs.Serial.{serial, meets_full}

-- all of these entries are of this actor
abbrev pub AllBy : ℕ → List StepRec → Type 0
AllBy who [] = Unit {0}
AllBy who (e ∷ es) = (e.actor ≡ who) × AllBy who es

-- the last of these entries is a Publish of actor 0 that was answered with the report
abbrev pub EndsReported : List StepRec → Type 0
EndsReported es = (some : List StepRec) × (r : ℕ) × (es ≡ some ++ caller_entry calls.Publish (replies.Report r) ∷ [])

-- The entries of one phase: those of editor 1, in the order of its lines, and then a drain with its report, and no others.
pub record IsPhaseOf (lines : List ScriptLine) (es : List StepRec) : Type 0 where
  pub own_entries : List StepRec
  pub last : List StepRec
  pub split : es ≡ own_entries ++ last
  pub follows : Follows 1 (own 1 lines) own_entries
  pub by : AllBy 1 own_entries
  pub drain : IsDrain last
  pub reported : EndsReported last

-- The journal falls into the phases of the script, one after the other, and has no other entries.
abbrev pub ArePhases : List Phase → List StepRec → Type 0
ArePhases [] es = es ≡ []
ArePhases (p ∷ ps) es = (here rest : List StepRec) × (es ≡ here ++ rest) × IsPhaseOf p.lines here × ArePhases ps rest

-- The journal that an orderly script of editor 1 makes, where it meets no Full, falls into the phases of the script.
abbrev pub ScriptIsPhased : Type 0
ScriptIsPhased = (g : Ground) (phases : List Phase) → NumberedFrom 1 g.specs → IsModel g.first → AreOrderly 1 phases → meets_full g phases ≡ false →
    ArePhases phases (serial g phases)

-- And it is the only one: a legal journal that falls into the phases of the script is the journal that the script makes.
abbrev pub OnlySerial : Type 0
OnlySerial = (g : Ground) (phases : List Phase) (es : List StepRec) → NumberedFrom 1 g.specs → IsModel g.first → AreOrderly 1 phases → meets_full g phases ≡ false →
    ArePhases phases es → Legal g (reverse es) → es ≡ serial g phases
