-- Laws of the runs of scripts, each the contract of a function without a body.
use Rattle.std.specs.Prelude.{◌≡◌, ◌+◌, ◌*◌, ◌≤◌, ◌⊎◌, true, false, List, [], ◌∷◌, ◌++◌, length, reverse}
use Rattle.audit_model.specs.declared.step.StepRec.{StepRec}
use Rattle.audit_model.specs.declared.script.Phase.{Phase}
use Rattle.audit_model.specs.Models.{IsModel}
use Rattle.audit_model.specs.Pairs.{NumberedFrom}
use Rattle.audit_model.specs.Report.{audit_text}
use Rattle.audit_model.specs.History.{Ground, pairs_in, out}
use Rattle.audit_model.specs.Machine.{Legal}
use Rattle.audit_model.specs.Drain.{drain, unsettled, drain_after}
use Rattle.script_rules.specs.Serial.{done, drain_done, serial, meets_full}
use Rattle.script_rules.specs.ScriptLines.{free}
use Rattle.script_rules.specs.Output.{output}
use Rattle.script_rules.specs.Telling.{told, is_of_one_editor}

-- one phase without lines
abbrev pub only_sync : List Phase
only_sync = record { lines = [] } ∷ []

-- the limit of steps has room for a drain of the file: two entries for each pair, the Idle and the report
abbrev pub HasRoomToDrain : Ground → Type 0
HasRoomToDrain g = 2 * length (pairs_in g g.first) + 2 ≤ g.limits.steps

-- A script of one `sync` makes the drain of the file, and its output is the report of the file's model as revision 0.
abbrev pub SyncDrainsFile : Type 0
SyncDrainsFile = (g : Ground) → NumberedFrom 1 g.specs → IsModel g.first → HasRoomToDrain g →
    (serial g only_sync ≡ drain g) × (meets_full g only_sync ≡ false) × (output g (serial g only_sync) ≡ audit_text g.schema g.specs g.first 0)

-- After a legal history in which no claim is out the drain at the end of a phase is `drain_after`, where the limit of steps has room
-- for it: two entries for each unsettled pair, the Idle and the report.
abbrev pub DrainIsDone : Type 0
DrainIsDone = (g : Ground) (h : List StepRec) → NumberedFrom 1 g.specs → IsModel g.first → Legal g h → out h ≡ [] →
    length h + 2 * length (unsettled g h) + 2 ≤ g.limits.steps → drain_done g h ≡ done (reverse (drain_after g h) ++ h) free

-- The history that phases make is legal, whatever their lines.
abbrev pub SerialIsLegal : Type 0
SerialIsLegal = (g : Ground) (phases : List Phase) → Legal g (reverse (serial g phases))

-- After a legal history in which no claim is out the drain at the end of a phase is `drain_after`, whose last entry is the report, or
-- it ended before a call that would be answered Full.
abbrev pub DrainEnds : Type 0
DrainEnds = (g : Ground) (h : List StepRec) → NumberedFrom 1 g.specs → IsModel g.first → Legal g h → out h ≡ [] →
    ((drain_done g h).full ≡ true) ⊎ (drain_done g h ≡ done (reverse (drain_after g h) ++ h) free)

-- The output of a legal history with the lines of one editor is what is told of it, entry by entry.
abbrev pub OutputIsTold : Type 0
OutputIsTold = (g : Ground) (h : List StepRec) → Legal g h → is_of_one_editor h ≡ true → output g (reverse h) ≡ (told g h).whole
