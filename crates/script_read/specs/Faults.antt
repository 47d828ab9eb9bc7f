-- What a script is read as, or its first fault.
use Rattle.std.specs.Prelude.{ℕ, suc, ◌+◌, min, Bool, true, false, not, ◌&&◌, ◌||◌, List, [], ◌∷◌, length, Option, Some, None, Result, Ok, Err, nat_le, if◌then◌else◌}
use Rattle.audit_model.specs.declared.script.Act.TheVariants.{Begin, Change, Commit, Publish, Take, Give, Work}
use Rattle.reading.specs.declared.fault.Fault.{Fault}
use Rattle.script_read.specs.declared.fault.ScriptCause.{ScriptCause}
use Rattle.script_read.specs.declared.fault.ScriptCause.TheVariants.{BadLine, TooManyActors, Holding, NotHolding, DraftOpen, NoDraft, TooManyEdits, NoSync}
use Rattle.script_read.specs.declared.read.Script.{Script}
use Rattle.script_read.specs.Lines.{script_lines}
use Rattle.script_read.specs.LineForm.{meaning}
use Rattle.script_read.specs.Said.{Said, nothing, editor, does, sync, is_editor}
use Rattle.script_read.specs.Standing.{own, holds, draft, is_some, somebody_holds, somebody_drafts, ends_in_sync, phases_of}

-- ---- which lines are looked at

-- `take` and `work`
abbrev pub claims : Said → Bool
claims (does Take) = true
claims (does (Work n)) = true
claims other = false

abbrev pub gives : Said → Bool
gives (does Give) = true
gives other = false

abbrev pub opens : Said → Bool
opens (does Begin) = true
opens other = false

-- `add`, `set` and `remove`
abbrev pub edits : Said → Bool
edits (does (Change e)) = true
edits other = false

abbrev pub commits : Said → Bool
commits (does Commit) = true
commits other = false

abbrev pub syncs : Said → Bool
syncs sync = true
syncs other = false

-- `editor K` with a K that is no editor's
abbrev pub names_nobody : Said → Bool
names_nobody (editor k) = not (is_editor k)
names_nobody other = false

-- the most edits of a draft
abbrev pub most_edits : ℕ
most_edits = 10000

abbrev pub is_full : Option ℕ → Bool
is_full None = false
is_full (Some n) = nat_le most_edits n

-- ---- the fault of a line

-- The causes in their order, and where each holds: of what a line says behind the lines that came. Those of an act are said of the editor
-- whose line it is.
abbrev pub causes : List Said → Said → List (Bool × ScriptCause)
causes came said =
    (names_nobody said, TooManyActors)
    ∷ ((claims said && holds (own came)) || (syncs said && somebody_holds came), Holding)
    ∷ (gives said && not (holds (own came)), NotHolding)
    ∷ ((opens said && is_some (draft (own came))) || (syncs said && somebody_drafts came), DraftOpen)
    ∷ ((edits said || commits said) && not (is_some (draft (own came))), NoDraft)
    ∷ (edits said && is_full (draft (own came)), TooManyEdits)
    ∷ []

-- the first cause that holds
abbrev pub first_cause : List (Bool × ScriptCause) → Option ScriptCause
first_cause [] = None
first_cause (c ∷ cs) = if c.0 then Some c.1 else first_cause cs

-- Behind the lines that came: the lines with this one, or its cause. BadLine comes first: the line says nothing that a line may say.
abbrev pub judged : List Said → Said → Option ScriptCause → Result (List Said) ScriptCause
judged came said None = Ok (said ∷ came)
judged came said (Some why) = Err why

abbrev pub judged_by : List Said → Option Said → Result (List Said) ScriptCause
judged_by came None = Err BadLine
judged_by came (Some said) = judged came said (first_cause (causes came said))

unfoldable pub with_line : List Said → List ℕ → Result (List Said) ScriptCause
with_line came text = judged_by came (meaning text)

-- ---- the first fault

-- The fault in the line of this number. A number past 4,294,967,295 is that.
abbrev pub fault_at : {A : Type 0} → ℕ → ScriptCause → Result A (Fault ScriptCause)
fault_at number why = Err (record { line = min number 0xFFFF_FFFF; why = why })

-- Behind all lines: the phases, where the last line that isn't empty is `sync`. Else the fault is at the last line, whose number is 1 plus
-- that of the line feeds.
abbrev pub ended : List Said → Result Script (Fault ScriptCause)
ended came = if ends_in_sync came then Ok (record { phases = phases_of came }) else fault_at (length came) NoSync

-- the script that is read behind a line, or the fault in this line
abbrev pub read_on : ℕ → Result (List Said) ScriptCause → (List Said → Result Script (Fault ScriptCause)) → Result Script (Fault ScriptCause)
read_on number (Ok came) f = f came
read_on number (Err why) f = fault_at number why

-- line after line, and the fault of the first that has one; lines are numbered from 1
unfoldable pub read_lines : List Said → List (List ℕ) → Result Script (Fault ScriptCause)
read_lines came [] = ended came
read_lines came (text ∷ texts) = read_on (length came + 1) (with_line came text) (λ more. read_lines more texts)

-- What the bytes are read as: the script, or the first fault with its line.
abbrev pub script_reading : List ℕ → Result Script (Fault ScriptCause)
script_reading bytes = read_lines [] (script_lines bytes)
