-- A script, read line by line.
use Rattle.std.specs.Prelude.{ℕ, ◌+◌, false, not, ◌||◌, List, [], ◌∷◌, ◌++◌, length, Option, Some, None, option_map, option_and_then, Result, Ok, Err, ◌==◌, nat_lt, if◌then◌else◌}
use Rattle.script_rules.specs.ScriptOrder.{may_come, drafts_after, holds_after}
use Rattle.audit_model.specs.declared.script.Act.{Act}
use Rattle.audit_model.specs.declared.script.Act.TheVariants.{Begin, Change, Commit, Publish, Take, Give, Work}
use Rattle.audit_model.specs.declared.script.Phase.{Phase}
use Rattle.narrow_forms.specs.declared.fault.LineFault.{LineFault}
use Rattle.narrow_forms.specs.declared.script.Writing.{Writing}
use Rattle.narrow_forms.specs.declared.script_line.Meaning.{Meaning}
use Rattle.narrow_forms.specs.declared.script_line.Meaning.TheVariants.{Nothing, Does, Ends}
use Rattle.narrow_forms.specs.Lines.{Lines, cut}
use Rattle.narrow_forms.specs.Lines.Lines.{left, line}
use Rattle.narrow_forms.specs.Reads.{Read, ◌>>=◌, with_line}
use Rattle.narrow_forms.specs.ScriptLine.{line_meaning, without_return}

-- before the first line: nothing is written, no draft is open and nothing is held
abbrev pub fresh : Writing
fresh = record { phases = []; lines = []; drafting = false; edits = 0; holding = false }

-- the most edits of a draft
abbrev pub most_edits : ℕ
most_edits = 10000

-- how many edits the draft has after the line, where it has so many before it; None where that is too many
abbrev pub edits_after : ℕ → Act → Option ℕ
edits_after edits Begin = Some 0
edits_after edits (Change e) = if nat_lt edits most_edits then Some (edits + 1) else None
edits_after edits Commit = Some edits
edits_after edits Publish = Some edits
edits_after edits Take = Some edits
edits_after edits Give = Some edits
edits_after edits (Work n) = Some edits

-- with one more line of the phase, after which the draft has so many edits; each line is of editor 1
abbrev pub with_act : Writing → Act → ℕ → Writing
with_act w act edits = record {
  phases = w.phases;
  lines = w.lines ++ (record { editor = 1; act = act }) ∷ [];
  drafting = drafts_after w.drafting act;
  edits = edits;
  holding = holds_after w.holding act;
}

unfoldable pub act_step : Writing → Act → Option Writing
act_step w act = if may_come w.drafting w.holding act then option_map (with_act w act) (edits_after w.edits act) else None

-- with the phase of the lines so far
abbrev pub with_phase : Writing → Writing
with_phase w = record { phases = w.phases ++ (record { lines = w.lines }) ∷ []; lines = []; drafting = w.drafting; edits = w.edits; holding = w.holding }

-- a phase does not end while a draft is open or a take is held
unfoldable pub end_step : Writing → Option Writing
end_step w = if w.drafting || w.holding then None else Some (with_phase w)

abbrev pub line_step : Writing → Meaning → Option Writing
line_step w Nothing = Some w
line_step w (Does act) = act_step w act
line_step w Ends = end_step w

-- what is written after a line; None where the line is refused
unfoldable pub after_line : Writing → List ℕ → Option Writing
after_line w text = option_and_then (line_step w) (line_meaning text)

-- what was read at the first of the lines
abbrev pub read_at : {A : Type 0} → Lines → Option A → Read A
read_at at None = Err at
read_at at (Some x) = Ok x

-- What is written after these lines. What no line feed ends is a line too.
unfoldable pub script_lines : Writing → Lines → Read Writing
script_lines w (left rest) = read_at (left rest) (after_line w rest)
script_lines w (line first others) = read_at (line first others) (after_line w (without_return first)) >>= λ next. script_lines next others

-- The phases, of which there is one at least, where the last of them has ended.
unfoldable pub finished : Writing → Read (List Phase)
finished w = if not (length w.lines == 0) || length w.phases == 0 then Err (left []) else Ok w.phases

unfoldable pub script : Lines → Read (List Phase)
script lines = script_lines fresh lines >>= finished

-- What the bytes are read as: the phases of the script, or the fault at its first line that is refused.
unfoldable pub script_reading : List ℕ → Result (List Phase) LineFault
script_reading bytes = with_line bytes (script (cut bytes))
