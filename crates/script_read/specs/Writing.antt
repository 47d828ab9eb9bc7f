-- What is written of a script, line by line, as code has it.
use Rattle.std.specs.Prelude.{ℕ, suc, ◌+◌, ◌-◌, min, Bool, true, false, not, ◌||◌, List, [], ◌∷◌, ◌++◌, map, Option, Some, None, option_map, Result, Ok, Err, nat_lt, if◌then◌else◌, get_or}
use Rattle.std.specs.List.{list_any}
use Rattle.std.proofs.Math.ListN.{set}
use Rattle.audit_model.specs.declared.script.Act.{Act}
use Rattle.audit_model.specs.declared.script.Act.TheVariants.{Begin, Change, Commit, Publish, Take, Give, Work}
use Rattle.reading.specs.declared.fault.Fault.{Fault}
use Rattle.script_read.specs.declared.editors.Hands.{Hands}
use Rattle.script_read.specs.declared.fault.ScriptCause.{ScriptCause}
use Rattle.script_read.specs.declared.fault.ScriptCause.TheVariants.{BadLine, TooManyActors, Holding, NotHolding, DraftOpen, NoDraft, TooManyEdits, NoSync}
use Rattle.script_read.specs.declared.line.Meaning.{Meaning}
use Rattle.script_read.specs.declared.line.Meaning.TheVariants as m
use Rattle.script_read.specs.declared.read.Script.{Script}
use Rattle.script_read.specs.declared.writing.Writing.{Writing}
use Rattle.script_read.specs.Bytes.{as_code}
use Rattle.script_read.specs.LineForm.{meaning}
use Rattle.script_read.specs.Lines.{Pieces, last, before_feed, without_return}
use Rattle.script_read.specs.Said.{Said}
use Rattle.script_read.specs.Standing.{acts_of, draft, holds, editor_of, lines_since, phases_of, ends_in_sync, editors, is_some, line, phase}

infixl 10 ◌>>=◌
abbrev pub ◌>>=◌ : {A B F : Type 0} → Result A F → (A → Result B F) → Result B F
(Ok x) >>= f = f x
(Err e) >>= f = Err e

-- no draft, and nothing held
abbrev pub free : Hands
free = record { draft = None; holds = false }

-- what the editor of these acts has
abbrev pub hands_of : List Act → Hands
hands_of acts = record { draft = draft acts; holds = holds acts }

-- what is written of the lines that came
abbrev pub writing_of : List Said → Writing
writing_of came = record {
  phases = phases_of came;
  lines = lines_since came;
  editor = editor_of came;
  hands = map (λ k. hands_of (acts_of k came)) editors;
  ended = ends_in_sync came;
}

-- what an editor has after an act
abbrev pub after_act : Hands → Act → Hands
after_act h Begin = record { draft = Some 0; holds = h.holds }
after_act h (Change e) = record { draft = option_map suc h.draft; holds = h.holds }
after_act h Commit = record { draft = None; holds = h.holds }
after_act h Publish = h
after_act h Take = record { draft = h.draft; holds = true }
after_act h Give = record { draft = h.draft; holds = false }
after_act h (Work n) = h

abbrev pub when : Bool → ScriptCause → Option ScriptCause
when b why = if b then Some why else None

abbrev pub edit_cause : Option ℕ → Option ScriptCause
edit_cause None = Some NoDraft
edit_cause (Some n) = if nat_lt n 10000 then None else Some TooManyEdits

-- why an act of an editor who has this may not come
abbrev pub act_cause : Hands → Act → Option ScriptCause
act_cause h Begin = when (is_some h.draft) DraftOpen
act_cause h (Change e) = edit_cause h.draft
act_cause h Commit = when (not (is_some h.draft)) NoDraft
act_cause h Publish = None
act_cause h Take = when h.holds Holding
act_cause h Give = when (not h.holds) NotHolding
act_cause h (Work n) = when h.holds Holding

abbrev pub own_hands : Writing → Hands
own_hands w = get_or w.hands (w.editor - 1) free

abbrev pub with_act : Writing → Act → Writing
with_act w act = record {
  phases = w.phases;
  lines = w.lines ++ line w.editor act ∷ [];
  editor = w.editor;
  hands = set w.hands (w.editor - 1) (after_act (own_hands w) act);
  ended = false;
}

abbrev pub unless : {A : Type 0} → Option ScriptCause → A → Result A ScriptCause
unless None x = Ok x
unless (Some why) x = Err why

unfoldable pub act_step : Writing → Act → Result Writing ScriptCause
act_step w act = unless (act_cause (own_hands w) act) (with_act w act)

abbrev pub with_phase : Writing → Writing
with_phase w = record { phases = w.phases ++ phase w.lines ∷ []; lines = []; editor = 1; hands = w.hands; ended = true }

unfoldable pub somebody_holds : List Hands → Bool
somebody_holds hands = list_any (λ h. h.holds) hands

unfoldable pub somebody_drafts : List Hands → Bool
somebody_drafts hands = list_any (λ h. is_some h.draft) hands

unfoldable pub sync_step : Writing → Result Writing ScriptCause
sync_step w =
    if somebody_holds w.hands then Err Holding
    else if somebody_drafts w.hands then Err DraftOpen
    else Ok (with_phase w)

abbrev pub with_editor : Writing → ℕ → Writing
with_editor w k = record { phases = w.phases; lines = w.lines; editor = k; hands = w.hands; ended = false }

abbrev pub step : Writing → Meaning → Result Writing ScriptCause
step w m.Nothing = Ok w
step w (m.Editor k) = Ok (with_editor w k)
step w m.Nobody = Err TooManyActors
step w (m.Does act) = act_step w act
step w m.Sync = sync_step w

abbrev pub step_by : Writing → Option Said → Result Writing ScriptCause
step_by w None = Err BadLine
step_by w (Some said) = step w (as_code said)

-- what is written after a line
unfoldable pub after_line : Writing → List ℕ → Result Writing ScriptCause
after_line w text = step_by w (meaning text)

abbrev pub at_line : {A : Type 0} → ℕ → Result A ScriptCause → Result A (Fault ScriptCause)
at_line number (Ok x) = Ok x
at_line number (Err why) = Err (record { line = number; why = why })

-- the phases, where a `sync` is the last line that says something; else the fault is in the line of this number
unfoldable pub finished : ℕ → Writing → Result Script (Fault ScriptCause)
finished number w = at_line number (if w.ended then Ok (record { phases = w.phases }) else Err NoSync)

-- one more, or 4,294,967,295
abbrev pub next_number : ℕ → ℕ
next_number n = min (n + 1) 0xFFFF_FFFF

-- what is written after these lines, the first of which has this number
unfoldable pub after_lines : ℕ → Writing → Pieces → Result Script (Fault ScriptCause)
after_lines number w (last rest) = at_line number (after_line w rest) >>= finished number
after_lines number w (before_feed first others) = at_line number (after_line w (without_return first)) >>= λ next. after_lines (next_number number) next others

-- what all editors have before the first line
abbrev pub free_hands : List Hands
free_hands = free ∷ free ∷ free ∷ free ∷ free ∷ free ∷ free ∷ free ∷ free ∷ free ∷ free ∷ free ∷ free ∷ free ∷ free ∷ free ∷ []

-- before the first line
abbrev pub fresh : Writing
fresh = record { phases = []; lines = []; editor = 1; hands = free_hands; ended = false }
