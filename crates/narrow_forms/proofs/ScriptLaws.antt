-- The lines of a script that is read stand in the order in which they may come.
use Rattle.std.proofs.Common.{◌≡◌, ℕ, Bool, true, false, not, ◌||◌, cond, List, [], ◌∷◌, ◌++◌, length, Option, Some, None, Result, Ok, Err, ◌==◌, option_map, refl, ap, ◌∙◌, sym}
use Rattle.narrow_forms.proofs.ReadSteps.{done_is, bound, with_line_is}
use Rattle.narrow_forms.proofs.Tools.{kept, passed}
use Rattle.std.proofs.lemmas.Bool.{or_parts}
use Rattle.std.specs.Prelude.{IfOk, option_and_then}
use Rattle.ifc_base.specs.declared.memory.Refusal.{Refusal}
use Rattle.script_rules.specs.ScriptOrder.{may_come, drafts_after, holds_after, IsOrderly, AreOrderly}
use Rattle.audit_model.specs.declared.script.Act.{Act}
use Rattle.audit_model.specs.declared.script.ScriptLine.{ScriptLine}
use Rattle.audit_model.specs.declared.script.Phase.{Phase}
use Rattle.narrow_forms.specs.declared.fault.LineFault.{LineFault}
use Rattle.narrow_forms.specs.declared.script.Writing.{Writing}
use Rattle.narrow_forms.specs.declared.script_line.Meaning.{Meaning}
use Rattle.narrow_forms.specs.declared.script_line.Meaning.TheVariants.{Nothing, Does, Ends}
use Rattle.narrow_forms.specs.Answers.{Answers}
use Rattle.narrow_forms.specs.Lines.{Lines, cut, left, line}
use Rattle.narrow_forms.specs.Reads.{Read}
use Rattle.narrow_forms.specs.ScriptLine.{line_meaning, without_return}
use Rattle.narrow_forms.specs.Script.{fresh, edits_after, with_act, act_step, with_phase, end_step, line_step, after_line, read_at, script_lines, finished, script, script_reading}

-- ---- steps that did not fail

abbrev some : {A : Type 0} → A → Option A
some x = Some x

same_some : {A : Type 0} (x y : A) → some x ≡ some y → x ≡ y
same_some x y e = cc

let_through : {A : Type 0} (b : Bool) (at : Lines) (x : Read A) (y : A) → cond b (Err at) x ≡ Ok y → (b ≡ false) × (x ≡ Ok y)
let_through true at x y e = absurd cc
let_through false at x y e = (refl, e)

mapped : {A B : Type 0} (f : A → B) (o : Option A) (y : B) → option_map f o ≡ Some y → (x : A) × (f x ≡ y)
mapped f None y e = absurd cc
mapped f (Some x) y e = (x, same_some (f x) y e)

chained : {A B : Type 0} (f : A → Option B) (o : Option A) (y : B) → option_and_then f o ≡ Some y → (x : A) × (f x ≡ Some y)
chained f None y e = absurd cc
chained f (Some x) y e = (x, e)

read_is : {A : Type 0} (at : Lines) (o : Option A) (y : A) → read_at at o ≡ Ok y → o ≡ Some y
read_is at None y e = absurd cc
read_is at (Some x) y e = ap some (done_is x y e)

-- ---- lines that may come

-- the lines may come in this order, from these two to those
abbrev Course : Bool → Bool → List ScriptLine → Bool → Bool → Type 0
Course drafting holding [] drafts holds = (drafting ≡ drafts) × (holding ≡ holds)
Course drafting holding (l ∷ ls) drafts holds =
    (l.editor ≡ 1) × (may_come drafting holding l.act ≡ true) × Course (drafts_after drafting l.act) (holds_after holding l.act) ls drafts holds

abbrev of_editor : Act → ScriptLine
of_editor act = record { editor = 1; act = act }

one_more : (ls : List ScriptLine) (drafting holding drafts holds : Bool) (act : Act) → Course drafting holding ls drafts holds → may_come drafts holds act ≡ true
    → Course drafting holding (ls ++ of_editor act ∷ []) (drafts_after drafts act) (holds_after holds act)
one_more [] drafting holding drafts holds act c may = rw (c.0, c.1) (refl, may, (refl, refl))
one_more (l ∷ ls) drafting holding drafts holds act c may =
    (c.0, c.1, one_more ls (drafts_after drafting l.act) (holds_after holding l.act) drafts holds act c.2 may)

orderly_course : (ls : List ScriptLine) (drafting holding drafts holds : Bool) → Course drafting holding ls drafts holds → drafts ≡ false → holds ≡ false → IsOrderly 1 drafting holding ls
orderly_course [] drafting holding drafts holds c d h = (c.0 ∙ d, c.1 ∙ h)
orderly_course (l ∷ ls) drafting holding drafts holds c d h =
    (c.0, c.1, orderly_course ls (drafts_after drafting l.act) (holds_after holding l.act) drafts holds c.2 d h)

phase_more : (ps : List Phase) (p : Phase) → AreOrderly 1 ps → IsOrderly 1 false false p.lines → AreOrderly 1 (ps ++ p ∷ [])
phase_more [] p are is = (is, tt)
phase_more (q ∷ ps) p are is = (are.0, phase_more ps p are.1 is)

-- ---- what is written

-- the phases are orderly, and the lines behind them may come
record IsWritten (w : Writing) : Type 0 where
  phases : AreOrderly 1 w.phases
  lines : Course false false w.lines w.drafting w.holding

fresh_is : IsWritten fresh
fresh_is = record { phases = tt; lines = (refl, refl) }

act_is : (w next : Writing) (act : Act) → act_step w act ≡ Some next → IsWritten w → IsWritten next
unfolding act_step
act_is w next act e is =
    let k = kept (may_come w.drafting w.holding act) (option_map (with_act w act) (edits_after w.edits act)) next e in
    let m = mapped (with_act w act) (edits_after w.edits act) next k.1 in
    let more : IsWritten (with_act w act m.0) = record { phases = is.phases; lines = one_more w.lines false false w.drafting w.holding act is.lines k.0 } in
    rw (← m.1) more

end_is : (w next : Writing) → end_step w ≡ Some next → IsWritten w → IsWritten next
unfolding end_step
end_is w next e is =
    let k = passed (w.drafting || w.holding) (Some (with_phase w)) next e in
    let n = or_parts w.drafting w.holding k.0 in
    let more : IsWritten (with_phase w) = record {
      phases = phase_more w.phases (record { lines = w.lines }) is.phases (orderly_course w.lines false false w.drafting w.holding is.lines n.0 n.1);
      lines = (sym n.0, sym n.1);
    } in
    rw (← same_some (with_phase w) next k.1) more

step_is : (w next : Writing) (m : Meaning) → line_step w m ≡ Some next → IsWritten w → IsWritten next
step_is w next Nothing e is = rw (← same_some w next e) is
step_is w next (Does act) e is = act_is w next act e is
step_is w next Ends e is = end_is w next e is

line_is : (w next : Writing) (text : List ℕ) → after_line w text ≡ Some next → IsWritten w → IsWritten next
unfolding after_line
line_is w next text e is =
    let k = chained (line_step w) (line_meaning text) next e in
    step_is w next k.0 k.1 is

lines_are : (lines : Lines) (w last : Writing) → script_lines w lines ≡ Ok last → IsWritten w → IsWritten last
unfolding script_lines
lines_are (left rest) w last e is = line_is w last rest (read_is (left rest) (after_line w rest) last e) is
lines_are (line first others) w last e is =
    let k = bound e in
    lines_are others k.0 last k.2 (line_is w k.0 (without_return first) (read_is (line first others) (after_line w (without_return first)) k.0 k.1) is)

finished_is : (w : Writing) (phases : List Phase) → finished w ≡ Ok phases → w.phases ≡ phases
unfolding finished
finished_is w phases e =
    let k = let_through (not (length w.lines == 0) || length w.phases == 0) (left []) (Ok w.phases) phases e in
    done_is w.phases phases k.1

script_is : (lines : Lines) (phases : List Phase) → script lines ≡ Ok phases → AreOrderly 1 phases
unfolding script
script_is lines phases e =
    let k = bound e in
    let is = lines_are lines fresh k.0 k.1 fresh_is in
    rw (← finished_is k.0 phases k.2) is.phases

-- what a call that answers as its bytes are read has found
pub are_orderly : (bytes : List ℕ) (result : Result (List Phase) (Refusal LineFault)) → Answers (script_reading bytes) result → IfOk result (λ phases. AreOrderly 1 phases)
unfolding script_reading
are_orderly bytes (Ok phases) e = script_is (cut bytes) phases (with_line_is bytes (script (cut bytes)) phases e)
are_orderly bytes (Err refusal) e = tt
