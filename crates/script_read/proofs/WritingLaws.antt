-- What code writes, line by line, is what the lines say.
use Rattle.std.proofs.Common.{◌≡◌, ℕ, zero, suc, ◌+◌, ◌-◌, ◌≤◌, ◌<◌, min, Bool, true, false, not, cond, List, [], ◌∷◌, ◌++◌, map, length, get_or, Option, Some, None, option_map, Result, Ok, Err, refl, sym, ap, ◌∙◌, subst, arith, inl, inr}
use Rattle.std.specs.Prelude.{nat_le, nat_lt, ◌==◌, ◌&&◌, ◌||◌}
use Rattle.std.proofs.Math.ListN.{set}
use Rattle.std.proofs.lemmas.Bool.Decides.{nat_tests}
use Rattle.std.proofs.lemmas.Bool.{eqb-true, cases_lt}
use Rattle.audit_model.specs.declared.script.Act.{Act}
use Rattle.audit_model.specs.declared.script.Act.TheVariants.{Begin, Change, Commit, Publish, Take, Give, Work}
use Rattle.reading.specs.declared.fault.Fault.{Fault}
use Rattle.reading.proofs.Tools.{tested}
use Rattle.script_read.specs.declared.editors.Hands.{Hands}
use Rattle.script_read.specs.declared.fault.ScriptCause.{ScriptCause}
use Rattle.script_read.specs.declared.fault.ScriptCause.TheVariants.{BadLine, TooManyActors, Holding, NotHolding, DraftOpen, NoDraft, TooManyEdits, NoSync}
use Rattle.script_read.specs.declared.read.Script.{Script}
use Rattle.script_read.specs.declared.writing.Writing.{Writing}
use Rattle.script_read.specs.Bytes.{as_code}
use Rattle.script_read.specs.LineForm.{meaning}
use Rattle.script_read.specs.Lines.{Pieces, last, before_feed, lines_of, cut, without_return}
use Rattle.script_read.specs.Said.{Said, nothing, editor, does, sync, is_editor}
use Rattle.script_read.specs.Standing.{acts_of, own, draft, holds, editor_of, ends_in_sync, editors, is_some, phases_of}
use Rattle.script_read.specs.Standing as standing
use Rattle.script_read.specs.Faults.{is_full, causes, first_cause, judged, judged_by, with_line, fault_at, ended, read_on, read_lines, script_reading}
use Rattle.script_read.specs.Writing.{◌>>=◌, free, hands_of, writing_of, after_act, when, edit_cause, act_cause, own_hands, with_act, unless, act_step, somebody_holds, somebody_drafts, sync_step, step, step_by, after_line, at_line, finished, next_number, after_lines, fresh}
use Rattle.script_read.proofs.Crews.{map_same, at_editor, with_editor}

-- what was written, of lines that came
abbrev written : {F : Type 0} → Result (List Said) F → Result Writing F
written (Ok came) = Ok (writing_of came)
written (Err why) = Err why

-- ---- acts

act_leaves : (acts : List Act) (act : Act) → after_act (hands_of acts) act ≡ hands_of (act ∷ acts)
act_leaves acts Begin = refl
act_leaves acts (Change e) = refl
act_leaves acts Commit = refl
act_leaves acts Publish = refl
act_leaves acts Take = refl
act_leaves acts Give = refl
act_leaves acts (Work n) = refl

hands_at : (came : List Said) (act : Act) (e k : ℕ) → cond (k == e) (after_act (hands_of (acts_of e came)) act) (hands_of (acts_of k came)) ≡ hands_of (cond (k == e) (act ∷ acts_of k came) (acts_of k came))
hands_at came act e k =
    elim (tested (k == e)) [
      | inl is ↦ let same : k ≡ e = eqb-true k e is in rw (is, ← same) (act_leaves (acts_of k came) act)
      | inr not ↦ rw not refl
    ]

abbrev hands_after : List Said → List Hands
hands_after came = map (λ k. hands_of (acts_of k came)) editors

hands_are : (came : List Said) (act : Act) → is_editor (editor_of came) ≡ true
    → set (hands_after came) (editor_of came - 1) (after_act (own_hands (writing_of came)) act) ≡ hands_after (does act ∷ came)
hands_are came act is =
    let e = editor_of came in
    let mine : own_hands (writing_of came) ≡ hands_of (own came) = at_editor (λ k. hands_of (acts_of k came)) e free is in
    ap (λ (h : Hands). set (hands_after came) (e - 1) (after_act h act)) mine
    ∙ with_editor (λ k. hands_of (acts_of k came)) e (after_act (hands_of (own came)) act) is
    ∙ map_same (λ k. cond (k == e) (after_act (hands_of (own came)) act) (hands_of (acts_of k came))) (λ k. hands_of (acts_of k (does act ∷ came))) editors (hands_at came act e)

abbrev with_hands : List Said → Act → List Hands → Writing
with_hands came act hands = record { phases = phases_of came; lines = standing.lines_since (does act ∷ came); editor = editor_of came; hands = hands; ended = false }

act_written : (came : List Said) (act : Act) → is_editor (editor_of came) ≡ true → with_act (writing_of came) act ≡ writing_of (does act ∷ came)
act_written came act is = ap (with_hands came act) (hands_are came act is)

-- ---- causes

abbrev why_some : Bool → ScriptCause → Option ScriptCause
why_some b why = cond b (Some why) None

either : (b c : Bool) (why : ScriptCause) → c ≡ b → why_some c why ≡ when b why
either b c why same = rw same refl

or_false : (b : Bool) → (b || false) ≡ b
or_false true = refl
or_false false = refl

edit_is : (d : Option ℕ) → cond (not (is_some d)) (Some NoDraft) (cond (is_full d) (Some TooManyEdits) None) ≡ edit_cause d
edit_is None = refl
edit_is (Some n) =
    elim (cases_lt n 10000) [
      | inl lt ↦ let a : nat_le 10000 n ≡ false = grind (arith, nat_tests) in let b : nat_lt n 10000 ≡ true = grind (arith, nat_tests) in rw (a, b) refl
      | inr ge ↦ let a : nat_le 10000 n ≡ true = grind (arith, nat_tests) in let b : nat_lt n 10000 ≡ false = grind (arith, nat_tests) in rw (a, b) refl
    ]

pub cause_is : (came : List Said) (act : Act) → first_cause (causes came (does act)) ≡ act_cause (hands_of (own came)) act
cause_is came Begin = either (is_some (draft (own came))) (is_some (draft (own came)) || false) DraftOpen (or_false (is_some (draft (own came))))
cause_is came (Change e) = edit_is (draft (own came))
cause_is came Commit = refl
cause_is came Publish = refl
cause_is came Take = either (holds (own came)) (holds (own came) || false) Holding (or_false (holds (own came)))
cause_is came Give = refl
cause_is came (Work n) = either (holds (own came)) (holds (own came) || false) Holding (or_false (holds (own came)))

-- ---- steps

unless_is : (came : List Said) (said : Said) (o : Option ScriptCause) (w : Writing) → w ≡ writing_of (said ∷ came) → unless o w ≡ written (judged came said o)
unless_is came said None w same = ap (λ (v : Writing). let r : Result Writing ScriptCause = Ok v in r) same
unless_is came said (Some why) w same = refl

act_step_is : (came : List Said) (act : Act) → is_editor (editor_of came) ≡ true → act_step (writing_of came) act ≡ written (judged came (does act) (first_cause (causes came (does act))))
unfolding act_step
act_step_is came act is =
    let mine : own_hands (writing_of came) ≡ hands_of (own came) = at_editor (λ k. hands_of (acts_of k came)) (editor_of came) free is in
    let why : act_cause (own_hands (writing_of came)) act ≡ first_cause (causes came (does act)) = ap (λ (h : Hands). act_cause h act) mine ∙ sym (cause_is came act) in
    ap (λ (o : Option ScriptCause). unless o (with_act (writing_of came) act)) why
    ∙ unless_is came (does act) (first_cause (causes came (does act))) (with_act (writing_of came) act) (act_written came act is)

sync_step_is : (came : List Said) → sync_step (writing_of came) ≡ written (judged came sync (first_cause (causes came sync)))
unfolding sync_step somebody_holds somebody_drafts
sync_step_is came =
    elim (tested (standing.somebody_holds came)) [
      | inl is ↦ rw is refl
      | inr none ↦ elim (tested (standing.somebody_drafts came)) [
        | inl is ↦ rw (none, is) refl
        | inr nobody ↦ rw (none, nobody) refl
      ]
    ]

editor_step_is : (came : List Said) (k : ℕ) → step (writing_of came) (as_code (editor k)) ≡ written (judged came (editor k) (first_cause (causes came (editor k))))
editor_step_is came k =
    elim (tested (is_editor k)) [
      | inl is ↦ rw is refl
      | inr nobody ↦ rw nobody refl
    ]

step_is : (came : List Said) (said : Said) → is_editor (editor_of came) ≡ true → step (writing_of came) (as_code said) ≡ written (judged came said (first_cause (causes came said)))
step_is came nothing is = refl
step_is came (editor k) is = editor_step_is came k
step_is came (does act) is = act_step_is came act is
step_is came sync is = sync_step_is came

step_by_is : (came : List Said) (o : Option Said) → is_editor (editor_of came) ≡ true → step_by (writing_of came) o ≡ written (judged_by came o)
step_by_is came None is = refl
step_by_is came (Some said) is = step_is came said is

line_is : (came : List Said) (text : List ℕ) → is_editor (editor_of came) ≡ true → after_line (writing_of came) text ≡ written (with_line came text)
unfolding after_line with_line
line_is came text is = step_by_is came (meaning text) is

-- ---- what a line that may come leaves

-- the line that was judged, and what it says
pub record IsNext (came : List Said) (o : Option Said) (more : List Said) : Type 0 where
  pub said : Said
  pub more_is : more ≡ said ∷ came
  pub meant : o ≡ Some said
  pub no_cause : first_cause (causes came said) ≡ None

some : {A : Type 0} → A → Option A
some x = Some x

ok_is : (x y : List Said) → (let r : Result (List Said) ScriptCause = Ok x in r) ≡ Ok y → x ≡ y
ok_is x y e = cc

judged_is : (came : List Said) (said : Said) (o : Option ScriptCause) (more : List Said) → first_cause (causes came said) ≡ o → judged came said o ≡ Ok more → IsNext came (Some said) more
judged_is came said None more why e = record { said = said; more_is = sym (ok_is (said ∷ came) more e); meant = refl; no_cause = why }
judged_is came said (Some c) more why e = absurd cc

judged_by_is : (came : List Said) (o : Option Said) (more : List Said) → judged_by came o ≡ Ok more → IsNext came o more
judged_by_is came None more e = absurd cc
judged_by_is came (Some said) more e = judged_is came said (first_cause (causes came said)) more refl e

pub next_is : (came : List Said) (text : List ℕ) (more : List Said) → with_line came text ≡ Ok more → IsNext came (meaning text) more
unfolding with_line
next_is came text more e = judged_by_is came (meaning text) more e

pub named : (b : Bool) (o : Option ScriptCause) → cond (not b) (Some TooManyActors) o ≡ None → b ≡ true
named true o e = refl
named false o e = absurd cc

pub editor_kept : (came : List Said) (said : Said) → is_editor (editor_of came) ≡ true → first_cause (causes came said) ≡ None → is_editor (editor_of (said ∷ came)) ≡ true
editor_kept came nothing is e = is
editor_kept came (editor k) is e = named (is_editor k) None e
editor_kept came (does act) is e = is
editor_kept came sync is e = refl

pub editor_next : (came : List Said) (o : Option Said) (more : List Said) → is_editor (editor_of came) ≡ true → IsNext came o more → is_editor (editor_of more) ≡ true
editor_next came o more is n = subst (λ (c : List Said). is_editor (editor_of c) ≡ true) (sym n.more_is) (editor_kept came n.said is n.no_cause)

-- ---- all lines

abbrev number : List Said → ℕ
number came = min (length came + 1) 0xFFFF_FFFF

finished_is : (came more : List Said) → length more ≡ length came + 1 → finished (number came) (writing_of more) ≡ ended more
unfolding finished
finished_is came more e =
    elim (tested (ends_in_sync more)) [
      | inl is ↦ rw is refl
      | inr not ↦ rw (not, e) refl
    ]

last_is : (came : List Said) (r : Result (List Said) ScriptCause) → ((more : List Said) → r ≡ Ok more → length more ≡ length came + 1)
    → (at_line (number came) (written r) >>= finished (number came)) ≡ read_on (length came + 1) r ended
last_is came (Ok more) grows = finished_is came more (grows more refl)
last_is came (Err why) grows = refl

grown : (came : List Said) (o : Option Said) (more : List Said) → IsNext came o more → length more ≡ length came + 1
grown came o more n = let e : length more ≡ suc (length came) = ap (λ (c : List Said). length c) n.more_is in omega (arith, e)

number_next : (n m : ℕ) → m ≡ n + 1 → next_number (min (n + 1) 0xFFFF_FFFF) ≡ min (m + 1) 0xFFFF_FFFF
number_next n m e = grind arith

go_on : (came : List Said) (others : Pieces) (r : Result (List Said) ScriptCause)
    → ((more : List Said) → r ≡ Ok more → after_lines (next_number (number came)) (writing_of more) others ≡ read_lines more (lines_of others))
    → (at_line (number came) (written r) >>= λ next. after_lines (next_number (number came)) next others) ≡ read_on (length came + 1) r (λ more. read_lines more (lines_of others))
go_on came others (Ok more) h = h more refl
go_on came others (Err why) h = refl

lines_are : (pieces : Pieces) (came : List Said) → is_editor (editor_of came) ≡ true → after_lines (number came) (writing_of came) pieces ≡ read_lines came (lines_of pieces)
unfolding after_lines lines_of read_lines
lines_are (last rest) came is =
    ap (λ (r : Result Writing ScriptCause). at_line (number came) r >>= finished (number came)) (line_is came rest is)
    ∙ last_is came (with_line came rest) (λ more e. grown came (meaning rest) more (next_is came rest more e))
lines_are (before_feed first others) came is =
    ap (λ (r : Result Writing ScriptCause). at_line (number came) r >>= λ next. after_lines (next_number (number came)) next others) (line_is came (without_return first) is)
    ∙ go_on came others (with_line came (without_return first)) (λ more e.
    let n = next_is came (without_return first) more e in
    let same = number_next (length came) (length more) (grown came (meaning (without_return first)) more n) in
    rw same (lines_are others more (editor_next came (meaning (without_return first)) more is n)))

-- what code reads of the bytes is the script, or the fault
pub reading_is : (bytes : List ℕ) → after_lines 1 fresh (cut bytes) ≡ script_reading bytes
reading_is bytes = lines_are (cut bytes) [] refl
