-- A script is read where its lines may come, and its lines may come where it is read.
use Rattle.std.proofs.Common.{◌≡◌, ℕ, suc, ◌+◌, ◌<◌, ◌≤◌, min, Bool, true, false, not, cond, List, [], ◌∷◌, length, Option, Some, None, Result, Ok, Err, refl, sym, ap, ◌∙◌, subst, arith}
use Rattle.std.specs.Prelude.{nat_lt, nat_le, ◌&&◌, ◌||◌, IfOk}
use Rattle.std.proofs.lemmas.Bool.Decides.{nat_tests}
use Rattle.audit_model.specs.declared.script.Act.{Act}
use Rattle.audit_model.specs.declared.script.Act.TheVariants.{Begin, Change, Commit, Publish, Take, Give, Work}
use Rattle.audit_model.specs.declared.script.Phase.{Phase}
use Rattle.ifc_base.specs.declared.memory.Refusal.{Refusal}
use Rattle.ifc_base.specs.declared.memory.Refusal.TheVariants as refusal
use Rattle.reading.specs.declared.fault.Fault.{Fault}
use Rattle.reading.specs.Lines.{Answers}
use Rattle.script_read.specs.declared.fault.ScriptCause.{ScriptCause}
use Rattle.script_read.specs.declared.fault.ScriptCause.TheVariants.{BadLine, TooManyActors, Holding, NotHolding, DraftOpen, NoDraft, TooManyEdits, NoSync}
use Rattle.script_read.specs.declared.read.Script.{Script}
use Rattle.script_read.specs.LineForm.{meaning}
use Rattle.script_read.specs.LineGrammar.{Says}
use Rattle.script_read.specs.Lines.{script_lines}
use Rattle.script_read.specs.Said.{Said, nothing, editor, does, sync, is_editor}
use Rattle.script_read.specs.Standing.{own, draft, holds, ends_in_sync, is_some, phases_of, somebody_holds, somebody_drafts}
use Rattle.script_read.specs.Faults.{most_edits, causes, first_cause, judged, with_line, fault_at, ended, read_on, read_lines, script_reading}
use Rattle.script_read.specs.Grammar.{MayCome, Come, ReadsScript}
use Rattle.script_read.specs.Writing.{hands_of, when, edit_cause, act_cause}
use Rattle.script_read.proofs.WritingLaws.{IsNext, next_is, cause_is, named}
use Rattle.script_read.proofs.LineLaws.{says_is, says_same}

-- ---- what may come

stays : (b : Bool) (why : ScriptCause) → when b why ≡ None → b ≡ false
stays true why e = absurd cc
stays false why e = refl

unnot : (b : Bool) → not b ≡ false → b ≡ true
unnot true e = refl
unnot false e = absurd cc

draft_none : (d : Option ℕ) → is_some d ≡ false → d ≡ None
draft_none None e = refl
draft_none (Some n) e = absurd cc

draft_some : (d : Option ℕ) → is_some d ≡ true → (n : ℕ) × (d ≡ Some n)
draft_some None e = absurd cc
draft_some (Some n) e = (n, refl)

room : (b : Bool) → cond b None (Some TooManyEdits) ≡ None → b ≡ true
room true e = refl
room false e = absurd cc

below : (n : ℕ) → nat_lt n 10000 ≡ true → n < 10000
below n e = grind (arith, nat_tests)

edit_room : (d : Option ℕ) → edit_cause d ≡ None → (n : ℕ) × (d ≡ Some n) × (n < most_edits)
edit_room None e = absurd cc
edit_room (Some n) e = (n, refl, below n (room (nat_lt n 10000) e))

act_may : (came : List Said) (act : Act) → act_cause (hands_of (own came)) act ≡ None → MayCome came (does act)
act_may came Begin e = MayCome.open_may (draft_none (draft (own came)) (stays (is_some (draft (own came))) DraftOpen e))
act_may came (Change x) e = let r = edit_room (draft (own came)) e in MayCome.edit_may x r.0 r.1 r.2
act_may came Commit e = let r = draft_some (draft (own came)) (unnot (is_some (draft (own came))) (stays (not (is_some (draft (own came)))) NoDraft e)) in MayCome.commit_may r.0 r.1
act_may came Publish e = MayCome.publish_may
act_may came Take e = MayCome.take_may (stays (holds (own came)) Holding e)
act_may came Give e = MayCome.give_may (unnot (holds (own came)) (stays (not (holds (own came))) NotHolding e))
act_may came (Work n) e = MayCome.work_may n (stays (holds (own came)) Holding e)

free_is : (b c : Bool) → cond b (Some Holding) (cond c (Some DraftOpen) None) ≡ None → (b ≡ false) × (c ≡ false)
free_is true c e = absurd cc
free_is false true e = absurd cc
free_is false false e = (refl, refl)

may_is : (came : List Said) (said : Said) → first_cause (causes came said) ≡ None → MayCome came said
may_is came nothing e = MayCome.nothing_may
may_is came (editor k) e = MayCome.editor_may k (named (is_editor k) None e)
may_is came (does act) e = act_may came act (sym (cause_is came act) ∙ e)
may_is came sync e = let f = free_is (somebody_holds came) (somebody_drafts came) e in MayCome.sync_may f.0 f.1

lower : (n : ℕ) → n < 10000 → nat_lt n 10000 ≡ true
lower n lt = grind (arith, nat_tests)

may_same : {came : List Said} {said : Said} → MayCome came said → first_cause (causes came said) ≡ None
may_same MayCome.nothing_may = refl
may_same (MayCome.editor_may k is) = rw is refl
may_same {came = came} (MayCome.open_may d) = cause_is came Begin ∙ (rw d refl)
may_same {came = came} (MayCome.edit_may x n d lt) = let b = lower n lt in cause_is came (Change x) ∙ (rw (d, b) refl)
may_same {came = came} (MayCome.commit_may n d) = cause_is came Commit ∙ (rw d refl)
may_same {came = came} MayCome.publish_may = cause_is came Publish
may_same {came = came} (MayCome.take_may h) = cause_is came Take ∙ (rw h refl)
may_same {came = came} (MayCome.give_may h) = cause_is came Give ∙ (rw h refl)
may_same {came = came} (MayCome.work_may n h) = cause_is came (Work n) ∙ (rw h refl)
may_same (MayCome.sync_may h d) = rw (h, d) refl

-- ---- lines

record IsCome (came : List Said) (texts : List (List ℕ)) (s : Script) : Type 0 where
  whole : List Said
  lines : Come came texts whole
  ends : ends_in_sync whole ≡ true
  phases : s.phases ≡ phases_of whole

abbrev read_ok : Script → Result Script (Fault ScriptCause)
read_ok s = Ok s

ok_is : (x y : Script) → read_ok x ≡ read_ok y → x ≡ y
ok_is x y e = cc

abbrev of_phases : List Phase → Script
of_phases phases = record { phases = phases }

ended_by : (came : List Said) (b : Bool) (s : Script) → ends_in_sync came ≡ b → cond b (read_ok (of_phases (phases_of came))) (fault_at (length came) NoSync) ≡ Ok s → IsCome came [] s
ended_by came true s is e = record { whole = came; lines = Come.all came; ends = is; phases = sym (ap (λ (x : Script). x.phases) (ok_is (of_phases (phases_of came)) s e)) }
ended_by came false s is e = absurd cc

on_is : (number : ℕ) (r : Result (List Said) ScriptCause) (f : List Said → Result Script (Fault ScriptCause)) (s : Script) → read_on number r f ≡ Ok s → (more : List Said) × (r ≡ Ok more) × (f more ≡ Ok s)
on_is number (Ok more) f s e = (more, refl, e)
on_is number (Err why) f s e = absurd cc

come_is : (texts : List (List ℕ)) (came : List Said) (s : Script) → read_lines came texts ≡ Ok s → IsCome came texts s
unfolding read_lines
come_is [] came s e = ended_by came (ends_in_sync came) s refl e
come_is (text ∷ texts) came s e =
    let b = on_is (length came + 1) (with_line came text) (λ more. read_lines more texts) s e in
    let n = next_is came text b.0 b.1 in
    let c = come_is texts b.0 s b.2 in
    let rest : Come (n.said ∷ came) texts c.whole = subst (λ (l : List Said). Come l texts c.whole) n.more_is c.lines in
    record { whole = c.whole; lines = Come.one came text n.said texts c.whole (says_is text n.said n.meant) (may_is came n.said n.no_cause) rest; ends = c.ends; phases = c.phases }

line_same : (came : List Said) (text : List ℕ) (said : Said) → Says text said → MayCome came said → with_line came text ≡ Ok (said ∷ came)
unfolding with_line
line_same came text said says may = let m = says_same text said says in let c = may_same may in rw (m, c) refl

come_same : {came whole : List Said} {texts : List (List ℕ)} → Come came texts whole → ends_in_sync whole ≡ true → read_lines came texts ≡ Ok (of_phases (phases_of whole))
unfolding read_lines
come_same (Come.all came) ends = rw ends refl
come_same (Come.one came text said texts whole says may more) ends = let l = line_same came text said says may in rw l (come_same more ends)

-- ---- scripts

pub reading_sound : (bytes : List ℕ) (s : Script) → script_reading bytes ≡ Ok s → ReadsScript bytes s
reading_sound bytes s e = let c = come_is (script_lines bytes) [] s e in record { said = c.whole; lines = c.lines; ends = c.ends; phases = c.phases }

pub reading_complete : (bytes : List ℕ) (s : Script) → ReadsScript bytes s → script_reading bytes ≡ Ok s
reading_complete bytes s r = come_same r.lines r.ends ∙ ap (λ (phases : List Phase). read_ok (of_phases phases)) (sym r.phases)

pub one_reading : (bytes : List ℕ) (x y : Script) → ReadsScript bytes x → ReadsScript bytes y → x ≡ y
one_reading bytes x y p q = ok_is x y (sym (reading_complete bytes x p) ∙ reading_complete bytes y q)

pub found : (bytes : List ℕ) (r : Result Script (Refusal (Fault ScriptCause))) → Answers (λ x. x) r (script_reading bytes) → IfOk r (λ s. ReadsScript bytes s)
found bytes (Ok s) given = reading_sound bytes s given
found bytes (Err e) given = tt

pub only : (bytes : List ℕ) (r : Result Script (Refusal (Fault ScriptCause))) (s : Script) → Answers (λ x. x) r (script_reading bytes) → ReadsScript bytes s → Answers (λ x. x) r (read_ok s)
only bytes r s given reads = subst (λ (read : Result Script (Fault ScriptCause)). Answers (λ x. x) r read) (reading_complete bytes s reads) given
