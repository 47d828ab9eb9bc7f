-- One line, and what is told of it.
use Rattle.std.proofs.Common.{◌≡◌, ℕ, zero, suc, ◌≤◌, ◌+◌, Bool, true, false, cond, not, ◌&&◌, List, [], ◌∷◌, ◌++◌, length, reverse, drop, Option, Some, None, arith, refl, ap, sym, subst, ◌∙◌}
use Rattle.std.proofs.Math.Seq.{drop-append_seam}
use Rattle.std.proofs.lemmas.List.{append-nil, append_assoc, reverse-append, length-reverse}
use Rattle.audit_model.specs.declared.commit.Edit.{Edit}
use Rattle.audit_model.specs.declared.step.StepRec.{StepRec}
use Rattle.audit_model.specs.declared.step.Call.TheVariants as calls
use Rattle.audit_model.specs.declared.script.Act.{Act}
use Rattle.audit_model.specs.declared.script.Act.TheVariants.{Begin, Change, Commit, Publish, Take, Give, Work}
use Rattle.audit_model.specs.History.{Ground}
use Rattle.audit_model.specs.Machine.{publish_reply, is_full}
use Rattle.script_rules.specs.Output.{report_in}
use Rattle.script_rules.specs.ScriptLines.{Place, entry}
use Rattle.script_rules.specs.Serial.{Done, done, ended, act_done}
use Rattle.script_rules.specs.Telling.{Told, told, is_of_one_editor}
use Rattle.audit_core.specs.Cores.{CoreView}
use Rattle.serial_run.specs.declared.editor.Editor.{Editor}
use Rattle.model_view.specs.declared.answers.Halt.TheVariants as halt
use Rattle.serial_run.specs.Growth.{IsLater}
use Rattle.serial_run.specs.Course.{IsDone, IsReturned, IsStopped}
use Rattle.serial_run.proofs.Growing.{same}
use Rattle.serial_run.specs.Lines.{entry_line, entry_lines}
use Rattle.serial_run.specs.Quiet.{AreQuiet, GoesOn}
use Rattle.serial_run.specs.Steps.{report_of}
use Rattle.serial_run.specs.Running.{Tells}
use Rattle.serial_run.proofs.Quieting.{act_quiet, publishes, told_line, told_lines, one_editor}

-- the entries of a journal behind those of the older history
new_entries : (es h : List StepRec) (n : ℕ) → n ≡ length (reverse h) → drop n (reverse (es ++ h)) ≡ reverse es
new_entries es h n e =
    ap (λ (k : ℕ). drop k (reverse (es ++ h))) e
    ∙ ap (λ (xs : List StepRec). drop (length (reverse h)) xs) (reverse-append es h)
    ∙ drop-append_seam (reverse h) (reverse es)

told_quietly : {old new : CoreView} (before after report : List ℕ) (n : ℕ) → new.ground ≡ old.ground → GoesOn 1 old.history new.history → n ≡ length (reverse old.history) → report ≡ [] →
    after ≡ before ++ (entry_lines old.ground.limits (drop n (reverse new.history)) ++ report) → Tells old new before after
told_quietly {old = old} {new = new} before after report n g on from none text =
    let es : List StepRec = on.0 in
    let grown : told new.ground new.history ≡ record { whole = (told old.ground old.history).whole; lines = (told old.ground old.history).lines ++ entry_lines old.ground.limits (reverse es) } =
    (λ i. told (g i) (on.1 i)) ∙ told_lines old.ground es old.history on.2 in
    let added : entry_lines old.ground.limits (drop n (reverse new.history)) ++ report ≡ entry_lines old.ground.limits (reverse es) =
    (λ i. entry_lines old.ground.limits ((ap (λ (k : List StepRec). drop n (reverse k)) on.1 ∙ new_entries es old.history n from) i) ++ none i) ∙ append-nil (entry_lines old.ground.limits (reverse es)) in
    record {
      lines = λ b. text ∙ (λ i. b i ++ added i) ∙ sym (ap (λ (t : Told). t.lines) grown);
      whole = ap (λ (t : Told). t.whole) grown;
      alone = λ o. subst (λ (k : List StepRec). is_of_one_editor k ≡ true) (sym on.1) (one_editor 1 es old.history (omega arith) on.2 o);
    }

told_publish : {old new : CoreView} (before after report : List ℕ) (n : ℕ) → new.ground ≡ old.ground → new.history ≡ entry 1 calls.Publish (publish_reply old.ground old.history) ∷ old.history → n ≡ length (reverse old.history) →
    report ≡ report_in new.ground new.history (publish_reply old.ground old.history) → after ≡ before ++ (entry_lines old.ground.limits (drop n (reverse new.history)) ++ report) → Tells old new before after
told_publish {old = old} {new = new} before after report n g next from is text =
    let e : StepRec = entry 1 calls.Publish (publish_reply old.ground old.history) in
    let own : report ≡ report_in old.ground (e ∷ old.history) e.reply = is ∙ (λ i. report_in (g i) (next i) (publish_reply old.ground old.history)) in
    let grown : told new.ground new.history ≡ record { whole = (told old.ground old.history).whole; lines = (told old.ground old.history).lines ++ (entry_line old.ground.limits e ++ report_in old.ground (e ∷ old.history) e.reply) } =
    (λ i. told (g i) (next i)) ∙ told_line old.ground e old.history refl in
    let one : entry_lines old.ground.limits (drop n (reverse new.history)) ≡ entry_line old.ground.limits e =
    ap (λ (xs : List StepRec). entry_lines old.ground.limits xs) (ap (λ (k : List StepRec). drop n (reverse k)) next ∙ new_entries (e ∷ []) old.history n from) ∙ append-nil (entry_line old.ground.limits e) in
    record {
      lines = λ b. text ∙ (λ i. b i ++ (one i ++ own i)) ∙ sym (ap (λ (t : Told). t.lines) grown);
      whole = ap (λ (t : Told). t.whole) grown;
      alone = λ o. subst (λ (k : List StepRec). is_of_one_editor k ≡ true) (sym next) o;
    }

-- a publish with room made its entry
published : (g : Ground) (p : Place) (h : List StepRec) → (act_done g 1 Publish p h).full ≡ false → (act_done g 1 Publish p h).history ≡ entry 1 calls.Publish (publish_reply g h) ∷ h
published g p h not =
    let F : Bool → Type 0 = λ b. (cond b (ended h p) (done (entry 1 calls.Publish (publish_reply g h) ∷ h) p)).full ≡ false → (cond b (ended h p) (done (entry 1 calls.Publish (publish_reply g h) ∷ h) p)).history ≡ entry 1 calls.Publish (publish_reply g h) ∷ h in
    let all : F (is_full g h 1) = elim (is_full g h 1) as F [ true ↦ λ k. absurd (cc) | false ↦ λ k. refl ] in
    all not

line_told : {old new : CoreView} (a : Act) (b : Bool) (p : Place) (e : Editor) (before after report : List ℕ) (n : ℕ) → publishes a ≡ b → IsDone (act_done old.ground 1 a p old.history) old new 1 e → report ≡ report_of a old new → n ≡ length (reverse old.history) →
    after ≡ before ++ (entry_lines old.ground.limits (drop n (reverse new.history)) ++ report) → Tells old new before after
line_told {old = old} {new = new} a false p e before after report n q d is from text =
    told_quietly before after report n d.ground (subst (λ (k : List StepRec). GoesOn 1 old.history k) d.history (act_quiet old.ground 1 a p old.history q)) from (is ∙ no_text a q) text where
      no_text : (a : Act) → publishes a ≡ false → report_of a old new ≡ []
      no_text Begin q = refl
      no_text (Change x) q = refl
      no_text Commit q = refl
      no_text Publish q = absurd (cc)
      no_text Take q = refl
      no_text Give q = refl
      no_text (Work n) q = refl
line_told {old = old} {new = new} Publish true p e before after report n q d is from text =
    told_publish before after report n d.ground (sym d.history ∙ published old.ground p old.history d.not_full) from is text
line_told Begin true p e before after report n q d is from text = absurd (cc)
line_told (Change x) true p e before after report n q d is from text = absurd (cc)
line_told Commit true p e before after report n q d is from text = absurd (cc)
line_told Take true p e before after report n q d is from text = absurd (cc)
line_told Give true p e before after report n q d is from text = absurd (cc)
line_told (Work m) true p e before after report n q d is from text = absurd (cc)

pub act_told : {old new : CoreView} (a : Act) (p : Place) (e : Editor) (before after report : List ℕ) (n : ℕ) → IsDone (act_done old.ground 1 a p old.history) old new 1 e → report ≡ report_of a old new → n ≡ length (reverse old.history) →
    after ≡ before ++ (entry_lines old.ground.limits (drop n (reverse new.history)) ++ report) → Tells old new before after
act_told a p e before after report n d is from text = line_told a (publishes a) p e before after report n refl d is from text

length_more : (es h : List StepRec) → length h ≤ length (es ++ h)
length_more [] h = omega arith
length_more (e ∷ es) h = let rest : length h ≤ length (es ++ h) = length_more es h in omega (arith, rest)

-- a journal's length is at most that of a later history
pub from_within : (h k j : List StepRec) → j ≡ reverse h → IsLater h k → length j ≤ length k
from_within h k j e later =
    let whole : length h ≤ length (later.0 ++ h) = length_more later.0 h in
    let is : length j ≡ length h = ap (λ (xs : List StepRec). length xs) e ∙ length-reverse h in
    let long : length k ≡ length (later.0 ++ h) = ap (λ (xs : List StepRec). length xs) later.1 in
    omega (arith, whole, is, long)

pub later_done : {old new : CoreView} {who : ℕ} {e : Editor} (d : Done) → IsLater old.history d.history → IsDone d old new who e → IsLater old.history new.history
later_done {old = old} d later k = subst (λ (h : List StepRec). IsLater old.history h) k.history later

-- the line was done, but memory was wanting to tell of it
pub stopped_behind : {old mid new : CoreView} {who : ℕ} {e : Editor} (d : Done) → IsLater old.history d.history → IsDone d old mid who e → IsReturned mid new → IsStopped halt.Memory d old new
stopped_behind {mid = mid} d later k r = record {
  ground = r.ground ∙ k.ground;
  legal = r.legal;
  front = mid.history;
  since = later_done d later k;
  within = rw k.history (same mid.history);
  at_full = tt;
  back = r.history;
}
