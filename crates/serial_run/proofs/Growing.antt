-- What a script leads to goes on from what was there.
use Rattle.std.proofs.Common.{ℕ, zero, suc, Bool, true, false, cond, List, [], ◌∷◌, ◌++◌, length, Option, Some, None, refl, ap, sym, ◌∙◌}
use Rattle.std.proofs.lemmas.List.{append_assoc}
use Rattle.audit_model.specs.declared.commit.Edit.{Edit}
use Rattle.audit_model.specs.declared.step.StepRec.{StepRec}
use Rattle.audit_model.specs.declared.step.Given.{Given}
use Rattle.audit_model.specs.declared.step.Call.TheVariants as calls
use Rattle.audit_model.specs.declared.step.Reply.{Reply}
use Rattle.audit_model.specs.declared.step.Reply.TheVariants.{Claimed}
use Rattle.audit_model.specs.declared.script.Act.{Act}
use Rattle.audit_model.specs.declared.script.Act.TheVariants.{Begin, Change, Commit, Publish, Take, Give, Work}
use Rattle.audit_model.specs.declared.script.ScriptLine.{ScriptLine}
use Rattle.audit_model.specs.declared.script.Phase.{Phase}
use Rattle.audit_model.specs.History.{Ground, out, claim_numbered}
use Rattle.audit_model.specs.Machine.{claim_reply, is_full, pairs_now}
use Rattle.script_rules.specs.ScriptLines.{Place, entry, free}
use Rattle.script_rules.specs.Serial.{Done, ended, with_room, given_to, with_delivery, after_delivery, after_claim, rounds, commit_done, give_done, act_done, publish_done, drain_done, Run, line_run, lines_run, sync_run, phases_run}
use Rattle.serial_run.specs.Growth.{IsLater}

pub same : (h : List StepRec) → IsLater h h
same h = ([], refl)

pub one_more : (e : StepRec) (h : List StepRec) → IsLater h (e ∷ h)
one_more e h = (e ∷ [], refl)

pub joined : (h k l : List StepRec) → IsLater h k → IsLater k l → IsLater h l
joined h k l a b = (b.0 ++ a.0, b.1 ∙ ap (λ (es : List StepRec). b.0 ++ es) a.1 ∙ sym (append_assoc b.0 a.0 h))

pub after : (e : StepRec) (h k : List StepRec) → IsLater (e ∷ h) k → IsLater h k
after e h k a = joined h (e ∷ h) k (one_more e h) a

-- a course with room, or its end before a call that would be answered Full
pub roomy : (g : Ground) (n : ℕ) (h : List StepRec) (p : Place) (d : Done) → IsLater h d.history → IsLater h (with_room g n h p d).history
roomy g n h p d a = elim (is_full g h n) as (λ b. IsLater h (cond b (ended h p) d).history) [ true ↦ same h | false ↦ a ]

delivered_if : (g : Ground) (who n : ℕ) (o : Option Given) (h : List StepRec) → IsLater h (with_delivery g who n o h)
delivered_if g who n None h = same h
delivered_if g who n (Some c) h = one_more _ h

pub delivered : (g : Ground) (who n : ℕ) (h : List StepRec) → IsLater h (after_delivery g who n h)
delivered g who n h = delivered_if g who n (given_to who (claim_numbered n (out h))) h

-- what goes on later whatever comes first
abbrev pub Grows : (List StepRec → Done) → Type 0
Grows more = (h : List StepRec) → IsLater h (more h).history

-- behind the claim, where the claim's entry is
pub behind_claim : (g : Ground) (who : ℕ) (reply : Reply) (h : List StepRec) (p : Place) (more : List StepRec → Done) → Grows more → IsLater (entry who calls.Claim reply ∷ h) (after_claim g who reply h p more).history
behind_claim g who (Claimed n pair r) h p more grows =
    let first : List StepRec = entry who calls.Claim (Claimed n pair r) ∷ h in
    joined first (after_delivery g who n first) (more (after_delivery g who n first)).history (delivered g who n first) (grows (after_delivery g who n first))
behind_claim g who reply h p more grows = same (entry who calls.Claim reply ∷ h)

pub rounds_grow : (g : Ground) (who n : ℕ) (p : Place) → Grows (rounds g who n p)
rounds_grow g who zero p h = same h
rounds_grow g who (suc n) p h =
    let d : Done = after_claim g who (claim_reply g h) h p (rounds g who n p) in
    roomy g 2 h p d (after (entry who calls.Claim (claim_reply g h)) h d.history (behind_claim g who (claim_reply g h) h p (rounds g who n p) (rounds_grow g who n p)))

pub commit_grows : (g : Ground) (who : ℕ) (d : Option (ℕ × List Edit)) (p : Place) (h : List StepRec) → IsLater h (commit_done g who d p h).history
commit_grows g who None p h = same h
commit_grows g who (Some d) p h = roomy g 1 h p _ (one_more _ h)

pub give_grows : (g : Ground) (who : ℕ) (held : Option (Option ℕ)) (p : Place) (h : List StepRec) → IsLater h (give_done g who held p h).history
give_grows g who None p h = same h
give_grows g who (Some None) p h = same h
give_grows g who (Some (Some n)) p h = delivered g who n h

pub act_grows : (g : Ground) (who : ℕ) (a : Act) (p : Place) (h : List StepRec) → IsLater h (act_done g who a p h).history
act_grows g who Begin p h = roomy g 1 h p _ (one_more _ h)
act_grows g who (Change e) p h = same h
act_grows g who Commit p h = commit_grows g who p.draft p h
act_grows g who Publish p h = roomy g 1 h p _ (one_more _ h)
act_grows g who Take p h = roomy g 2 h p _ (one_more _ h)
act_grows g who Give p h = give_grows g who p.held p h
act_grows g who (Work n) p h = rounds_grow g who n p h

publish_grows : (g : Ground) (h : List StepRec) → IsLater h (publish_done g h).history
publish_grows g h = roomy g 1 h free _ (one_more _ h)

pub drain_grows : (g : Ground) (h : List StepRec) → IsLater h (drain_done g h).history
drain_grows g h =
    let d : Done = rounds g 0 (suc (length (pairs_now g h))) free h in
    let first : IsLater h d.history = rounds_grow g 0 (suc (length (pairs_now g h))) free h in
    elim d.full as (λ b. IsLater h (cond b d (publish_done g d.history)).history) [ true ↦ first | false ↦ joined h d.history (publish_done g d.history).history first (publish_grows g d.history) ]

-- Runs.

unless_full : (b : Bool) (h : List StepRec) (s t : Run) → IsLater h s.history → IsLater h t.history → IsLater h (cond b s t).history
unless_full true h s t a b = a
unless_full false h s t a b = b

pub line_grows : (g : Ground) (l : ScriptLine) (s : Run) → IsLater s.history (line_run g l s).history
line_grows g l s = unless_full s.full s.history s _ (same s.history) (act_grows g l.editor l.act (s.places l.editor) s.history)

pub lines_grow : (g : Ground) (ls : List ScriptLine) (s : Run) → IsLater s.history (lines_run g ls s).history
lines_grow g [] s = same s.history
lines_grow g (l ∷ ls) s = joined s.history (line_run g l s).history (lines_run g ls (line_run g l s)).history (line_grows g l s) (lines_grow g ls (line_run g l s))

pub sync_grows : (g : Ground) (s : Run) → IsLater s.history (sync_run g s).history
sync_grows g s = unless_full s.full s.history s _ (same s.history) (drain_grows g s.history)

pub phases_grow : (g : Ground) (ps : List Phase) (s : Run) → IsLater s.history (phases_run g ps s).history
phases_grow g [] s = same s.history
phases_grow g (p ∷ ps) s =
    let t : Run = lines_run g p.lines s in
    joined s.history (sync_run g t).history (phases_run g ps (sync_run g t)).history
    (joined s.history t.history (sync_run g t).history (lines_grow g p.lines s) (sync_grows g t))
    (phases_grow g ps (sync_run g t))
