-- A script that comes to a call that would be answered Full has a long journal.
use Rattle.std.proofs.Common.{◌≡◌, ℕ, zero, suc, ◌<◌, ◌≤◌, ◌+◌, nat_lt, Bool, true, false, cond, List, [], ◌∷◌, ◌++◌, length, length-append, reverse, Option, Some, None, arith, refl, ap, sym, subst, ◌∙◌}
use Rattle.std.proofs.lemmas.Bool.{lt-ltb, ltb-true}
use Rattle.std.proofs.lemmas.List.{length-reverse}
use Rattle.audit_model.specs.declared.commit.Edit.{Edit}
use Rattle.audit_model.specs.declared.verdict.Pair.{Pair}
use Rattle.audit_model.specs.declared.step.StepRec.{StepRec}
use Rattle.audit_model.specs.declared.step.Given.{Given}
use Rattle.audit_model.specs.declared.step.Call.TheVariants as calls
use Rattle.audit_model.specs.declared.step.Reply.TheVariants.{Claimed, Idle, Back}
use Rattle.audit_model.specs.declared.script.Act.{Act}
use Rattle.audit_model.specs.declared.script.Act.TheVariants.{Begin, Change, Commit, Publish, Take, Give, Work}
use Rattle.audit_model.specs.declared.script.ScriptLine.{ScriptLine}
use Rattle.audit_model.specs.declared.script.Phase.{Phase}
use Rattle.audit_model.specs.History.{Ground, revision, given, out}
use Rattle.audit_model.specs.Machine.{claim_reply, claimed, least_claimable, is_full, pairs_now}
use Rattle.script_rules.specs.ScriptLines.{Place, free, entry}
use Rattle.script_rules.specs.Serial.{Done, done, ended, with_room, after_delivery, after_claim, rounds, commit_done, give_done, act_done, publish_done, drain_done, Run, fresh, moved, line_run, lines_run, sync_run, phases_run}
use Rattle.serial_run.specs.Growth.{returns, returned}
use Rattle.serial_run.specs.Runs.{script_history}
use Rattle.serial_run.specs.Stopped.{FullIsLong}

-- where what was done has ended, there was no room for two more entries
abbrev Fills : Ground → Done → Type 0
Fills g d = d.full ≡ true → is_full g d.history 2 ≡ true

fuller : (g : Ground) (n : ℕ) (h : List StepRec) → n ≤ 2 → is_full g h n ≡ true → is_full g h 2 ≡ true
fuller g n h le e =
    let past : g.limits.steps < length h + length (out h) + n = ltb-true g.limits.steps (length h + length (out h) + n) e in
    lt-ltb g.limits.steps (length h + length (out h) + 2) (omega (arith, past, le))

not_ended : (h : List StepRec) (g : Ground) (p : Place) → Fills g (done h p)
not_ended h g p e = absurd (cc)

fills_by : (g : Ground) (n : ℕ) (h : List StepRec) (p : Place) (d : Done) (b : Bool) → is_full g h n ≡ b → n ≤ 2 → Fills g d → Fills g (cond b (ended h p) d)
fills_by g n h p d true e le k = λ full. fuller g n h le e
fills_by g n h p d false e le k = k

roomy : (g : Ground) (n : ℕ) (h : List StepRec) (p : Place) (d : Done) → n ≤ 2 → Fills g d → Fills g (with_room g n h p d)
roomy g n h p d le k = fills_by g n h p d (is_full g h n) refl le k

claim_fills : (g : Ground) (who : ℕ) (o : Option Pair) (number r : ℕ) (h : List StepRec) (p : Place) (more : List StepRec → Done) → ((k : List StepRec) → Fills g (more k)) → Fills g (after_claim g who (claimed o number r) h p more)
claim_fills g who None number r h p more on = not_ended (entry who calls.Claim Idle ∷ h) g p
claim_fills g who (Some pair) number r h p more on = on (after_delivery g who number (entry who calls.Claim (Claimed number pair r) ∷ h))

rounds_fill : (g : Ground) (who n : ℕ) (p : Place) (h : List StepRec) → Fills g (rounds g who n p h)
rounds_fill g who zero p h = not_ended h g p
rounds_fill g who (suc n) p h =
    roomy g 2 h p (after_claim g who (claim_reply g h) h p (rounds g who n p)) (omega arith)
    (claim_fills g who (least_claimable g h) (given h + 1) (revision h) h p (rounds g who n p) (rounds_fill g who n p))

one_fills : (g : Ground) (n : ℕ) (h k : List StepRec) (p q : Place) → n ≤ 2 → Fills g (with_room g n h p (done k q))
one_fills g n h k p q le = roomy g n h p (done k q) le (not_ended k g q)

commit_fills : (g : Ground) (who : ℕ) (o : Option (ℕ × List Edit)) (p : Place) (h : List StepRec) → Fills g (commit_done g who o p h)
commit_fills g who None p h = not_ended h g p
commit_fills g who (Some d) p h = one_fills g 1 h _ p _ (omega arith)

give_fills : (g : Ground) (who : ℕ) (o : Option (Option ℕ)) (p : Place) (h : List StepRec) → Fills g (give_done g who o p h)
give_fills g who None p h = λ e. absurd (cc)
give_fills g who (Some None) p h = λ e. absurd (cc)
give_fills g who (Some (Some n)) p h = λ e. absurd (cc)

act_fills : (g : Ground) (who : ℕ) (a : Act) (p : Place) (h : List StepRec) → Fills g (act_done g who a p h)
act_fills g who Begin p h = one_fills g 1 h _ p _ (omega arith)
act_fills g who (Change e) p h = λ full. absurd (cc)
act_fills g who Commit p h = commit_fills g who p.draft p h
act_fills g who Publish p h = one_fills g 1 h _ p _ (omega arith)
act_fills g who Take p h = one_fills g 2 h _ p _ (omega arith)
act_fills g who Give p h = give_fills g who p.held p h
act_fills g who (Work n) p h = rounds_fill g who n p h

either : (g : Ground) (d e : Done) (b : Bool) → d.full ≡ b → Fills g d → Fills g e → Fills g (cond b d e)
either g d e true is a k = a
either g d e false is a k = k

drain_fills : (g : Ground) (h : List StepRec) → Fills g (drain_done g h)
drain_fills g h =
    let d : Done = rounds g 0 (suc (length (pairs_now g h))) free h in
    either g d (publish_done g d.history) d.full refl (rounds_fill g 0 (suc (length (pairs_now g h))) free h) (one_fills g 1 d.history _ free free (omega arith))

-- Runs.

abbrev RunFills : Ground → Run → Type 0
RunFills g s = s.full ≡ true → is_full g s.history 2 ≡ true

either_run : (g : Ground) (s t : Run) (b : Bool) → RunFills g s → RunFills g t → RunFills g (cond b s t)
either_run g s t true a k = a
either_run g s t false a k = k

line_fills : (g : Ground) (l : ScriptLine) (s : Run) → RunFills g s → RunFills g (line_run g l s)
line_fills g l s k = either_run g s (moved l.editor s (act_done g l.editor l.act (s.places l.editor) s.history)) s.full k (act_fills g l.editor l.act (s.places l.editor) s.history)

lines_fill : (g : Ground) (ls : List ScriptLine) (s : Run) → RunFills g s → RunFills g (lines_run g ls s)
lines_fill g [] s k = k
lines_fill g (l ∷ ls) s k = lines_fill g ls (line_run g l s) (line_fills g l s k)

sync_fills : (g : Ground) (s : Run) → RunFills g s → RunFills g (sync_run g s)
sync_fills g s k = either_run g s (moved 0 s (drain_done g s.history)) s.full k (drain_fills g s.history)

phases_fill : (g : Ground) (ps : List Phase) (s : Run) → RunFills g s → RunFills g (phases_run g ps s)
phases_fill g [] s k = k
phases_fill g (p ∷ ps) s k = phases_fill g ps (sync_run g (lines_run g p.lines s)) (sync_fills g (lines_run g p.lines s) (lines_fill g p.lines s k))

returns_long : (cs : List Given) → length (returns cs) ≡ length cs
returns_long [] = refl
returns_long (c ∷ cs) =
    let rest : length (returns cs) ≡ length cs = returns_long cs in
    omega (arith, rest, length-append (returns cs) (entry c.actor (calls.GiveBack c.number) Back ∷ []))

pub full_is_long : FullIsLong
full_is_long g phases journal full back =
    let h : List StepRec = script_history g phases in
    let none : is_full g h 2 ≡ true = phases_fill g phases fresh (λ e. absurd (cc)) full in
    let past : g.limits.steps < length h + length (out h) + 2 = ltb-true g.limits.steps (length h + length (out h) + 2) none in
    let long : length (returned h) ≡ length (returns (out h)) + length h = length-append (returns (out h)) h in
    let all : length journal ≡ length (returned h) = sym (length-reverse journal) ∙ ap (λ (xs : List StepRec). length xs) back in
    omega (arith, past, long, all, returns_long (out h))
