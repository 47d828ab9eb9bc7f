-- Who makes the entries of a phase, and how many of them end one.
use Rattle.std.proofs.Common.{◌≡◌, ℕ, suc, ◌≤◌, ◌+◌, Bool, true, false, not, cond, ◌&&◌, ◌==◌, nat_le, List, [], ◌∷◌, ◌++◌, length, arith, refl, ap, sym, subst, ◌∙◌}
use Rattle.std.proofs.Math.Bool.{and-false}
use Rattle.std.proofs.lemmas.Bool.{le-leb, leb-true, and_parts, and_right}
use Rattle.std.proofs.lemmas.List.{append_assoc}
use Rattle.audit_model.specs.declared.step.StepRec.{StepRec}
use Rattle.audit_model.specs.declared.step.Given.{Given}
use Rattle.audit_model.specs.declared.step.Call.{Call}
use Rattle.audit_model.specs.declared.step.Call.TheVariants as calls
use Rattle.audit_model.specs.declared.step.Reply.{Reply}
use Rattle.audit_model.specs.declared.step.Reply.TheVariants as reply
use Rattle.audit_model.specs.declared.script.Act.{Act}
use Rattle.audit_model.specs.declared.script.Act.TheVariants.{Begin, Change, Commit, Publish, Take, Give, Work}
use Rattle.audit_model.specs.declared.script.ScriptLine.{ScriptLine}
use Rattle.audit_model.specs.History.{Ground, out, out_after, with_claim, without_claim}
use Rattle.audit_model.specs.Machine.{is_full, pairs_now, publish_reply}
use Rattle.script_rules.specs.Output.{ends_phase, is_report, entry_text, report_in}
use Rattle.script_rules.specs.ScriptLines.{Place, entry, free}
use Rattle.script_rules.specs.ScriptOrder.{IsOrderly, drafts_after, holds_after}
use Rattle.script_rules.specs.Serial.{Done, done, ended, act_done, rounds, publish_done, drain_done, Run, moved, line_run, lines_run, sync_run}
use Rattle.script_rules.specs.Telling.{Told, told, is_of_one_editor}
use Rattle.serial_run.specs.Growth.{IsLater, returns, returned}
use Rattle.serial_run.specs.Quiet.{AreQuiet, GoesOn}
use Rattle.serial_run.specs.Runs.{ends}
use Rattle.serial_run.proofs.Quieting.{act_quiet, publishes, rounds_quiet}
use Rattle.audit_model.proofs.Tests.{Each}

-- What entries can add: only actors up to 1, and at most so many ends of phases.
pub record Adds (most : ℕ) (h k : List StepRec) : Type 0 where
  pub few : ends k ≤ ends h + most
  pub alone : is_of_one_editor h ≡ true → is_of_one_editor k ≡ true

pub adds_nothing : (h : List StepRec) → Adds 0 h h
adds_nothing h = record { few = omega arith; alone = λ o. o }

pub adds_joined : (m n : ℕ) (h k l : List StepRec) → Adds m h k → Adds n k l → Adds (m + n) h l
adds_joined m n h k l a b = record { few = omega (arith, a.few, b.few); alone = λ o. b.alone (a.alone o) }

pub adds_most : (m n : ℕ) (h k : List StepRec) → m ≤ n → Adds m h k → Adds n h k
adds_most m n h k le a = record { few = omega (arith, a.few, le); alone = a.alone }

-- an entry that ends no phase
ends_more : (b : Bool) (h : List StepRec) → cond b (ends h + 1) (ends h) ≤ ends h + 1
ends_more true h = omega arith
ends_more false h = omega arith

adds_entry : (e : StepRec) (h : List StepRec) → e.actor ≤ 1 → ends_phase e ≡ false → Adds 0 h (e ∷ h)
adds_entry e h le quiet = record {
  few = (let n : ends (e ∷ h) ≡ ends h = ap (λ (b : Bool). cond b (ends h + 1) (ends h)) quiet in omega (arith, n));
  alone = λ o i. le-leb e.actor 1 le i && o i;
}

adds_last : (e : StepRec) (h : List StepRec) → e.actor ≤ 1 → Adds 1 h (e ∷ h)
adds_last e h le = record {
  few = ends_more (ends_phase e) h;
  alone = λ o i. le-leb e.actor 1 le i && o i;
}

adds_quiet : (who : ℕ) (es h : List StepRec) → who ≤ 1 → AreQuiet who es → Adds 0 h (es ++ h)
adds_quiet who [] h le q = adds_nothing h
adds_quiet who (e ∷ es) h le q =
    adds_joined 0 0 h (es ++ h) (e ∷ (es ++ h)) (adds_quiet who es h le q.2) (adds_entry e (es ++ h) (omega (arith, le, q.0)) (and_right (e.actor == 0) (is_report e.reply) q.1))

adds_going : (who : ℕ) (h k : List StepRec) → who ≤ 1 → GoesOn who h k → Adds 0 h k
adds_going who h k le on = subst (λ (x : List StepRec). Adds 0 h x) (sym on.1) (adds_quiet who on.0 h le on.2)

-- Lines.

publish_adds : (g : Ground) (p : Place) (h : List StepRec) → Adds 0 h (act_done g 1 Publish p h).history
publish_adds g p h =
    let e : StepRec = entry 1 calls.Publish (publish_reply g h) in
    elim (is_full g h 1) as (λ b. Adds 0 h (cond b (ended h p) (done (e ∷ h) p)).history) [ true ↦ adds_nothing h | false ↦ adds_entry e h (omega arith) refl ]

act_adds_by : (g : Ground) (a : Act) (p : Place) (h : List StepRec) (b : Bool) → publishes a ≡ b → Adds 0 h (act_done g 1 a p h).history
act_adds_by g a p h false q = adds_going 1 h (act_done g 1 a p h).history (omega arith) (act_quiet g 1 a p h q)
act_adds_by g Publish p h true q = publish_adds g p h
act_adds_by g Begin p h true q = absurd (cc)
act_adds_by g (Change x) p h true q = absurd (cc)
act_adds_by g Commit p h true q = absurd (cc)
act_adds_by g Take p h true q = absurd (cc)
act_adds_by g Give p h true q = absurd (cc)
act_adds_by g (Work n) p h true q = absurd (cc)

line_adds : (g : Ground) (x : ScriptLine) (s : Run) → x.editor ≡ 1 → Adds 0 s.history (line_run g x s).history
line_adds g x s one =
    let at : Adds 0 s.history (act_done g x.editor x.act (s.places x.editor) s.history).history =
    subst (λ (n : ℕ). Adds 0 s.history (act_done g n x.act (s.places x.editor) s.history).history) (sym one) (act_adds_by g x.act (s.places x.editor) s.history (publishes x.act) refl) in
    elim s.full as (λ b. Adds 0 s.history (cond b s (moved x.editor s (act_done g x.editor x.act (s.places x.editor) s.history))).history) [ true ↦ adds_nothing s.history | false ↦ at ]

pub lines_add : (g : Ground) (ls : List ScriptLine) (drafting holding : Bool) (s : Run) → IsOrderly 1 drafting holding ls → Adds 0 s.history (lines_run g ls s).history
lines_add g [] drafting holding s o = adds_nothing s.history
lines_add g (x ∷ xs) drafting holding s o =
    adds_joined 0 0 s.history (line_run g x s).history (lines_run g xs (line_run g x s)).history (line_adds g x s o.0)
    (lines_add g xs (drafts_after drafting x.act) (holds_after holding x.act) (line_run g x s) o.2)

-- Drains.

abbrev drain_rounds : Ground → List StepRec → Done
drain_rounds g h = rounds g 0 (suc (length (pairs_now g h))) free h

rounds_add : (g : Ground) (h : List StepRec) → Adds 0 h (drain_rounds g h).history
rounds_add g h = adds_going 0 h (drain_rounds g h).history (omega arith) (rounds_quiet g 0 (suc (length (pairs_now g h))) free h)

last_adds : (g : Ground) (h : List StepRec) → Adds 1 h (publish_done g h).history
last_adds g h =
    let e : StepRec = entry 0 calls.Publish (publish_reply g h) in
    elim (is_full g h 1) as (λ b. Adds 1 h (cond b (ended h free) (done (e ∷ h) free)).history) [ true ↦ adds_most 0 1 h h (omega arith) (adds_nothing h) | false ↦ adds_last e h (omega arith) ]

pub drain_adds : (g : Ground) (h : List StepRec) → Adds 1 h (drain_done g h).history
drain_adds g h =
    let first : Adds 0 h (drain_rounds g h).history = rounds_add g h in
    let both : Adds 1 h (publish_done g (drain_rounds g h).history).history = adds_joined 0 1 h (drain_rounds g h).history (publish_done g (drain_rounds g h).history).history first (last_adds g (drain_rounds g h).history) in
    elim (drain_rounds g h).full as (λ b. Adds 1 h (cond b (drain_rounds g h) (publish_done g (drain_rounds g h).history)).history) [ true ↦ adds_most 0 1 h (drain_rounds g h).history (omega arith) first | false ↦ both ]

publish_full : (g : Ground) (h : List StepRec) → (publish_done g h).full ≡ true → (publish_done g h).history ≡ h
publish_full g h f =
    let d : Done = done (entry 0 calls.Publish (publish_reply g h) ∷ h) free in
    let F : Bool → Type 0 = λ b. (cond b (ended h free) d).full ≡ true → (cond b (ended h free) d).history ≡ h in
    let all : F (is_full g h 1) = elim (is_full g h 1) as F [ true ↦ λ k. refl | false ↦ λ k. absurd (cc) ] in
    all f

-- a drain that ended before a call that would be answered Full ends no phase
pub full_drain_adds : (g : Ground) (h : List StepRec) → (drain_done g h).full ≡ true → Adds 0 h (drain_done g h).history
full_drain_adds g h f =
    let r : Done = drain_rounds g h in
    let F : Bool → Type 0 = λ b. (cond b r (publish_done g r.history)).full ≡ true → Adds 0 h (cond b r (publish_done g r.history)).history in
    let all : F r.full = elim r.full as F [ true ↦ λ k. rounds_add g h | false ↦ λ k. rw (publish_full g r.history k) (rounds_add g h) ] in
    all f

pub sync_adds : (g : Ground) (s : Run) → Adds 1 s.history (sync_run g s).history
sync_adds g s = elim s.full as (λ b. Adds 1 s.history (cond b s (moved 0 s (drain_done g s.history))).history) [ true ↦ adds_most 0 1 s.history s.history (omega arith) (adds_nothing s.history) | false ↦ drain_adds g s.history ]

pub full_sync_adds : (g : Ground) (s : Run) → (sync_run g s).full ≡ true → Adds 0 s.history (sync_run g s).history
full_sync_adds g s f =
    let F : Bool → Type 0 = λ b. (cond b s (moved 0 s (drain_done g s.history))).full ≡ true → Adds 0 s.history (cond b s (moved 0 s (drain_done g s.history))).history in
    let all : F s.full = elim s.full as F [ true ↦ λ k. adds_nothing s.history | false ↦ λ k. full_drain_adds g s.history k ] in
    all f

-- Fronts, and returns.

ends_least : (b : Bool) (n : ℕ) → n ≤ cond b (n + 1) n
ends_least true n = omega arith
ends_least false n = omega arith

ends_front : (es h : List StepRec) → ends h ≤ ends (es ++ h)
ends_front [] h = omega arith
ends_front (e ∷ es) h =
    let rest : ends h ≤ ends (es ++ h) = ends_front es h in
    let one : ends (es ++ h) ≤ ends (e ∷ (es ++ h)) = ends_least (ends_phase e) (ends (es ++ h)) in
    omega (arith, rest, one)

pub front_ends : (h k : List StepRec) → IsLater h k → ends h ≤ ends k
front_ends h k later = subst (λ (x : List StepRec). ends h ≤ ends x) (sym later.1) (ends_front later.0 h)

alone_front : (es h : List StepRec) → is_of_one_editor (es ++ h) ≡ true → is_of_one_editor h ≡ true
alone_front [] h o = o
alone_front (e ∷ es) h o = alone_front es h (and_parts (nat_le e.actor 1) (is_of_one_editor (es ++ h)) o).1

pub front_alone : (h k : List StepRec) → IsLater h k → is_of_one_editor k ≡ true → is_of_one_editor h ≡ true
front_alone h k later o = alone_front later.0 h (subst (λ (x : List StepRec). is_of_one_editor x ≡ true) later.1 o)

abbrev IsLow : Given → Type 0
IsLow c = c.actor ≤ 1

each_push : (cs : List Given) (c : Given) → Each IsLow cs → IsLow c → Each IsLow (cs ++ c ∷ [])
each_push [] c k l = (l, tt)
each_push (x ∷ xs) c k l = (k.0, each_push xs c k.1 l)

each_kept : (n : ℕ) (cs : List Given) → Each IsLow cs → Each IsLow (without_claim n cs)
each_kept n [] k = tt
each_kept n (c ∷ cs) k =
    elim (c.number == n) as (λ b. Each IsLow (cond (not b) (c ∷ without_claim n cs) (without_claim n cs))) [ true ↦ each_kept n cs k.1 | false ↦ (k.0, each_kept n cs k.1) ]

claims_low : (actor : ℕ) (r : Reply) (cs : List Given) → actor ≤ 1 → Each IsLow cs → Each IsLow (with_claim actor r cs)
claims_low actor (reply.Claimed n p r) cs le k = each_push cs _ k le
claims_low actor (reply.Began r) cs le k = k
claims_low actor (reply.Accepted r) cs le k = k
claims_low actor (reply.Refused why) cs le k = k
claims_low actor reply.Idle cs le k = k
claims_low actor reply.Used cs le k = k
claims_low actor (reply.Stale x r) cs le k = k
claims_low actor reply.Back cs le k = k
claims_low actor (reply.Pending p) cs le k = k
claims_low actor (reply.Report r) cs le k = k

call_low : (actor : ℕ) (c : Call) (r : Reply) (cs : List Given) → actor ≤ 1 → Each IsLow cs → Each IsLow (out_after actor c r cs)
call_low actor calls.Begin r cs le k = k
call_low actor (calls.Commit base edits) r cs le k = k
call_low actor calls.Claim r cs le k = claims_low actor r cs le k
call_low actor (calls.Deliver n) r cs le k = each_kept n cs k
call_low actor (calls.GiveBack n) r cs le k = each_kept n cs k
call_low actor calls.Publish r cs le k = k

out_low : (h : List StepRec) → is_of_one_editor h ≡ true → Each IsLow (out h)
out_low [] o = tt
out_low (e ∷ h) o =
    let parts : (nat_le e.actor 1 ≡ true) × (is_of_one_editor h ≡ true) = and_parts (nat_le e.actor 1) (is_of_one_editor h) o in
    call_low e.actor e.call e.reply (out h) (leb-true e.actor 1 parts.0) (out_low h parts.1)

returns_add : (cs : List Given) (h : List StepRec) → Each IsLow cs → Adds 0 h (returns cs ++ h)
returns_add [] h k = adds_nothing h
returns_add (c ∷ cs) h k =
    let e : StepRec = entry c.actor (calls.GiveBack c.number) reply.Back in
    subst (λ (x : List StepRec). Adds 0 h x) (sym (append_assoc (returns cs) (e ∷ []) h))
    (adds_joined 0 0 h (e ∷ h) (returns cs ++ (e ∷ h)) (adds_entry e h k.0 (and-false (c.actor == 0))) (returns_add cs (e ∷ h) k.1))

pub returned_adds : (h : List StepRec) → is_of_one_editor h ≡ true → Adds 0 h (returned h)
returned_adds h o = returns_add (out h) h (out_low h o)

-- The text of the whole phases stays where no phase ends.

whole_by : (g : Ground) (e : StepRec) (h : List StepRec) (b : Bool) → ends_phase e ≡ b → ends (e ∷ h) ≤ ends h → (told g (e ∷ h)).whole ≡ (told g h).whole
whole_by g e h true t le =
    let n : ends (e ∷ h) ≡ ends h + 1 = ap (λ (b : Bool). cond b (ends h + 1) (ends h)) t in absurd (omega (arith, n, le))
whole_by g e h false t le =
    let last : Told = record { whole = (told g h).whole ++ (told g h).lines ++ report_in g (e ∷ h) e.reply; lines = [] } in
    let other : Told = record { whole = (told g h).whole; lines = (told g h).lines ++ entry_text g (e ∷ h) e } in
    ap (λ (b : Bool). (cond b last (cond (e.actor == 0) (told g h) other)).whole) t
    ∙ elim (e.actor == 0) as (λ b. (cond b (told g h) other).whole ≡ (told g h).whole) [ true ↦ refl | false ↦ refl ]

pub whole_stays : (g : Ground) (es h : List StepRec) → ends (es ++ h) ≤ ends h → (told g (es ++ h)).whole ≡ (told g h).whole
whole_stays g [] h le = refl
whole_stays g (e ∷ es) h le =
    let more : ends h ≤ ends (es ++ h) = ends_front es h in
    let grows : ends (es ++ h) ≤ ends (e ∷ (es ++ h)) = ends_front (e ∷ []) (es ++ h) in
    whole_by g e (es ++ h) (ends_phase e) refl (omega (arith, le, more)) ∙ whole_stays g es h (omega (arith, le, grows))

pub later_whole : (g : Ground) (h k : List StepRec) → IsLater h k → ends k ≤ ends h → (told g k).whole ≡ (told g h).whole
later_whole g h k later le =
    ap (λ (x : List StepRec). (told g x).whole) later.1 ∙ whole_stays g later.0 h (subst (λ (x : List StepRec). ends x ≤ ends h) later.1 le)
