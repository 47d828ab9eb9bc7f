-- The drain at the end of a phase.
use Rattle.std.proofs.Common.{◌≡◌, ℕ, suc, ◌+◌, Bool, true, false, cond, List, [], ◌∷◌, ◌++◌, length, reverse, Ok, ◌⊎◌, inl, inr, arith, refl, ap, sym, subst, ◌∙◌}
use Rattle.audit_model.proofs.DrainLaws.{turned}
use Rattle.std.proofs.lemmas.Bool.{true≢false}
use Rattle.audit_model.specs.declared.verdict.Pair.{Pair}
use Rattle.audit_model.specs.declared.step.StepRec.{StepRec}
use Rattle.audit_model.specs.declared.step.Given.{Given}
use Rattle.audit_model.specs.declared.step.Call.TheVariants as calls
use Rattle.audit_model.specs.declared.step.Reply.{Reply}
use Rattle.audit_model.specs.declared.step.Reply.TheVariants.{Claimed, Idle, Used, Pending, Report}
use Rattle.audit_model.specs.Drain.{caller_entry, drain_from, drain_after, unsettled}
use Rattle.audit_model.specs.History.{Ground, out, given, revision, model_at}
use Rattle.audit_model.specs.Machine.{publish_reply, is_full, pairs_now}
use Rattle.audit_model.specs.Report.{audit_text}
use Rattle.script_rules.specs.RunLaws.{DrainEnds}
use Rattle.script_rules.specs.ScriptLines.{entry, free}
use Rattle.script_rules.specs.Serial.{Done, done, ended, rounds, publish_done, drain_done}
use Rattle.script_rules.specs.Telling.{Told, told, is_of_one_editor}
use Rattle.model_view.specs.declared.answers.Halt.{Halt}
use Rattle.model_view.specs.declared.answers.Halt.TheVariants as halt
use Rattle.audit_core.specs.Cores.{CoreView}
use Rattle.audit_core.specs.Steps.{Adds, Unchanged, IsHalted}
use Rattle.serial_run.specs.Growth.{IsLater, returns, returned}
use Rattle.serial_run.specs.Quiet.{GoesOn}
use Rattle.serial_run.specs.Course.{IsStopped, AreRounds}
use Rattle.serial_run.specs.Turns.{IsFree}
use Rattle.serial_run.specs.Running.{Drains, IsSound, ends_now}
use Rattle.serial_run.proofs.Growing.{same, one_more, joined, roomy, rounds_grow}
use Rattle.serial_run.proofs.Quieting.{rounds_quiet, told_nothing, one_editor}
use Rattle.serial_run.proofs.Turning.{legal_next}

abbrev all_rounds : CoreView → Done
all_rounds core = rounds core.ground 0 (suc (length (pairs_now core.ground core.history))) free core.history

-- the drain goes on with the publish
behind_rounds : {old mid : CoreView} → AreRounds (all_rounds old) old mid → drain_done old.ground old.history ≡ publish_done old.ground mid.history
behind_rounds {old = old} {mid = mid} k =
    ap (λ (b : Bool). cond b (all_rounds old) (publish_done old.ground (all_rounds old).history)) k.not_full ∙ ap (λ (h : List StepRec). publish_done old.ground h) k.history

-- with room for it
published : {old mid : CoreView} → AreRounds (all_rounds old) old mid → is_full mid.ground mid.history 1 ≡ false → drain_done old.ground old.history ≡ done (entry 0 calls.Publish (publish_reply mid.ground mid.history) ∷ mid.history) free
published {old = old} {mid = mid} k room =
    behind_rounds k
    ∙ ap (λ (g : Ground). publish_done g mid.history) (sym k.ground)
    ∙ ap (λ (b : Bool). cond b (ended mid.history free) (done (entry 0 calls.Publish (publish_reply mid.ground mid.history) ∷ mid.history) free)) room

pub drained : {old mid new : CoreView} (r : ℕ) (text : List ℕ) → AreRounds (all_rounds old) old mid → is_full mid.ground mid.history 1 ≡ false → Adds mid new (entry 0 calls.Publish (Report r)) → text ≡ audit_text mid.ground.schema mid.ground.specs (model_at mid.ground mid.history r) r →
    Drains (drain_done old.ground old.history) old new (Ok text)
drained {old = old} {mid = mid} {new = new} r text k room a audit =
    let e : StepRec = entry 0 calls.Publish (Report r) in
    let all : drain_done old.ground old.history ≡ done (e ∷ mid.history) free =
    published k room ∙ ap (λ (told : Reply). done (entry 0 calls.Publish told ∷ mid.history) free) (sym a.lawful) in
    let on : GoesOn 0 old.history mid.history = subst (λ (h : List StepRec). GoesOn 0 old.history h) k.history (rounds_quiet old.ground 0 (suc (length (pairs_now old.ground old.history))) free old.history) in
    let quiet : told mid.ground mid.history ≡ told old.ground old.history = (λ i. told (k.ground i) (on.1 i)) ∙ told_nothing old.ground on.0 old.history on.2 in
    let here : told new.ground new.history ≡ record { whole = (told mid.ground mid.history).whole ++ (told mid.ground mid.history).lines ++ text; lines = [] } =
    (λ i. told (a.ground i) (a.history i)) ∙ (λ i. record { whole = (told mid.ground mid.history).whole ++ (told mid.ground mid.history).lines ++ sym audit i; lines = [] }) in (
      ap (λ (d : Done). d.history) all ∙ sym a.history,
      ap (λ (d : Done). d.full) all,
      a.ground ∙ k.ground,
      record { legal = legal_next a k.legal; none_out = ap (λ (h : List StepRec). out h) a.history ∙ k.none_out },
      record {
        model = model_at mid.ground mid.history r;
        revision = r;
        report_is = audit ∙ ap (λ (g : Ground). audit_text g.schema g.specs (model_at mid.ground mid.history r) r) k.ground;
        whole = ap (λ (t : Told). t.whole) here ∙ ap (λ (t : Told). t.whole ++ t.lines ++ text) quiet;
        lines = ap (λ (t : Told). t.lines) here;
        ended = ap (λ (h : List StepRec). ends_now h) a.history;
        alone = λ o. subst (λ (h : List StepRec). is_of_one_editor h ≡ true) (sym a.history) (subst (λ (h : List StepRec). is_of_one_editor h ≡ true) (sym on.1) (one_editor 0 on.0 old.history (omega arith) on.2 o));
      },
    )

-- the publish was halted
pub publish_halted : {old mid : CoreView} (new : CoreView) (why : Halt) → AreRounds (all_rounds old) old mid → IsHalted mid new 1 why → IsStopped why (drain_done old.ground old.history) old new
publish_halted {old = old} {mid = mid} new why k h =
    let since : IsLater old.history mid.history = subst (λ (x : List StepRec). IsLater old.history x) k.history (rounds_grow old.ground 0 (suc (length (pairs_now old.ground old.history))) free old.history) in
    stopped why h since where
      back_of : Unchanged mid new → new.history ≡ returned mid.history
      back_of u = u.history ∙ sym (ap (λ (cs : List Given). returns cs ++ mid.history) k.none_out)

      grown : IsLater mid.history (drain_done old.ground old.history).history
      grown = subst (λ (d : Done). IsLater mid.history d.history) (sym (behind_rounds k)) (roomy old.ground 1 mid.history free _ (one_more _ mid.history))

      at_end : is_full mid.ground mid.history 1 ≡ true → drain_done old.ground old.history ≡ ended mid.history free
      at_end full =
          behind_rounds k
          ∙ ap (λ (g : Ground). publish_done g mid.history) (sym k.ground)
          ∙ ap (λ (b : Bool). cond b (ended mid.history free) (done (entry 0 calls.Publish (publish_reply mid.ground mid.history) ∷ mid.history) free)) full

      stopped : (why : Halt) → IsHalted mid new 1 why → IsLater old.history mid.history → IsStopped why (drain_done old.ground old.history) old new
      stopped halt.Full h since = record {
        ground = h.0.ground ∙ k.ground;
        legal = rw (h.0.ground, h.0.history) k.legal;
        front = mid.history;
        since = since;
        within = grown;
        at_full = (ap (λ (d : Done). d.full) (at_end h.1), sym (ap (λ (d : Done). d.history) (at_end h.1)));
        back = back_of h.0;
      }
      stopped halt.Memory h since = record {
        ground = h.ground ∙ k.ground;
        legal = rw (h.ground, h.history) k.legal;
        front = mid.history;
        since = since;
        within = grown;
        at_full = tt;
        back = back_of h;
      }

-- the rounds were stopped
pub rounds_halted : {old : CoreView} (new : CoreView) (why : Halt) → IsStopped why (all_rounds old) old new → IsStopped why (drain_done old.ground old.history) old new
rounds_halted {old = old} new why k =
    record { ground = k.ground; legal = k.legal; front = k.front; since = k.since; within = joined k.front (all_rounds old).history (drain_done old.ground old.history).history k.within grown; at_full = full why k.at_full; back = k.back } where
      grown : IsLater (all_rounds old).history (drain_done old.ground old.history).history
      grown = elim (all_rounds old).full as (λ b. IsLater (all_rounds old).history (cond b (all_rounds old) (publish_done old.ground (all_rounds old).history)).history) [ true ↦ same (all_rounds old).history | false ↦ roomy old.ground 1 (all_rounds old).history free _ (one_more _ (all_rounds old).history) ]

      full : (why : Halt) → Rattle.serial_run.specs.Course.IfFull why (all_rounds old) k.front → Rattle.serial_run.specs.Course.IfFull why (drain_done old.ground old.history) k.front
      full halt.Full f =
          let e : drain_done old.ground old.history ≡ all_rounds old = ap (λ (b : Bool). cond b (all_rounds old) (publish_done old.ground (all_rounds old).history)) f.0 in
          (ap (λ (d : Done). d.full) e ∙ f.0, f.1 ∙ sym (ap (λ (d : Done). d.history) e))
      full halt.Memory f = tt

-- The drain ends with a report.

last_is : (n r : ℕ) (ps : List Pair) (h : List StepRec) → (rest : List StepRec) × (reverse (drain_from n r ps) ++ h ≡ caller_entry calls.Publish (Report r) ∷ rest)
last_is n r [] h = (caller_entry calls.Claim Idle ∷ h, refl)
last_is n r (p ∷ ps) h =
    let es : List StepRec = drain_from (n + 1) r ps in
    let more : List StepRec = caller_entry (calls.Deliver n) Used ∷ caller_entry calls.Claim (Claimed n p r) ∷ h in
    let rest : (rest : List StepRec) × (reverse es ++ more ≡ caller_entry calls.Publish (Report r) ∷ rest) = last_is (n + 1) r ps more in
    (rest.0, turned (caller_entry calls.Claim (Claimed n p r)) (caller_entry (calls.Deliver n) Used ∷ es) h ∙ turned (caller_entry (calls.Deliver n) Used) es (caller_entry calls.Claim (Claimed n p r) ∷ h) ∙ rest.1)

abbrev reply_of : List StepRec → Reply
reply_of [] = Idle
reply_of (e ∷ h) = e.reply

pub never_pending : {old mid : CoreView} (p : Pair) → DrainEnds → IsSound old.ground → IsFree old → AreRounds (all_rounds old) old mid → is_full mid.ground mid.history 1 ≡ false → Pending p ≡ publish_reply mid.ground mid.history → ⊥
never_pending {old = old} {mid = mid} p law sound f k room told =
    let all : drain_done old.ground old.history ≡ done (entry 0 calls.Publish (publish_reply mid.ground mid.history) ∷ mid.history) free = published k room in
    cases all told (law old.ground old.history sound.numbered sound.ascending f.legal f.none_out) where
      cases : drain_done old.ground old.history ≡ done (entry 0 calls.Publish (publish_reply mid.ground mid.history) ∷ mid.history) free → Pending p ≡ publish_reply mid.ground mid.history → ((drain_done old.ground old.history).full ≡ true) ⊎ (drain_done old.ground old.history ≡ done (reverse (drain_after old.ground old.history) ++ old.history) free) → ⊥
      cases all told (inl full) = true≢false (sym full ∙ ap (λ (d : Done). d.full) all)
      cases all told (inr is) =
          let l : (rest : List StepRec) × (reverse (drain_after old.ground old.history) ++ old.history ≡ caller_entry calls.Publish (Report (revision old.history)) ∷ rest) = last_is (given old.history + 1) (revision old.history) (unsettled old.ground old.history) old.history in
          let same_entry : entry 0 calls.Publish (publish_reply mid.ground mid.history) ∷ mid.history ≡ caller_entry calls.Publish (Report (revision old.history)) ∷ l.0 = sym (ap (λ (d : Done). d.history) all) ∙ ap (λ (d : Done). d.history) is ∙ l.1 in
          let report : publish_reply mid.ground mid.history ≡ Report (revision old.history) = ap (λ (h : List StepRec). reply_of h) same_entry in
          let bad : Pending p ≡ Report (revision old.history) = told ∙ report in
          absurd (cc)

-- as many rounds as there are pairs and one more
pub first_rounds : {old mid : CoreView} (n : ℕ) → n ≡ length (pairs_now old.ground old.history) → AreRounds (rounds old.ground 0 (n + 1) free old.history) old mid → AreRounds (all_rounds old) old mid
first_rounds {old = old} {mid = mid} n e k = subst (λ (m : ℕ). AreRounds (rounds old.ground 0 m free old.history) old mid) (let is : n + 1 ≡ suc (length (pairs_now old.ground old.history)) = omega (arith, e) in is) k

pub rounds_stopped : {old mid : CoreView} (why : Halt) (n : ℕ) → n ≡ length (pairs_now old.ground old.history) → IsStopped why (rounds old.ground 0 (n + 1) free old.history) old mid → IsStopped why (all_rounds old) old mid
rounds_stopped {old = old} {mid = mid} why n e k = subst (λ (m : ℕ). IsStopped why (rounds old.ground 0 m free old.history) old mid) (let is : n + 1 ≡ suc (length (pairs_now old.ground old.history)) = omega (arith, e) in is) k
