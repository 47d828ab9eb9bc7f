-- What each line leaves.
use Rattle.std.proofs.Common.{◌≡◌, ℕ, zero, suc, ◌≤◌, ◌+◌, Bool, true, false, cond, ◌==◌, List, [], ◌∷◌, ◌++◌, length, Option, Some, None, Err, ◌⊎◌, inl, inr, arith, refl, ap, sym, subst, ◌∙◌}
use Rattle.std.specs.List.{cons_option}
use Rattle.audit_model.specs.declared.commit.Edit.{Edit}
use Rattle.audit_model.specs.declared.step.StepRec.{StepRec}
use Rattle.audit_model.specs.declared.step.Given.{Given}
use Rattle.audit_model.specs.declared.step.Call.TheVariants as call
use Rattle.audit_model.specs.declared.step.Reply.{Reply}
use Rattle.audit_model.specs.declared.step.Reply.TheVariants as reply
use Rattle.audit_model.specs.History.{Ground, accepted, model_at, out, revision, commits}
use Rattle.audit_model.specs.Machine.{Legal, claim_reply, is_full}
use Rattle.script_rules.specs.ScriptLines.{Place, place, entry}
use Rattle.script_rules.specs.Serial.{Done, done, ended, with_room, after_claim, rounds, commit_done}
use Rattle.audit_model.proofs.Claims.{IsSound, sound_out}
use Rattle.audit_model.proofs.HistoryLaws.{earlier_models_stay}
use Rattle.script_rules.proofs.RunLegal.{revision_grows}
use Rattle.audit_model.proofs.Tests.{Each-found}
use Rattle.model_view.specs.Views.{DraftView, FindingView}
use Rattle.model_view.specs.declared.answers.Halt.{Halt}
use Rattle.model_view.specs.declared.answers.Halt.TheVariants as halt
use Rattle.audit_core.specs.Cores.{CoreView}
use Rattle.model_view.specs.Answers.{given_of}
use Rattle.audit_core.specs.Steps.{Adds, Unchanged, IsHalted}
use Rattle.serial_run.specs.declared.editor.Editor.{Editor}
use Rattle.serial_run.specs.declared.editor.Held.{Held}
use Rattle.serial_run.specs.declared.editor.Held.TheVariants as held
use Rattle.serial_run.specs.Growth.{IsLater, returns, returned}
use Rattle.serial_run.specs.Editing.{IsSoFar, HoldsIn, HoldsReady, WorksIn, draft_of, held_of, place_of, is_holding}
use Rattle.serial_run.specs.Course.{IsReturned, IsStopped, IsDone, AreRounds}
use Rattle.serial_run.specs.Turns.{IsFree, HandsIn, StopsTurn, has_room, claim_entry}
use Rattle.serial_run.proofs.Growing.{same, one_more, roomy, rounds_grow}
use Rattle.serial_run.proofs.Turning.{legal_next}

-- Stops.

-- memory was wanting before anything was done, and what was held was given back
pub stopped_before : {old mid new : CoreView} (d : Done) → IsLater old.history d.history → Unchanged old mid → IsReturned mid new → IsStopped halt.Memory d old new
stopped_before {old = old} d later u r = record {
  ground = r.ground ∙ u.ground;
  legal = r.legal;
  front = old.history;
  since = same old.history;
  within = later;
  at_full = tt;
  back = r.history ∙ ap (λ (h : List StepRec). returned h) u.history;
}

-- the call would have been answered Full
pub stopped_full : {old mid new : CoreView} (d : Done) → d ≡ ended old.history d.place → Unchanged old mid → IsReturned mid new → IsStopped halt.Full d old new
stopped_full {old = old} d e u r = record {
  ground = r.ground ∙ u.ground;
  legal = r.legal;
  front = old.history;
  since = same old.history;
  within = rw (ap (λ (x : Done). x.history) e) (same old.history);
  at_full = (ap (λ (x : Done). x.full) e, sym (ap (λ (x : Done). x.history) e));
  back = r.history ∙ ap (λ (h : List StepRec). returned h) u.history;
}

no_room : (g : Ground) (n : ℕ) (h : List StepRec) (p : Place) (d : Done) → is_full g h n ≡ true → with_room g n h p d ≡ ended h p
no_room g n h p d full = ap (λ (b : Bool). cond b (ended h p) d) full

full_at : (g : Ground) (n : ℕ) (h : List StepRec) (p : Place) (d : Done) → is_full g h n ≡ true → with_room g n h p d ≡ ended h (with_room g n h p d).place
full_at g n h p d full = no_room g n h p d full ∙ ap (λ (q : Place). ended h q) (sym (ap (λ (x : Done). x.place) (no_room g n h p d full)))

-- a call with room for so many entries was halted, and what was held was given back
pub halted_stop : {old mid new : CoreView} (why : Halt) (n : ℕ) (p : Place) (d : Done) → IsLater old.history d.history → IsHalted old mid n why → IsReturned mid new → IsStopped why (with_room old.ground n old.history p d) old new
halted_stop {old = old} halt.Full n p d later k r = stopped_full (with_room old.ground n old.history p d) (full_at old.ground n old.history p d k.1) k.0 r
halted_stop {old = old} halt.Memory n p d later k r = stopped_before (with_room old.ground n old.history p d) (roomy old.ground n old.history p d later) k r

-- Commits.

-- what is held stays ready behind an entry that leaves all claims out
ready_on : (g : Ground) (h : List StepRec) (who : ℕ) (base : ℕ) (edits : List Edit) (told : Reply) (x : Held) → Legal g h → HoldsReady g h who x → HoldsReady g (entry who (call.Commit base edits) told ∷ h) who x
ready_on g h who base edits told held.Nothing l k = tt
ready_on g h who base edits told held.Idle l k = tt
ready_on g h who base edits told (held.Found f) l k =
    let early : f.claim.snapshot.revision ≤ revision h = (Each-found (IsSound g (commits h)) (λ c. c.number == f.claim.number) (out h) (given_of who f.claim) (sound_out g h l) k.0.is_out).early in
    let stays : model_at g h f.claim.snapshot.revision ≡ model_at g (entry who (call.Commit base edits) told ∷ h) f.claim.snapshot.revision =
    sym (earlier_models_stay g (entry who (call.Commit base edits) told ∷ []) h f.claim.snapshot.revision early) in
    (record { is_out = k.0.is_out; snapshot_is = record { model = k.0.snapshot_is.model ∙ stays; revision = refl; index = k.0.snapshot_is.index } }, k.1)

pub committed : {old new : CoreView} {who : ℕ} (e : Editor) (draft : DraftView) (told : Reply) → WorksIn old who e → e.draft ≡ Some draft → is_full old.ground old.history 1 ≡ false → Adds old new (entry who (call.Commit draft.base.revision draft.edits) told) →
    IsDone (commit_done old.ground who (draft_of e.draft) (place_of e) old.history) old new who (record { draft = None; held = e.held })
committed {old = old} {new = new} {who = who} e draft told w is room a =
    let d : Done = commit_done old.ground who (Some (draft.base.revision, draft.edits)) (place_of e) old.history in
    let all : commit_done old.ground who (draft_of e.draft) (place_of e) old.history ≡ done (entry who (call.Commit draft.base.revision draft.edits) told ∷ old.history) (place None (held_of e.held)) =
    ap (λ (o : Option DraftView). commit_done old.ground who (draft_of o) (place_of e) old.history) is
    ∙ (λ i. cond (room i) (ended old.history (place_of e)) (done (entry who (call.Commit draft.base.revision draft.edits) (sym a.lawful.1 i) ∷ old.history) (place None (held_of e.held)))) in
    record {
      ground = a.ground;
      history = ap (λ (x : Done). x.history) all ∙ sym a.history;
      not_full = ap (λ (x : Done). x.full) all;
      place_is = ap (λ (x : Done). x.place) all;
      works = record {
        draft = tt;
        holds = record {
          legal = legal_next a w.holds.legal;
          ready = rw (a.ground, a.history) (ready_on old.ground old.history who draft.base.revision draft.edits told e.held w.holds.legal w.holds.ready);
          out_is = rw a.history w.holds.out_is;
        };
      };
    }

-- Takes.

pub take_stopped : {old : CoreView} (new : CoreView) (who : ℕ) (why : Halt) (p q : Place) → IsFree old → StopsTurn old new who why → IsStopped why (with_room old.ground 2 old.history p (done (claim_entry old who ∷ old.history) q)) old new
take_stopped {old = old} new who halt.Full p q f k =
    let d : Done = with_room old.ground 2 old.history p (done (claim_entry old who ∷ old.history) q) in
    let e : d ≡ ended old.history p = no_room old.ground 2 old.history p (done (claim_entry old who ∷ old.history) q) k.1 in
    record {
      ground = k.0.ground;
      legal = rw (k.0.ground, k.0.history) f.legal;
      front = old.history;
      since = same old.history;
      within = rw (ap (λ (x : Done). x.history) e) (same old.history);
      at_full = (ap (λ (x : Done). x.full) e, sym (ap (λ (x : Done). x.history) e));
      back = k.0.history ∙ sym (ap (λ (cs : List Given). returns cs ++ old.history) f.none_out);
    }
take_stopped {old = old} new who halt.Memory p q f k =
    let w : IsLater old.history k.front × IsLater k.front (with_room old.ground 2 old.history p (done (claim_entry old who ∷ old.history) q)).history = within_take old who p q k.front k.begins in
    record { ground = k.ground; legal = k.legal; front = k.front; since = w.0; within = w.1; at_full = tt; back = k.back } where
      within_take : (core : CoreView) (who : ℕ) (p q : Place) (front : List StepRec) → (front ≡ core.history) ⊎ (has_room core × (front ≡ claim_entry core who ∷ core.history)) → IsLater core.history front × IsLater front (with_room core.ground 2 core.history p (done (claim_entry core who ∷ core.history) q)).history
      within_take core who p q front (inl is) = (rw is (same core.history), rw is (roomy core.ground 2 core.history p (done (claim_entry core who ∷ core.history) q) (one_more (claim_entry core who) core.history)))
      within_take core who p q front (inr at) =
          let d : with_room core.ground 2 core.history p (done (claim_entry core who ∷ core.history) q) ≡ done (claim_entry core who ∷ core.history) q = ap (λ (b : Bool). cond b (ended core.history p) (done (claim_entry core who ∷ core.history) q)) at.0 in
          (rw at.1 (one_more (claim_entry core who) core.history), rw (at.1, d) (same (claim_entry core who ∷ core.history)))

-- nothing is held
pub nothing : (x : Held) → is_holding x ≡ false → x ≡ held.Nothing
nothing held.Nothing e = refl
nothing held.Idle e = absurd (cc)
nothing (held.Found f) e = absurd (cc)

pub holds_nothing : {core : CoreView} {who : ℕ} (x : Held) → x ≡ held.Nothing → HoldsIn core who x → IsFree core
holds_nothing held.Nothing e k = record { legal = k.legal; none_out = k.out_is }
holds_nothing held.Idle e k = absurd (cc)
holds_nothing (held.Found f) e k = absurd (cc)

-- Gives.

pub give_stopped : {old new : CoreView} (who : ℕ) (f : FindingView) (why : Halt) (d : Done) → IsLater old.history d.history → HandsIn {A = Unit {0}} old new who f (Err why) → IsStopped why d old new
give_stopped who f halt.Full d later k = absurd k
give_stopped {old = old} who f halt.Memory d later k = stopped_before d later (record { history = refl; ground = refl; spare = omega arith }) k

-- Work.

after_place : (g : Ground) (who : ℕ) (r : Reply) (h : List StepRec) (p : Place) (more : List StepRec → Done) → ((k : List StepRec) → (more k).place ≡ p) → (after_claim g who r h p more).place ≡ p
after_place g who (reply.Claimed m pair at) h p more e = e _
after_place g who (reply.Began r) h p more e = refl
after_place g who (reply.Accepted r) h p more e = refl
after_place g who (reply.Refused why) h p more e = refl
after_place g who reply.Idle h p more e = refl
after_place g who reply.Used h p more e = refl
after_place g who (reply.Stale k r) h p more e = refl
after_place g who reply.Back h p more e = refl
after_place g who (reply.Pending pair) h p more e = refl
after_place g who (reply.Report r) h p more e = refl

pub rounds_place : (g : Ground) (who n : ℕ) (p : Place) (h : List StepRec) → (rounds g who n p h).place ≡ p
rounds_place g who zero p h = refl
rounds_place g who (suc n) p h =
    let d : Done = after_claim g who (claim_reply g h) h p (rounds g who n p) in
    let e : d.place ≡ p = after_place g who (claim_reply g h) h p (rounds g who n p) (λ k. rounds_place g who n p k) in
    elim (is_full g h 2) as (λ b. (cond b (ended h p) d).place ≡ p) [ true ↦ refl | false ↦ e ]

revision_later : (es h : List StepRec) → revision h ≤ revision (es ++ h)
revision_later [] h = omega arith
revision_later (e ∷ es) h =
    let rest : revision h ≤ revision (es ++ h) = revision_later es h in
    let one : revision (es ++ h) ≤ revision (e ∷ (es ++ h)) = revision_grows e (es ++ h) in
    omega (arith, rest, one)

pub later_revision : (h k : List StepRec) → IsLater h k → revision h ≤ revision k
later_revision h k a = rw a.1 (revision_later a.0 h)

so_far_later : (r s : ℕ) (d : Option DraftView) → r ≤ s → IsSoFar r d → IsSoFar s d
so_far_later r s None le k = tt
so_far_later r s (Some d) le k = omega (arith, le, k)

pub worked : {old new : CoreView} {who : ℕ} (n : ℕ) (e : Editor) → WorksIn old who e → e.held ≡ held.Nothing → AreRounds (rounds old.ground who n (place_of e) old.history) old new → IsDone (rounds old.ground who n (place_of e) old.history) old new who (record { draft = e.draft; held = held.Nothing })
worked {old = old} {new = new} {who = who} n e w is r =
    let grown : IsLater old.history new.history = subst (λ (h : List StepRec). IsLater old.history h) r.history (rounds_grow old.ground who n (place_of e) old.history) in
    record {
      ground = r.ground;
      history = r.history;
      not_full = r.not_full;
      place_is = rounds_place old.ground who n (place_of e) old.history ∙ ap (λ (x : Held). place (draft_of e.draft) (held_of x)) is;
      works = record {
        draft = so_far_later (revision old.history) (revision new.history) e.draft (later_revision old.history new.history grown) w.draft;
        holds = record { legal = r.legal; ready = tt; out_is = r.none_out };
      };
    }
