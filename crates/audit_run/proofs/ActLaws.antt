-- What each act does, case by case.
use Rattle.std.proofs.Common.{◌≡◌, ℕ, false, List, [], ◌∷◌, ◌++◌, Option, option_map, Some, None, refl, sym, ap, subst, ◌∙◌, inl, inr}
use Rattle.audit_model.specs.declared.commit.Edit.{Edit}
use Rattle.audit_model.specs.declared.step.Given.{Given}
use Rattle.audit_model.specs.declared.step.StepRec.{StepRec}
use Rattle.audit_model.specs.declared.step.Call.TheVariants as call
use Rattle.audit_model.specs.declared.step.Reply.{Reply}
use Rattle.audit_model.specs.declared.step.Reply.TheVariants as reply
use Rattle.audit_model.specs.History.{Ground, out, claim_numbered}
use Rattle.audit_model.specs.Machine.{deliver_reply, is_full}
use Rattle.script_rules.specs.ScriptLines.{entry}
use Rattle.model_view.specs.Views.{ClaimView, DraftView, SnapshotView}
use Rattle.model_view.specs.declared.answers.NotPrepared.{NotPrepared}
use Rattle.model_view.specs.declared.answers.NotPrepared.TheVariants as unprepared
use Rattle.model_view.specs.Answers.{IsNow, IsOut, IsGiven, given_of}
use Rattle.audit_core.specs.Cores.{CoreView}
use Rattle.audit_core.specs.Commits.{IsNotPrepared}
use Rattle.audit_core.specs.Steps.{Adds, Unchanged}
use Rattle.audit_run.specs.declared.calls.Act.TheVariants as act
use Rattle.audit_run.specs.declared.calls.Asked.{Asked}
use Rattle.audit_run.specs.declared.hands.Begun.{Begun}
use Rattle.audit_run.specs.declared.hands.Taken.{Taken}
use Rattle.audit_run.specs.Holding.{HandsView, begun_on, taken_as, drafted_by, taken_by, draft_of, claim_of}
use Rattle.audit_run.specs.Acts.{IsHeldAfter, AddsNone, Commits, Gives, Returns, Does, DoAll, begun, ended, spent, taken}
use Rattle.audit_run.specs.Runs.{IsPlay, IsPlayed}
use Rattle.audit_run.proofs.Firsts.{none_removed}

pub adds_none : {old new : CoreView} (hands : HandsView) → Unchanged old new → AddsNone hands old.history new.history hands
adds_none hands u = (u.history, refl)

abbrev with_drafts : HandsView → List Begun → HandsView
with_drafts hands bs = record { drafts = bs; claims = hands.claims }

abbrev with_claims : HandsView → List Taken → HandsView
with_claims hands ts = record { drafts = hands.drafts; claims = ts }

-- nothing was taken out, so nothing was there
pub none_held : {X Y : Type 0} (f : X → Y) (o : Option X) (r : Option Y) → ((x : X) → o ≡ Some x → ⊥) → option_map f o ≡ r → None ≡ r
none_held f None r never e = e
none_held f (Some x) r never e = absurd (never x refl)

-- Drafts.

pub begin_done : {old new : CoreView} (hands : HandsView) (actor : ℕ) (base : SnapshotView) → IsNow old.ground old.history base → is_full old.ground old.history 1 ≡ false → Adds old new (entry actor call.Begin (reply.Began base.revision)) →
    Does old.ground actor act.Begin old.history hands new.history (begun actor base hands)
begin_done {old = old} hands actor base now f a =
    inr (f, (base, now, (a.history ∙ ap (λ (r : ℕ). entry actor call.Begin (reply.Began r) ∷ old.history) now.revision, refl)))

pub commit_none : (core : CoreView) (hands : HandsView) (actor : ℕ) (edits : List Edit) → None ≡ draft_of actor hands.drafts → Does core.ground actor (act.Commit edits) core.history hands core.history (ended actor hands)
commit_none core hands actor edits e =
    subst (λ (o : Option Begun). Commits core.ground actor edits o core.history hands core.history (ended actor hands)) e
    (refl, ap (with_drafts hands) (none_removed (drafted_by actor) hands.drafts (sym e)))

commit_left : {old new : CoreView} (hands : HandsView) (actor : ℕ) (base : SnapshotView) (edits : List Edit) → Some (begun_on actor base) ≡ draft_of actor hands.drafts → Unchanged old new → Does old.ground actor (act.Commit edits) old.history hands new.history (ended actor hands)
commit_left {old = old} {new = new} hands actor base edits e u =
    subst (λ (o : Option Begun). Commits old.ground actor edits o old.history hands new.history (ended actor hands)) e (inl (u.history, refl))

pub commit_done : {old new : CoreView} (hands : HandsView) (actor : ℕ) (base : SnapshotView) (edits : List Edit) (told : Reply) → Some (begun_on actor base) ≡ draft_of actor hands.drafts → is_full old.ground old.history 1 ≡ false → Adds old new (entry actor (call.Commit base.revision edits) told) →
    Does old.ground actor (act.Commit edits) old.history hands new.history (ended actor hands)
commit_done {old = old} {new = new} hands actor base edits told e f a =
    subst (λ (o : Option Begun). Commits old.ground actor edits o old.history hands new.history (ended actor hands)) e
    (inr (f, (a.history ∙ ap (λ (r : Reply). entry actor (call.Commit base.revision edits) r ∷ old.history) a.lawful.1, refl)))

pub commit_not_done : (old new : CoreView) (hands : HandsView) (actor : ℕ) (draft : DraftView) (r : NotPrepared) → Some (begun_on actor draft.base) ≡ draft_of actor hands.drafts → IsNotPrepared old new actor draft r →
    Does old.ground actor (act.Commit draft.edits) old.history hands new.history (ended actor hands)
commit_not_done old new hands actor draft (unprepared.Refused why back) e n = commit_done hands actor draft.base draft.edits (reply.Refused why) e n.1 n.0
commit_not_done old new hands actor draft (unprepared.Full back) e n = commit_left hands actor draft.base draft.edits e n.0
commit_not_done old new hands actor draft (unprepared.Memory back) e n = commit_left hands actor draft.base draft.edits e n.0

-- Claims.

pub take_done : {old new : CoreView} (hands : HandsView) (actor : ℕ) (claim : ClaimView) → is_full old.ground old.history 2 ≡ false → Adds old new (entry actor call.Claim (reply.Claimed claim.number claim.pair claim.snapshot.revision)) → IsGiven old.ground old.history new.history actor claim →
    Does old.ground actor act.Take old.history hands new.history (record { drafts = hands.drafts; claims = hands.claims ++ taken_as actor claim ∷ [] })
take_done {old = old} hands actor claim f a given =
    inr (
      f,
      (
        a.history ∙ ap (λ (r : Reply). entry actor call.Claim r ∷ old.history) a.lawful,
        subst (λ (r : Reply). IsHeldAfter old.ground actor old.history hands (taken actor claim hands) r) a.lawful (claim.snapshot, given.snapshot, refl),
      ),
    )

pub idle_done : {old new : CoreView} (hands : HandsView) (actor : ℕ) → is_full old.ground old.history 2 ≡ false → Adds old new (entry actor call.Claim reply.Idle) → Does old.ground actor act.Take old.history hands new.history hands
idle_done {old = old} hands actor f a =
    inr (f, (a.history ∙ ap (λ (r : Reply). entry actor call.Claim r ∷ old.history) a.lawful, subst (λ (r : Reply). IsHeldAfter old.ground actor old.history hands hands r) a.lawful refl))

without_none : (hands : HandsView) (actor : ℕ) → None ≡ claim_of actor hands.claims → spent actor hands ≡ hands
without_none hands actor e = ap (with_claims hands) (none_removed (taken_by actor) hands.claims (sym e))

pub give_none : (core : CoreView) (hands : HandsView) (actor : ℕ) → None ≡ claim_of actor hands.claims → Does core.ground actor act.Give core.history hands core.history (spent actor hands)
give_none core hands actor e =
    subst (λ (o : Option Taken). Gives core.ground actor o core.history hands core.history (spent actor hands)) e (refl, without_none hands actor e)

pub return_none : (core : CoreView) (hands : HandsView) (actor : ℕ) → None ≡ claim_of actor hands.claims → Does core.ground actor act.Return core.history hands core.history (spent actor hands)
return_none core hands actor e =
    subst (λ (o : Option Taken). Returns actor o core.history hands core.history (spent actor hands)) e (refl, without_none hands actor e)

pub return_done : {old new : CoreView} (hands : HandsView) (actor : ℕ) (claim : ClaimView) → Some (taken_as actor claim) ≡ claim_of actor hands.claims → Adds old new (entry actor (call.GiveBack claim.number) reply.Back) →
    Does old.ground actor act.Return old.history hands new.history (spent actor hands)
return_done {old = old} {new = new} hands actor claim e a =
    subst (λ (o : Option Taken). Returns actor o old.history hands new.history (spent actor hands)) e (a.history, refl)

pub give_back_done : {old new : CoreView} (hands : HandsView) (actor number : ℕ) (claim : ClaimView) → Some (taken_as actor claim) ≡ claim_of actor hands.claims → number ≡ claim.number → Adds old new (entry actor (call.GiveBack number) reply.Back) →
    Does old.ground actor act.Give old.history hands new.history (spent actor hands)
give_back_done {old = old} {new = new} hands actor number claim e n a =
    subst (λ (o : Option Taken). Gives old.ground actor o old.history hands new.history (spent actor hands)) e
    (inr (a.history ∙ ap (λ m. entry actor (call.GiveBack m) reply.Back ∷ old.history) n, refl))

-- the delivery's claim is the one that was given
its_claim : (h : List StepRec) (n m : ℕ) (c d : Given) → n ≡ m → claim_numbered n (out h) ≡ Some c → claim_numbered m (out h) ≡ Some d → c ≡ d
its_claim h n m c d e p q = let same : claim_numbered n (out h) ≡ claim_numbered m (out h) = ap (λ k. claim_numbered k (out h)) e in cc

pub give_done : {old new : CoreView} (hands : HandsView) (actor number : ℕ) (claim : ClaimView) (told : Reply) → Some (taken_as actor claim) ≡ claim_of actor hands.claims → number ≡ claim.number → IsOut old.history actor claim → Adds old new (entry actor (call.Deliver number) told) →
    Does old.ground actor act.Give old.history hands new.history (spent actor hands)
give_done {old = old} {new = new} hands actor number claim told e n o a =
    let same : a.lawful.0 ≡ given_of actor claim = its_claim old.history number claim.number a.lawful.0 (given_of actor claim) n a.lawful.1.is_held o in
    subst (λ (t : Option Taken). Gives old.ground actor t old.history hands new.history (spent actor hands)) e
    (inl (
      a.history ∙ ap (λ m. entry actor (call.Deliver m) told ∷ old.history) n
          ∙ ap (λ (r : Reply). entry actor (call.Deliver claim.number) r ∷ old.history) (a.lawful.2 ∙ ap (deliver_reply old.ground old.history) same),
      refl,
    ))

-- Publishing.

pub publish_done : {old new : CoreView} (hands : HandsView) (actor : ℕ) (told : Reply) → is_full old.ground old.history 1 ≡ false → Adds old new (entry actor call.Publish told) → Does old.ground actor act.Publish old.history hands new.history hands
publish_done {old = old} hands actor told f a = inr (f, (a.history ∙ ap (λ (r : Reply). entry actor call.Publish r ∷ old.history) a.lawful, refl))

-- All acts.

do_more : (g : Ground) (calls : List Asked) (asked : Asked) (h k l : List StepRec) (hands held after : HandsView) → DoAll g calls h hands k held → Does g asked.actor asked.act k held l after → DoAll g (calls ++ asked ∷ []) h hands l after
do_more g [] asked h k l hands held after d s =
    (l, after, subst (λ (x : HandsView). Does g asked.actor asked.act h x l after) d.1 (subst (λ (i : List StepRec). Does g asked.actor asked.act i held l after) d.0 s), (refl, refl))
do_more g (x ∷ xs) asked h k l hands held after d s = (d.0, d.1, d.2, do_more g xs asked d.0 k l d.1 held after d.3 s)

-- one act more, after those that were done from these hands on
pub acts_more : {old mid new : CoreView} {hands hands' : HandsView} {calls : List Asked} {asked : Asked} {told more : List (List ℕ)} (start : HandsView) → IsPlay old mid hands calls told → IsPlayed mid new hands' asked more →
    DoAll old.ground calls old.history start mid.history hands → Does mid.ground asked.actor asked.act mid.history hands new.history hands' → DoAll old.ground (calls ++ asked ∷ []) old.history start new.history hands'
acts_more {old = old} {mid = mid} {new = new} {hands = hands} {hands' = hands'} {calls = calls} {asked = asked} start p s d t =
    do_more old.ground calls asked old.history mid.history new.history start hands hands' d (subst (λ (g : Ground). Does g asked.actor asked.act mid.history hands new.history hands') p.ground t)
