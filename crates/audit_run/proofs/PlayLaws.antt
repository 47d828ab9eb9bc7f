-- Calls that are played, one at a time.
use Rattle.std.proofs.Common.{◌≡◌, ℕ, true, ◌==◌, List, [], ◌∷◌, ◌++◌, Some, refl, arith, sym, subst, ◌∙◌, inl, inr}
use Rattle.std.proofs.lemmas.Bool.{and_from, eq-eqb}
use Rattle.std.proofs.lemmas.List.{append-nil, append_assoc}
use Rattle.audit_model.specs.declared.commit.Edit.{Edit}
use Rattle.audit_model.specs.declared.step.StepRec.{StepRec}
use Rattle.audit_model.specs.declared.step.Call.TheVariants as call
use Rattle.audit_model.specs.declared.step.Reply.{Reply}
use Rattle.audit_model.specs.declared.step.Reply.TheVariants as reply
use Rattle.audit_model.specs.History.{Ground, revision, out, claim_numbered}
use Rattle.audit_model.specs.Machine.{Legal, MayFollow}
use Rattle.audit_model.proofs.Tests.{Each, Each-all, Each-weaker}
use Rattle.model_view.specs.Findings.{IsFindingOf}
use Rattle.model_view.specs.Answers.{given_of, delivery_told, IsGiven, IsTrue}
use Rattle.model_view.specs.Views.{ClaimView, DraftView, FindingView, SnapshotView}
use Rattle.model_view.specs.declared.answers.NotPrepared.{NotPrepared}
use Rattle.model_view.specs.declared.answers.NotPrepared.TheVariants as unprepared
use Rattle.model_view.specs.declared.answers.Delivered.{Delivered}
use Rattle.model_view.specs.declared.answers.Delivered.TheVariants as delivered
use Rattle.audit_core.specs.Cores.{CoreView}
use Rattle.audit_core.specs.Commits.{IsNotPrepared}
use Rattle.model_view.specs.declared.answers.Halt.{Halt}
use Rattle.model_view.specs.declared.answers.Halt.TheVariants as halt
use Rattle.audit_core.specs.Steps.{Adds, Unchanged, IsHalted}
use Rattle.audit_run.specs.declared.hands.Begun.{Begun}
use Rattle.audit_run.specs.declared.hands.Taken.{Taken}
use Rattle.audit_run.specs.declared.calls.Act.{Act}
use Rattle.audit_run.specs.declared.calls.Act.TheVariants as act
use Rattle.audit_run.specs.declared.calls.Asked.{Asked}
use Rattle.audit_run.specs.Holding.{HandsView, IsTaken, AreTaken, AreBegun, begins, has_begun, taken_as, claim_of, other_claims}
use Rattle.audit_run.specs.Runs.{IsCallOf, IsEntryOf, IsStep, IsRun, reported, reports, IsHolding, IsPlayed, IsPlay}
use Rattle.audit_run.proofs.HoldLaws.{LeavesOut, Differs, AreParted, all_taken, taken_more, delivery_leaves, return_leaves, parted_first, begun_more, begun_push}

-- Playing.

pub played_none : {old new : CoreView} (hands : HandsView) (asked : Asked) → Unchanged old new → IsHolding new hands → IsPlayed old new hands asked []
played_none {old = old} hands asked u k = record {
  ground = u.ground;
  step = inl u.history;
  reports_are = rw (u.ground, u.history) (sym (append-nil (reports old.ground old.history)));
  holding = k;
}

pub played_by : {old new : CoreView} {e : StepRec} (hands : HandsView) (asked : Asked) (told : List (List ℕ)) → Adds old new e → IsEntryOf old.history asked e → reported old.ground old.history e.reply ≡ told → IsHolding new hands → IsPlayed old new hands asked told
played_by {e = e} hands asked told a of r k = record {
  ground = a.ground;
  step = inr (e, (a.history, of));
  reports_are = rw (a.ground, a.history, r) refl;
  holding = k;
}

-- Holding.

pub holding_on : {old new : CoreView} {hands : HandsView} → Unchanged old new → IsHolding old hands → IsHolding new hands
holding_on u k = record {
  legal = rw (u.ground, u.history) k.legal;
  claims = rw (u.ground, u.history) k.claims;
  drafts = rw u.history k.drafts;
}

-- after an entry that leaves these claims out, with these drafts
pub holding_after : {old new : CoreView} {e : StepRec} (drafts : List Begun) (claims : List Taken) → Adds old new e → Legal old.ground old.history → AreTaken old.ground old.history claims → Each (LeavesOut old.history e) claims → AreBegun old.history drafts → IsHolding new (record { drafts = drafts; claims = claims })
holding_after {old = old} {e = e} drafts claims a l k leaves p = record {
  legal = rw (a.ground, a.history) (a.lawful, l);
  claims = rw (a.ground, a.history) (all_taken old.ground old.history e claims l leaves k);
  drafts = rw a.history (begun_more e old.history drafts p);
}

-- Beginning.

pub began : {old new : CoreView} {hands : HandsView} (actor : ℕ) (drafts : List Begun) (base : SnapshotView) → IsHolding old hands → Adds old new (record { actor = actor; call = call.Begin; reply = reply.Began base.revision }) → AreBegun old.history drafts →
    IsPlayed old new (record { drafts = drafts ++ record { actor = actor; base = base } ∷ []; claims = hands.claims }) (record { actor = actor; act = act.Begin }) []
began {old = old} {new = new} {hands = hands} actor drafts base k a p =
    let e : StepRec = record { actor = actor; call = call.Begin; reply = reply.Began base.revision } in
    let begun : begins actor base.revision e ≡ true = and_from (actor == actor) (base.revision == base.revision) (eq-eqb actor actor refl) (eq-eqb base.revision base.revision refl) in
    let on : IsHolding new (record { drafts = drafts; claims = hands.claims }) = holding_after drafts hands.claims a k.legal k.claims (Each-all (LeavesOut old.history e) (λ t e'. e') hands.claims) p in
    played_by (record { drafts = drafts ++ record { actor = actor; base = base } ∷ []; claims = hands.claims }) (record { actor = actor; act = act.Begin }) [] a (record { by = refl; of = tt }) refl
    (record {
      legal = on.legal;
      claims = on.claims;
      drafts = rw a.history (begun_push (e ∷ old.history) drafts (record { actor = actor; base = base }) (begun_more e old.history drafts p) (rw begun refl));
    })

-- Committing.

pub committed : {old new : CoreView} {hands : HandsView} (actor base : ℕ) (edits : List Edit) (told : Reply) (drafts : List Begun) → IsHolding old hands → Adds old new (record { actor = actor; call = call.Commit base edits; reply = told }) → reported old.ground old.history told ≡ [] → has_begun old.history actor base ≡ true → AreBegun old.history drafts →
    IsPlayed old new (record { drafts = drafts; claims = hands.claims }) (record { actor = actor; act = act.Commit edits }) []
committed {old = old} {hands = hands} actor base edits told drafts k a r b p =
    played_by (record { drafts = drafts; claims = hands.claims }) (record { actor = actor; act = act.Commit edits }) [] a (record { by = refl; of = (refl, b) }) r
    (holding_after drafts hands.claims a k.legal k.claims (Each-all (LeavesOut old.history (record { actor = actor; call = call.Commit base edits; reply = told })) (λ t e. e) hands.claims) p)

pub not_committed : {old new : CoreView} {hands : HandsView} (actor : ℕ) (draft : DraftView) (drafts : List Begun) (r : NotPrepared) → IsHolding old hands → IsNotPrepared old new actor draft r → has_begun old.history actor draft.base.revision ≡ true → AreBegun old.history drafts →
    IsPlayed old new (record { drafts = drafts; claims = hands.claims }) (record { actor = actor; act = act.Commit draft.edits }) []
not_committed actor draft drafts (unprepared.Refused why back) k n b p = committed actor draft.base.revision draft.edits (reply.Refused why) drafts k n.0 refl b p
not_committed {hands = hands} actor draft drafts (unprepared.Full back) k n b p = played_none (record { drafts = drafts; claims = hands.claims }) (record { actor = actor; act = act.Commit draft.edits }) n.0 (holding_on n.0 (record { legal = k.legal; claims = k.claims; drafts = p }))
not_committed {hands = hands} actor draft drafts (unprepared.Memory back) k n b p = played_none (record { drafts = drafts; claims = hands.claims }) (record { actor = actor; act = act.Commit draft.edits }) n.0 (holding_on n.0 (record { legal = k.legal; claims = k.claims; drafts = p }))

-- Taking.

pub took : {old new : CoreView} {hands : HandsView} (actor : ℕ) (claim : ClaimView) → IsHolding old hands → Adds old new (record { actor = actor; call = call.Claim; reply = reply.Claimed claim.number claim.pair claim.snapshot.revision }) → IsGiven old.ground old.history new.history actor claim →
    IsPlayed old new (record { drafts = hands.drafts; claims = hands.claims ++ record { actor = actor; claim = claim } ∷ [] }) (record { actor = actor; act = act.Take }) []
took {old = old} {hands = hands} actor claim k a given =
    let e : StepRec = record { actor = actor; call = call.Claim; reply = reply.Claimed claim.number claim.pair claim.snapshot.revision } in
    played_by (record { drafts = hands.drafts; claims = hands.claims ++ record { actor = actor; claim = claim } ∷ [] }) (record { actor = actor; act = act.Take }) [] a (record { by = refl; of = tt }) refl
    (record {
      legal = rw (a.ground, a.history) (a.lawful, k.legal);
      claims = rw (a.ground, a.history) (taken_more old.ground old.history hands.claims actor claim k.legal a.lawful given.snapshot (subst (λ (hs : List StepRec). claim_numbered claim.number (out hs) ≡ Some (given_of actor claim)) a.history given.is_out) k.claims);
      drafts = rw a.history (begun_more e old.history hands.drafts k.drafts);
    })

pub idle : {old new : CoreView} {hands : HandsView} (actor : ℕ) → IsHolding old hands → Adds old new (record { actor = actor; call = call.Claim; reply = reply.Idle }) → IsPlayed old new hands (record { actor = actor; act = act.Take }) []
idle {old = old} {hands = hands} actor k a =
    played_by hands (record { actor = actor; act = act.Take }) [] a (record { by = refl; of = tt }) refl
    (holding_after hands.drafts hands.claims a k.legal k.claims (Each-all (LeavesOut old.history (record { actor = actor; call = call.Claim; reply = reply.Idle })) (λ t e. e) hands.claims) k.drafts)

-- Ending claims.

-- the first claim of the actor's in the hands, and what they hold beside it
pub out_of : {core : CoreView} {hands : HandsView} {actor : ℕ} {claim : ClaimView} {rest : List Taken} → IsHolding core hands → Some (taken_as actor claim) ≡ claim_of actor hands.claims → rest ≡ other_claims actor hands.claims → AreParted core.ground core.history (taken_as actor claim) rest
out_of {core = core} {hands = hands} {actor = actor} {claim = claim} k e r = rw r (parted_first core.ground core.history actor hands.claims (taken_as actor claim) (sym e) k.claims)

pub true_finding : {g : Ground} {h : List StepRec} {actor : ℕ} {claim : ClaimView} {finding : FindingView} → IsTaken g h (record { actor = actor; claim = claim }) → IsFindingOf g.schema g.specs claim finding → IsTrue g h actor finding
true_finding k f = record {
  is_out = rw f.claim_is k.is_out;
  snapshot_is = rw f.claim_is k.snapshot_is.model;
  finds = record { claim_is = refl; verdict_is = rw f.claim_is f.verdict_is; needs_are = rw f.claim_is f.needs_are };
}

pub gave : {old new : CoreView} {hands : HandsView} (actor number : ℕ) (claim : ClaimView) (told : Delivered) (rest : List Taken) → IsHolding old hands → AreParted old.ground old.history (record { actor = actor; claim = claim }) rest → number ≡ claim.number →
    Adds old new (record { actor = actor; call = call.Deliver number; reply = delivery_told told }) → IsPlayed old new (record { drafts = hands.drafts; claims = rest }) (record { actor = actor; act = act.Give }) []
gave {old = old} {hands = hands} actor number claim told rest k p n a =
    played_by (record { drafts = hands.drafts; claims = rest }) (record { actor = actor; act = act.Give }) [] a (record { by = refl; of = tt }) (quiet told)
    (holding_after hands.drafts rest a k.legal p.rest (Each-weaker (Differs claim.number) (LeavesOut old.history (record { actor = actor; call = call.Deliver number; reply = delivery_told told })) (λ t d. delivery_leaves old.history actor number (delivery_told told) t (rw n d)) rest p.differ) k.drafts) where
      quiet : (told : Delivered) → reported old.ground old.history (delivery_told told) ≡ []
      quiet delivered.Used = refl
      quiet (delivered.Stale key revision) = refl

-- the act lets a claim be given back
pub gave_back : {old new : CoreView} {hands : HandsView} (act' : Act) (actor number : ℕ) (claim : ClaimView) (rest : List Taken) → IsCallOf old.history actor act' (call.GiveBack number) → IsHolding old hands → AreParted old.ground old.history (record { actor = actor; claim = claim }) rest → number ≡ claim.number →
    Adds old new (record { actor = actor; call = call.GiveBack number; reply = reply.Back }) → IsPlayed old new (record { drafts = hands.drafts; claims = rest }) (record { actor = actor; act = act' }) []
gave_back {old = old} {hands = hands} act' actor number claim rest of k p n a =
    played_by (record { drafts = hands.drafts; claims = rest }) (record { actor = actor; act = act' }) [] a (record { by = refl; of = of }) refl
    (holding_after hands.drafts rest a k.legal p.rest (Each-weaker (Differs claim.number) (LeavesOut old.history (record { actor = actor; call = call.GiveBack number; reply = reply.Back })) (λ t d. return_leaves old.history actor number t (rw n d)) rest p.differ) k.drafts)

-- the same after a call that added no entry
pub gave_back_after : {old mid new : CoreView} {hands : HandsView} (act' : Act) (actor number : ℕ) (claim : ClaimView) (rest : List Taken) → IsCallOf old.history actor act' (call.GiveBack number) → IsHolding old hands → AreParted old.ground old.history (record { actor = actor; claim = claim }) rest → number ≡ claim.number → Unchanged old mid →
    Adds mid new (record { actor = actor; call = call.GiveBack number; reply = reply.Back }) → IsPlayed old new (record { drafts = hands.drafts; claims = rest }) (record { actor = actor; act = act' }) []
gave_back_after {old = old} act' actor number claim rest of k p n u a = gave_back act' actor number claim rest of k p n (record {
  lawful = subst (λ (hs : List StepRec). MayFollow old.ground hs (record { actor = actor; call = call.GiveBack number; reply = reply.Back })) u.history a.lawful;
  history = rw (← u.history) a.history;
  ground = a.ground ∙ u.ground;
})

-- Publishing.

pub published : {old new : CoreView} {hands : HandsView} (actor : ℕ) (told : Reply) (texts : List (List ℕ)) → IsHolding old hands → Adds old new (record { actor = actor; call = call.Publish; reply = told }) → reported old.ground old.history told ≡ texts →
    IsPlayed old new hands (record { actor = actor; act = act.Publish }) texts
published {old = old} {hands = hands} actor told texts k a r =
    played_by hands (record { actor = actor; act = act.Publish }) texts a (record { by = refl; of = tt }) r
    (holding_after hands.drafts hands.claims a k.legal k.claims (Each-all (LeavesOut old.history (record { actor = actor; call = call.Publish; reply = told })) (λ t e. e) hands.claims) k.drafts)

-- Runs.

run_more : (h : List StepRec) (calls : List Asked) (k : List StepRec) (asked : Asked) (l : List StepRec) → IsRun h calls k → IsStep k asked l → IsRun h (calls ++ asked ∷ []) l
run_more h [] k asked l r s = (l, (rw (← r) s, refl))
run_more h (x ∷ xs) k asked l r s = (r.0, (r.1.0, run_more r.0 xs k asked l r.1.1 s))

pub play_none : {core : CoreView} {hands : HandsView} → IsHolding core hands → IsPlay core core hands [] []
play_none {core = core} k = record { ground = refl; run = refl; reports_are = sym (append-nil (reports core.ground core.history)); holding = k }

pub play_more : {old mid new : CoreView} {hands hands' : HandsView} {calls : List Asked} {asked : Asked} {told more : List (List ℕ)} → IsPlay old mid hands calls told → IsPlayed mid new hands' asked more → IsPlay old new hands' (calls ++ asked ∷ []) (told ++ more)
play_more {old = old} {mid = mid} {new = new} {calls = calls} {asked = asked} {told = told} {more = more} p s = record {
  ground = s.ground ∙ p.ground;
  run = run_more old.history calls mid.history asked new.history p.run s.step;
  reports_are = s.reports_are ∙ rw p.reports_are (append_assoc (reports old.ground old.history) told more);
  holding = s.holding;
}

-- Small steps.

pub unchanged_self : (core : CoreView) → Unchanged core core
unchanged_self core = record { history = refl; ground = refl; spare = omega arith }

pub adds_on : {a b c : CoreView} {e : StepRec} → Unchanged a b → Adds b c e → Adds a c e
adds_on u s = record {
  lawful = rw (← u.ground, ← u.history) s.lawful;
  history = rw (← u.history) s.history;
  ground = s.ground ∙ u.ground;
}

pub halted_same : {a b : CoreView} (n : ℕ) (why : Halt) → IsHalted a b n why → Unchanged a b
halted_same n halt.Full h = h.0
halted_same n halt.Memory h = h
