-- Claims, deliveries and rounds.
use Rattle.std.proofs.Common.{◌≡◌, ℕ, suc, ◌+◌, ◌-◌, ◌<◌, arith, Ok, Bool, true, false, not, cond, List, [], ◌∷◌, ◌++◌, Option, Some, None, ◌⊎◌, inl, inr, refl, ap, sym, subst, ◌∙◌}
use Rattle.std.proofs.lemmas.Bool.{eq-eqb}
use Rattle.schema_table.specs.Schema.{Schema}
use Rattle.audit_model.specs.declared.step.StepRec.{StepRec}
use Rattle.audit_model.specs.declared.step.Given.{Given}
use Rattle.audit_model.specs.declared.step.Call.TheVariants as call
use Rattle.audit_model.specs.declared.step.Reply.{Reply}
use Rattle.audit_model.specs.declared.step.Reply.TheVariants as reply
use Rattle.audit_model.specs.declared.specification.Specification.{Specification}
use Rattle.audit_model.specs.History.{Ground, commits, out, claim_numbered, without_claim}
use Rattle.audit_model.specs.Machine.{Legal, claim_reply, is_full}
use Rattle.script_rules.specs.ScriptLines.{Place, entry}
use Rattle.script_rules.specs.Serial.{Done, done, ended, given_to, with_delivery, after_delivery, after_claim, rounds}
use Rattle.audit_model.proofs.Commits.{model_of-last}
use Rattle.audit_model.proofs.HistoryLaws.{same_some}
use Rattle.model_view.specs.Answers.{IsGiven, IsTrue, given_of, delivery_told}
use Rattle.model_view.specs.Findings.{IsFindingOf}
use Rattle.model_view.specs.Views.{ClaimView, FindingView}
use Rattle.model_view.specs.declared.answers.Delivered.{Delivered}
use Rattle.audit_core.specs.Cores.{CoreView}
use Rattle.model_view.specs.declared.answers.Halt.{Halt}
use Rattle.model_view.specs.declared.answers.Halt.TheVariants as halt
use Rattle.audit_core.specs.Steps.{Adds, Unchanged, IsHalted}
use Rattle.audit_run.specs.Holding.{IsTaken}
use Rattle.serial_run.specs.declared.editor.Held.TheVariants as held
use Rattle.serial_run.specs.Growth.{IsLater, returns, returned}
use Rattle.serial_run.specs.Editing.{HoldsIn}
use Rattle.serial_run.specs.Course.{IsReturned, IsStopped, AreRounds}
use Rattle.serial_run.specs.Turns.{IsFree, IsCutTurn, IsHandedIn, IsRound, IsLastRound, LeavesRound, StopsTurn, has_room, claim_entry}
use Rattle.serial_run.proofs.Growing.{same, joined, one_more, delivered, behind_claim, rounds_grow}

pub legal_next : {old new : CoreView} {e : StepRec} → Adds old new e → Legal old.ground old.history → Legal new.ground new.history
legal_next a l = rw (a.ground, a.history) (a.lawful, l)

-- after a call that changed nothing
pub adds_on : {old mid new : CoreView} {e : StepRec} → Unchanged old mid → Adds mid new e → Adds old new e
adds_on u a = record {
  lawful = rw (← u.ground, ← u.history) a.lawful;
  history = rw (← u.history) a.history;
  ground = a.ground ∙ u.ground;
}

abbrev claimed_entry : ℕ → ClaimView → StepRec
claimed_entry who c = entry who call.Claim (reply.Claimed c.number c.pair c.snapshot.revision)

-- Claims.

pub idle : {old new : CoreView} {who : ℕ} → IsFree old → Adds old new (entry who call.Claim reply.Idle) → HoldsIn new who held.Idle
idle f a = record { legal = legal_next a f.legal; ready = tt; out_is = rw a.history f.none_out }

-- the claim that was just given is taken, and no other is out
pub record IsTakenAlone (core : CoreView) (who : ℕ) (c : ClaimView) : Type 0 where
  pub taken : IsTaken core.ground core.history (record { actor = who; claim = c })
  pub alone : out core.history ≡ given_of who c ∷ []

pub took : {old new : CoreView} {who : ℕ} (c : ClaimView) → IsFree old → Adds old new (claimed_entry who c) → IsGiven old.ground old.history new.history who c → IsTakenAlone new who c
took {old = old} {who = who} c f a given = record {
  taken = record {
    is_out = given.is_out;
    snapshot_is = record {
      model = rw (a.ground, a.history, given.snapshot.model, given.snapshot.revision) (sym (model_of-last old.ground (commits old.history)));
      revision = refl;
      index = rw a.ground given.snapshot.index;
    };
  };
  alone = rw a.history (ap (λ (cs : List Given). cs ++ given_of who c ∷ []) f.none_out);
}

pub found : {old new : CoreView} {who : ℕ} {c : ClaimView} {f : FindingView} (s : Schema) (specs : List Specification) → s ≡ old.ground.schema → specs ≡ old.ground.specs → IsFree old → Adds old new (claimed_entry who c) → IsGiven old.ground old.history new.history who c → IsFindingOf s specs c f → HoldsIn new who (held.Found f)
found {old = old} {new = new} {who = who} {c = c} {f = f} s specs kept same free a given k =
    let t : IsTakenAlone new who c = took c free a given in
    let of : IsFindingOf new.ground.schema new.ground.specs c f = rw (a.ground, ← kept, ← same) k in
    record {
      legal = legal_next a free.legal;
      ready = (rw k.claim_is t.taken, record { claim_is = refl; verdict_is = rw k.claim_is of.verdict_is; needs_are = rw k.claim_is of.needs_are });
      out_is = rw k.claim_is t.alone;
    }

-- Stops.

pub cut_before : {old new : CoreView} (who : ℕ) → IsFree old → Unchanged old new → IsCutTurn old new who
cut_before {old = old} who f u = record {
  ground = u.ground;
  legal = rw (u.ground, u.history) f.legal;
  front = old.history;
  begins = inl refl;
  back = u.history ∙ sym (ap (λ (cs : List Given). returns cs ++ old.history) f.none_out);
}

pub cut_behind : {old mid new : CoreView} (who : ℕ) (c : ClaimView) → IsFree old → has_room old → Adds old mid (claimed_entry who c) → out mid.history ≡ given_of who c ∷ [] → Adds mid new (entry who (call.GiveBack c.number) reply.Back) → IsCutTurn old new who
cut_behind {old = old} {mid = mid} who c f room a alone b = record {
  ground = b.ground ∙ a.ground;
  legal = legal_next b (legal_next a f.legal);
  front = claimed_entry who c ∷ old.history;
  begins = inr (room, ap (λ (told : Reply). entry who call.Claim told ∷ old.history) a.lawful);
  back =
      b.history ∙ ap (λ (h : List StepRec). entry who (call.GiveBack c.number) reply.Back ∷ h) a.history
      ∙ sym (ap (λ (cs : List Given). returns cs ++ (claimed_entry who c ∷ old.history)) (subst (λ (h : List StepRec). out h ≡ given_of who c ∷ []) a.history alone));
}

-- Deliveries.

pub ready_true : {core : CoreView} {who : ℕ} {f : FindingView} → HoldsIn core who (held.Found f) → IsTrue core.ground core.history who f
ready_true k = record {
  is_out = k.ready.0.is_out;
  snapshot_is = k.ready.0.snapshot_is.model;
  finds = k.ready.1;
}

pub given_to_self : (who : ℕ) (c : Given) → c.actor ≡ who → given_to who (Some c) ≡ Some c
given_to_self who c e = ap (λ (b : Bool). cond b (Some c) None) (eq-eqb c.actor who e)

-- where this claim alone is out, none is out behind its delivery
pub none_left : (n : ℕ) (cs : List Given) (c : Given) → cs ≡ c ∷ [] → c.number ≡ n → without_claim n cs ≡ []
none_left n cs c o e =
    ap (λ (xs : List Given). without_claim n xs) o ∙ ap (λ (b : Bool). cond (not b) (c ∷ []) []) (eq-eqb c.number n e)

pub handed_in : {old new : CoreView} {who : ℕ} {f : FindingView} (told : Delivered) → HoldsIn old who (held.Found f) → Adds old new (entry who (call.Deliver f.claim.number) (delivery_told told)) → IsHandedIn old new who f.claim.number
handed_in {old = old} {new = new} {who = who} {f = f} told k a =
    let n : ℕ = f.claim.number in
    let c : Given = a.lawful.0 in
    let is : c ≡ given_of who f.claim = same_some (claim_numbered n (out old.history)) c (given_of who f.claim) a.lawful.1.is_held k.ready.0.is_out in
    record {
      ground = a.ground;
      history =
          a.history
          ∙ ap (λ (r : Reply). entry who (call.Deliver n) r ∷ old.history) a.lawful.2
          ∙ sym (ap (λ (o : Option Given). with_delivery old.ground who n o old.history) (given_to_self who c a.lawful.1.by))
          ∙ sym (ap (λ (o : Option Given). with_delivery old.ground who n (given_to who o) old.history) a.lawful.1.is_held);
      free = record {
        legal = legal_next a k.legal;
        none_out = rw a.history (none_left n (out old.history) (given_of who f.claim) k.out_is refl);
      };
    }

-- the finding wasn't taken, and its claim was given back
pub handed_back : {old mid new : CoreView} {who : ℕ} {f : FindingView} → HoldsIn old who (held.Found f) → Unchanged old mid → Adds mid new (entry who (call.GiveBack f.claim.number) reply.Back) → IsReturned old new
handed_back {old = old} {mid = mid} {who = who} {f = f} k u b = record {
  ground = b.ground ∙ u.ground;
  history =
      b.history ∙ ap (λ (h : List StepRec). entry who (call.GiveBack f.claim.number) reply.Back ∷ h) u.history
      ∙ sym (ap (λ (cs : List Given). returns cs ++ old.history) k.out_is);
  legal = legal_next b (rw (u.ground, u.history) k.legal);
}

-- Rounds.

pub round_cut : {old mid new : CoreView} {who : ℕ} (f : FindingView) → IsFree old → has_room old → Adds old mid (claimed_entry who f.claim) → IsReturned mid new → IsCutTurn old new who
round_cut {old = old} {mid = mid} {who = who} f free room a r = record {
  ground = r.ground ∙ a.ground;
  legal = r.legal;
  front = claimed_entry who f.claim ∷ old.history;
  begins = inr (room, ap (λ (told : Reply). entry who call.Claim told ∷ old.history) a.lawful);
  back = r.history ∙ ap (λ (h : List StepRec). returned h) a.history;
}

pub round_done : {old mid new : CoreView} {who : ℕ} (f : FindingView) → has_room old → Adds old mid (claimed_entry who f.claim) → IsHandedIn mid new who f.claim.number → IsRound old new who
round_done {old = old} {mid = mid} {new = new} {who = who} f room a h = record {
  room = room;
  number = f.claim.number;
  pair = f.claim.pair;
  revision = f.claim.snapshot.revision;
  told = a.lawful;
  ground = h.ground ∙ a.ground;
  history = h.history ∙ (λ i. after_delivery (a.ground i) who f.claim.number (a.history i));
  free = h.free;
}

pub round_last : {old new : CoreView} {who : ℕ} → has_room old → Adds old new (entry who call.Claim reply.Idle) → HoldsIn new who held.Idle → IsLastRound old new who
round_last room a k = record {
  room = room;
  told = a.lawful;
  ground = a.ground;
  history = a.history;
  free = record { legal = k.legal; none_out = k.out_is };
}

pub halted_turn : {old : CoreView} (new : CoreView) (who : ℕ) (why : Halt) → IsFree old → IsHalted old new 2 why → StopsTurn old new who why
halted_turn new who halt.Full f k = k
halted_turn new who halt.Memory f k = cut_before who f k

-- Several rounds.

-- So far a course of rounds that began at one core has come to the other, with so many rounds left of so many.
pub record AreTurning (begun now : CoreView) (who most left : ℕ) : Type 0 where
  pub ground : now.ground ≡ begun.ground
  pub free : IsFree now
  pub since : IsLater begun.history now.history
  pub course : (p : Place) → rounds begun.ground who most p begun.history ≡ rounds begun.ground who left p now.history

pub turning_starts : {core : CoreView} (who most left : ℕ) → most ≡ left → IsFree core → AreTurning core core who most left
turning_starts {core = core} who most left e f = record { ground = refl; free = f; since = same core.history; course = λ p. ap (λ (n : ℕ). rounds core.ground who n p core.history) e }

-- with room, the rounds go on behind the claim
roomy : (g : Ground) (who n : ℕ) (p : Place) (h : List StepRec) → is_full g h 2 ≡ false → rounds g who (suc n) p h ≡ after_claim g who (claim_reply g h) h p (rounds g who n p)
roomy g who n p h room = ap (λ (b : Bool). cond b (ended h p) (after_claim g who (claim_reply g h) h p (rounds g who n p))) room

room_at : (begun now : CoreView) → now.ground ≡ begun.ground → has_room now → is_full begun.ground now.history 2 ≡ false
room_at begun now e room = subst (λ (g : Ground). is_full g now.history 2 ≡ false) e room

pub turning_on : {begun old new : CoreView} {who most : ℕ} (left rest : ℕ) → left ≡ suc rest → AreTurning begun old who most left → IsRound old new who → AreTurning begun new who most rest
turning_on {begun = begun} {old = old} {new = new} {who = who} left rest e t r =
    let first : List StepRec = entry who call.Claim (reply.Claimed r.number r.pair r.revision) ∷ old.history in
    let told : reply.Claimed r.number r.pair r.revision ≡ claim_reply begun.ground old.history = subst (λ (g : Ground). reply.Claimed r.number r.pair r.revision ≡ claim_reply g old.history) t.ground r.told in
    let next : new.history ≡ after_delivery begun.ground who r.number first = subst (λ (g : Ground). new.history ≡ after_delivery g who r.number first) t.ground r.history in
    record {
      ground = r.ground ∙ t.ground;
      free = r.free;
      since = joined begun.history old.history new.history t.since (rw next (joined old.history first (after_delivery begun.ground who r.number first) (one_more _ old.history) (delivered begun.ground who r.number first)));
      course = λ p.
          t.course p
          ∙ ap (λ (n : ℕ). rounds begun.ground who n p old.history) e
          ∙ roomy begun.ground who rest p old.history (room_at begun old t.ground r.room)
          ∙ ap (λ (x : Reply). after_claim begun.ground who x old.history p (rounds begun.ground who rest p)) (sym told)
          ∙ ap (λ (h : List StepRec). rounds begun.ground who rest p h) (sym next);
    }

pub turning_done : {begun now : CoreView} {who most : ℕ} (left : ℕ) → left ≡ 0 → AreTurning begun now who most left → (p : Place) → AreRounds (rounds begun.ground who most p begun.history) begun now
turning_done {begun = begun} {now = now} {who = who} left e t p =
    let all : rounds begun.ground who _ p begun.history ≡ done now.history p = t.course p ∙ ap (λ (n : ℕ). rounds begun.ground who n p now.history) e in
    record { ground = t.ground; history = ap (λ (d : Done). d.history) all; not_full = ap (λ (d : Done). d.full) all; legal = t.free.legal; none_out = t.free.none_out }

pub turning_idle : {begun old new : CoreView} {who most : ℕ} (left rest : ℕ) → left ≡ suc rest → AreTurning begun old who most left → IsLastRound old new who → (p : Place) → AreRounds (rounds begun.ground who most p begun.history) begun new
turning_idle {begun = begun} {old = old} {new = new} {who = who} left rest e t r p =
    let told : reply.Idle ≡ claim_reply begun.ground old.history = subst (λ (g : Ground). reply.Idle ≡ claim_reply g old.history) t.ground r.told in
    let all : rounds begun.ground who _ p begun.history ≡ done (entry who call.Claim reply.Idle ∷ old.history) p =
    t.course p
    ∙ ap (λ (n : ℕ). rounds begun.ground who n p old.history) e
    ∙ roomy begun.ground who rest p old.history (room_at begun old t.ground r.room)
    ∙ ap (λ (x : Reply). after_claim begun.ground who x old.history p (rounds begun.ground who rest p)) (sym told) in
    record { ground = r.ground ∙ t.ground; history = ap (λ (d : Done). d.history) all ∙ sym r.history; not_full = ap (λ (d : Done). d.full) all; legal = r.free.legal; none_out = r.free.none_out }

stopped_full : {begun old new : CoreView} {who most : ℕ} (left rest : ℕ) → left ≡ suc rest → AreTurning begun old who most left → Unchanged old new → is_full old.ground old.history 2 ≡ true → (p : Place) → IsStopped halt.Full (rounds begun.ground who most p begun.history) begun new
stopped_full {begun = begun} {old = old} {new = new} {who = who} left rest e t u full p =
    let here : is_full begun.ground old.history 2 ≡ true = subst (λ (g : Ground). is_full g old.history 2 ≡ true) t.ground full in
    let all : rounds begun.ground who _ p begun.history ≡ ended old.history p =
    t.course p
    ∙ ap (λ (n : ℕ). rounds begun.ground who n p old.history) e
    ∙ ap (λ (b : Bool). cond b (ended old.history p) (after_claim begun.ground who (claim_reply begun.ground old.history) old.history p (rounds begun.ground who rest p))) here in
    record {
      ground = u.ground ∙ t.ground;
      legal = rw (u.ground, u.history) t.free.legal;
      front = old.history;
      since = t.since;
      within = rw (ap (λ (d : Done). d.history) all) (same old.history);
      at_full = (ap (λ (d : Done). d.full) all, sym (ap (λ (d : Done). d.history) all));
      back = u.history ∙ sym (ap (λ (cs : List Given). returns cs ++ old.history) t.free.none_out);
    }

within_turn : {begun old : CoreView} {who most : ℕ} (left rest : ℕ) → left ≡ suc rest → AreTurning begun old who most left → (front : List StepRec) → (front ≡ old.history) ⊎ (has_room old × (front ≡ claim_entry old who ∷ old.history)) → (p : Place) →
    IsLater begun.history front × IsLater front (rounds begun.ground who most p begun.history).history
within_turn {begun = begun} {old = old} {who = who} left rest e t front (inl is) p =
    let course : rounds begun.ground who _ p begun.history ≡ rounds begun.ground who left p old.history = t.course p in
    (rw is t.since, rw (is, course) (rounds_grow begun.ground who left p old.history))
within_turn {begun = begun} {old = old} {who = who} left rest e t front (inr at) p =
    let here : claim_entry old who ≡ entry who call.Claim (claim_reply begun.ground old.history) = ap (λ (g : Ground). entry who call.Claim (claim_reply g old.history)) t.ground in
    let is : front ≡ entry who call.Claim (claim_reply begun.ground old.history) ∷ old.history = at.1 ∙ ap (λ (x : StepRec). x ∷ old.history) here in
    let course : rounds begun.ground who _ p begun.history ≡ after_claim begun.ground who (claim_reply begun.ground old.history) old.history p (rounds begun.ground who rest p) =
    t.course p
    ∙ ap (λ (n : ℕ). rounds begun.ground who n p old.history) e
    ∙ roomy begun.ground who rest p old.history (room_at begun old t.ground at.0) in
    (rw is (joined begun.history old.history _ t.since (one_more _ old.history)), rw (is, course) (behind_claim begun.ground who (claim_reply begun.ground old.history) old.history p (rounds begun.ground who rest p) (rounds_grow begun.ground who rest p)))

pub turning_stopped : {begun old new : CoreView} {who most : ℕ} (left rest : ℕ) (why : Halt) → left ≡ suc rest → AreTurning begun old who most left → StopsTurn old new who why → (p : Place) → IsStopped why (rounds begun.ground who most p begun.history) begun new
turning_stopped left rest halt.Full e t k p = stopped_full left rest e t k.0 k.1 p
turning_stopped {begun = begun} {old = old} {new = new} {who = who} {most = most} left rest halt.Memory e t k p =
    let w : IsLater begun.history k.front × IsLater k.front (rounds begun.ground who most p begun.history).history = within_turn {begun = begun} {old = old} {who = who} {most = most} left rest e t k.front k.begins p in
    record {
      ground = k.ground ∙ t.ground;
      legal = k.legal;
      front = k.front;
      since = w.0;
      within = w.1;
      at_full = tt;
      back = k.back;
    }

pub left_is : (counter most : ℕ) → counter < most → most - counter ≡ suc (most - (counter + 1))
left_is counter most lt = omega (arith, lt)

pub no_more : {old new : CoreView} {who : ℕ} (more : Bool) → more ≡ false → LeavesRound old new who (Ok more) → IsLastRound old new who
no_more true e r = absurd (cc)
no_more false e r = r

pub one_round : {old new : CoreView} {who : ℕ} (more : Bool) → more ≡ true → LeavesRound old new who (Ok more) → IsRound old new who
one_round true e r = r
one_round false e r = absurd (cc)
