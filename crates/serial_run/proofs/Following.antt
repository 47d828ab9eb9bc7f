-- The journal of a script of one editor falls into its phases.
use Rattle.std.proofs.Common.{◌≡◌, ℕ, zero, suc, ◌<◌, ◌+◌, Bool, true, false, cond, not, List, [], ◌∷◌, ◌++◌, reverse, Option, Some, None, ◌⊎◌, inl, inr, is_some, arith, refl, ap, sym, subst, ◌∙◌}
use Rattle.std.proofs.lemmas.Bool.{eq-eqb, true≢false, not-true}
use Rattle.std.proofs.lemmas.List.{append-nil, append_assoc, reverse-append, reverse-reverse}
use Rattle.audit_model.specs.declared.commit.Edit.{Edit}
use Rattle.audit_model.specs.declared.verdict.Pair.{Pair}
use Rattle.audit_model.specs.declared.step.StepRec.{StepRec}
use Rattle.audit_model.specs.declared.step.Given.{Given}
use Rattle.audit_model.specs.declared.step.Call.TheVariants as calls
use Rattle.audit_model.specs.declared.step.Reply.{Reply}
use Rattle.audit_model.specs.declared.step.Reply.TheVariants.{Began, Accepted, Refused, Claimed, Idle, Used, Stale, Back, Pending, Report}
use Rattle.audit_model.specs.declared.script.Act.{Act}
use Rattle.audit_model.specs.declared.script.Act.TheVariants.{Begin, Change, Commit, Publish, Take, Give, Work}
use Rattle.audit_model.specs.declared.script.ScriptLine.{ScriptLine}
use Rattle.audit_model.specs.declared.script.Phase.{Phase}
use Rattle.audit_model.specs.Models.{IsModel}
use Rattle.audit_model.specs.Pairs.{NumberedFrom}
use Rattle.audit_model.specs.History.{Ground, revision, given, out, with_claim, claim_numbered}
use Rattle.audit_model.specs.Machine.{Legal, claim_reply, claimed, deliver_reply, publish_reply, commit_reply, least_claimable, is_full}
use Rattle.audit_model.specs.Drain.{caller_entry, drain_from, drain_after, unsettled}
use Rattle.script_rules.specs.ScriptLines.{Place, place, free, number_in, entry, commit_of, deliver_of, Turns, Rounds, Does, FollowsFrom, own}
use Rattle.script_rules.specs.ScriptOrder.{IsOrderly, AreOrderly, may_come, drafts_after, holds_after}
use Rattle.script_rules.specs.Serial.{Done, done, ended, with_room, given_to, with_delivery, after_delivery, after_claim, rounds, commit_done, give_done, act_done, drain_done, Run, fresh, moved, line_run, lines_run, sync_run, phases_run, serial}
use Rattle.audit_model.proofs.DrainLaws.{drain_follows, legal_older, turned}
use Rattle.script_rules.proofs.RunLaws.{drain_ends}
use Rattle.script_rules.proofs.RunLegal.{serial_is_legal}
use Rattle.serial_run.specs.Growth.{IsLater}
use Rattle.serial_run.specs.Phased.{AllBy, EndsReported, IsPhaseOf, ArePhases, ScriptIsPhased}
use Rattle.serial_run.proofs.Growing.{sync_grows, phases_grow}
use Rattle.serial_run.proofs.Turning.{given_to_self, none_left}
use Rattle.serial_run.proofs.Phasing.{drafted_some, lines_full, phases_full}

-- Entries in the order of the journal, and histories.

pub turned_both : (es fs h : List StepRec) → reverse (es ++ fs) ++ h ≡ reverse fs ++ (reverse es ++ h)
turned_both es fs h = ap (λ (xs : List StepRec). xs ++ h) (reverse-append es fs) ∙ append_assoc (reverse fs) (reverse es) h

by_both : (who : ℕ) (es fs : List StepRec) → AllBy who es → AllBy who fs → AllBy who (es ++ fs)
by_both who [] fs a b = b
by_both who (e ∷ es) fs a b = (a.0, by_both who es fs a.1 b)

pub legal_before : (g : Ground) (h k : List StepRec) → IsLater h k → Legal g k → Legal g h
legal_before g h k later l = legal_older g later.0 h (subst (λ (xs : List StepRec). Legal g xs) later.1 l)

-- Claims that are out.

-- No claim is out but the one that the actor holds.
abbrev pub HeldIn : ℕ → List Given → Option (Option ℕ) → Type 0
HeldIn who cs None = cs ≡ []
HeldIn who cs (Some None) = cs ≡ []
HeldIn who cs (Some (Some n)) = (c : Given) × (cs ≡ c ∷ []) × (c.number ≡ n) × (c.actor ≡ who)

claim_held : (who : ℕ) (reply : Reply) (cs : List Given) → cs ≡ [] → HeldIn who (with_claim who reply cs) (Some (number_in reply))
claim_held who (Claimed n p r) cs e = (record { number = n; actor = who; pair = p; revision = r }, ap (λ (xs : List Given). xs ++ record { number = n; actor = who; pair = p; revision = r } ∷ []) e, refl, refl)
claim_held who (Began r) cs e = e
claim_held who (Accepted r) cs e = e
claim_held who (Refused why) cs e = e
claim_held who Idle cs e = e
claim_held who Used cs e = e
claim_held who (Stale x r) cs e = e
claim_held who Back cs e = e
claim_held who (Pending p) cs e = e
claim_held who (Report r) cs e = e

pub none_held : (who : ℕ) (cs : List Given) (o : Option (Option ℕ)) → is_some o ≡ false → HeldIn who cs o → cs ≡ []
none_held who cs None e k = k
none_held who cs (Some x) e k = absurd (cc)

pub found_alone : (n : ℕ) (c : Given) → c.number ≡ n → claim_numbered n (c ∷ []) ≡ Some c
found_alone n c e = ap (λ (b : Bool). cond b (Some c) None) (eq-eqb c.number n e)

abbrev pub deliver_entry : Ground → ℕ → ℕ → List StepRec → Given → StepRec
deliver_entry g who n h c = entry who (calls.Deliver n) (deliver_reply g h c)

-- the claim that is held is found
pub delivery_is : (g : Ground) (who n : ℕ) (h : List StepRec) (c : Given) → out h ≡ c ∷ [] → c.number ≡ n → c.actor ≡ who → after_delivery g who n h ≡ deliver_entry g who n h c ∷ h
delivery_is g who n h c o number actor =
    ap (λ (cs : List Given). with_delivery g who n (given_to who (claim_numbered n cs)) h) o
    ∙ ap (λ (x : Option Given). with_delivery g who n (given_to who x) h) (found_alone n c number)
    ∙ ap (λ (x : Option Given). with_delivery g who n x h) (given_to_self who c actor)

-- Rounds.

pub turns_first : (who n number : ℕ) (pair : Pair) (at : ℕ) (reply : Reply) (es : List StepRec) → Turns who n es → Turns who (suc n) (entry who calls.Claim (Claimed number pair at) ∷ entry who (calls.Deliver number) reply ∷ es)
turns_first who zero number pair at reply es t =
    ([], number, pair, at, reply, refl, ap (λ (xs : List StepRec). entry who calls.Claim (Claimed number pair at) ∷ entry who (calls.Deliver number) reply ∷ xs) t)
turns_first who (suc n) number pair at reply es t =
    let both : List StepRec → List StepRec = λ xs. entry who calls.Claim (Claimed number pair at) ∷ entry who (calls.Deliver number) reply ∷ xs in
    (both t.0, t.1, t.2, t.3, t.4, turns_first who n number pair at reply t.0 t.5, ap both t.6)

pub rounds_first : (who n number : ℕ) (pair : Pair) (at : ℕ) (reply : Reply) (es : List StepRec) → Rounds who n es → Rounds who (suc n) (entry who calls.Claim (Claimed number pair at) ∷ entry who (calls.Deliver number) reply ∷ es)
rounds_first who n number pair at reply es (inl t) = inl (turns_first who n number pair at reply es t)
rounds_first who n number pair at reply es (inr k) =
    let both : List StepRec → List StepRec = λ xs. entry who calls.Claim (Claimed number pair at) ∷ entry who (calls.Deliver number) reply ∷ xs in
    let less : k.0 < n = k.2 in
    inr (suc k.0, both k.1, omega (arith, less), turns_first who k.0 number pair at reply k.1 k.3, ap both k.4)

-- What was done after h is so many rounds.
pub record IsWorked (who n : ℕ) (p : Place) (h : List StepRec) (d : Done) : Type 0 where
  pub entries : List StepRec
  pub history : d.history ≡ reverse entries ++ h
  pub rounds : Rounds who n entries
  pub by : AllBy who entries
  pub none_out : out d.history ≡ []
  pub place : d.place ≡ p

abbrev pub IfGoing : (Done → Type 0) → Done → Type 0
IfGoing F d = d.full ≡ false → F d

roomy : (F : Done → Type 0) (g : Ground) (n : ℕ) (h : List StepRec) (p : Place) (d : Done) → IfGoing F d → IfGoing F (with_room g n h p d)
roomy F g n h p d k = elim (is_full g h n) as (λ b. IfGoing F (cond b (ended h p) d)) [ true ↦ λ e. absurd (cc) | false ↦ k ]

abbrev pub Works : ℕ → ℕ → Place → (List StepRec → Done) → Type 0
Works who n p more = (h : List StepRec) → out h ≡ [] → IfGoing (IsWorked who n p h) (more h)

round_on : (g : Ground) (who n : ℕ) (p : Place) (h : List StepRec) (number : ℕ) (pair : Pair) (r : ℕ) (more : List StepRec → Done) → Works who n p more → out h ≡ [] →
    IfGoing (IsWorked who (suc n) p h) (more (after_delivery g who number (entry who calls.Claim (Claimed number pair r) ∷ h)))
round_on g who n p h number pair r more on o =
    let first : StepRec = entry who calls.Claim (Claimed number pair r) in
    let c : Given = record { number = number; actor = who; pair = pair; revision = r } in
    let one : out (first ∷ h) ≡ c ∷ [] = ap (λ (xs : List Given). xs ++ c ∷ []) o in
    let second : StepRec = deliver_entry g who number (first ∷ h) c in
    let is : after_delivery g who number (first ∷ h) ≡ second ∷ first ∷ h = delivery_is g who number (first ∷ h) c one refl refl in
    subst (λ (k : List StepRec). IfGoing (IsWorked who (suc n) p h) (more k)) (sym is)
    (λ going.
    let w : IsWorked who n p (second ∷ first ∷ h) (more (second ∷ first ∷ h)) = on (second ∷ first ∷ h) (none_left number (out (first ∷ h)) c one refl) going in
    record {
      entries = first ∷ second ∷ w.entries;
      history = w.history ∙ sym (turned first (second ∷ w.entries) h ∙ turned second w.entries (first ∷ h));
      rounds = rounds_first who n number pair r (deliver_reply g (first ∷ h) c) w.entries w.rounds;
      by = (refl, (refl, w.by));
      none_out = w.none_out;
      place = w.place;
    })

claim_on : (g : Ground) (who n : ℕ) (p : Place) (h : List StepRec) (o : Option Pair) (number r : ℕ) (more : List StepRec → Done) → Works who n p more → out h ≡ [] →
    IfGoing (IsWorked who (suc n) p h) (after_claim g who (claimed o number r) h p more)
claim_on g who n p h None number r more on none =
    λ going.
    let less : 0 < suc n = omega arith in
    record { entries = entry who calls.Claim Idle ∷ []; history = refl; rounds = inr (0, [], less, refl, refl); by = (refl, tt); none_out = none; place = refl }
claim_on g who n p h (Some pair) number r more on none = round_on g who n p h number pair r more on none

pub rounds_on : (g : Ground) (who n : ℕ) (p : Place) → Works who n p (rounds g who n p)
rounds_on g who zero p h none = λ going. record { entries = []; history = refl; rounds = inl refl; by = tt; none_out = none; place = refl }
rounds_on g who (suc n) p h none =
    roomy (IsWorked who (suc n) p h) g 2 h p (after_claim g who (claim_reply g h) h p (rounds g who n p))
    (claim_on g who n p h (least_claimable g h) (given h + 1) (revision h) (rounds g who n p) (rounds_on g who n p) none)

-- Lines.

-- The line was done after h.
pub record Goes (who : ℕ) (a : Act) (p : Place) (h : List StepRec) (d : Done) : Type 0 where
  pub entries : List StepRec
  pub history : d.history ≡ reverse entries ++ h
  pub does : Does who a p entries d.place
  pub by : AllBy who entries
  pub held : HeldIn who (out d.history) d.place.held

commit_goes : (g : Ground) (who : ℕ) (o : Option (ℕ × List Edit)) (p : Place) (h : List StepRec) → p.draft ≡ o → HeldIn who (out h) p.held → IfGoing (Goes who Commit p h) (commit_done g who o p h)
commit_goes g who None p h e k =
    λ going. record {
      entries = [];
      history = refl;
      does = (Idle, ap (λ (d : Option (ℕ × List Edit)). commit_of who d Idle) (sym e), ap (λ (d : Option (ℕ × List Edit)). place d p.held) e);
      by = tt;
      held = k;
    }
commit_goes g who (Some d) p h e k =
    let reply : Reply = commit_reply g h d.0 d.1 in
    roomy (Goes who Commit p h) g 1 h p (done (entry who (calls.Commit d.0 d.1) reply ∷ h) (place None p.held))
    (λ going. record {
      entries = entry who (calls.Commit d.0 d.1) reply ∷ [];
      history = refl;
      does = (reply, ap (λ (d : Option (ℕ × List Edit)). commit_of who d reply) (sym e), refl);
      by = (refl, tt);
      held = k;
    })

give_goes : (g : Ground) (who : ℕ) (o : Option (Option ℕ)) (p : Place) (h : List StepRec) → p.held ≡ o → HeldIn who (out h) o → IfGoing (Goes who Give p h) (give_done g who o p h)
give_goes g who None p h e k =
    λ going. record { entries = []; history = refl; does = (Idle, ap (λ (x : Option (Option ℕ)). deliver_of who x Idle) (sym e), refl); by = tt; held = k }
give_goes g who (Some None) p h e k =
    λ going. record { entries = []; history = refl; does = (Idle, ap (λ (x : Option (Option ℕ)). deliver_of who x Idle) (sym e), refl); by = tt; held = k }
give_goes g who (Some (Some n)) p h e k =
    let reply : Reply = deliver_reply g h k.0 in
    let is : after_delivery g who n h ≡ deliver_entry g who n h k.0 ∷ h = delivery_is g who n h k.0 k.1 k.2 k.3 in
    λ going. record {
      entries = deliver_entry g who n h k.0 ∷ [];
      history = is;
      does = (reply, ap (λ (x : Option (Option ℕ)). deliver_of who x reply) (sym e), refl);
      by = (refl, tt);
      held = ap (λ (x : List StepRec). out x) is ∙ none_left n (out h) k.0 k.1 k.2;
    }

pub none_yet : (who : ℕ) (h : List StepRec) (p : Place) → not (is_some p.held) ≡ true → HeldIn who (out h) p.held → out h ≡ []
none_yet who h p may k = none_held who (out h) p.held (not-true (is_some p.held) may) k

held_none : (who : ℕ) (cs : List Given) (o : Option (Option ℕ)) → is_some o ≡ false → cs ≡ [] → HeldIn who cs o
held_none who cs None e k = k
held_none who cs (Some x) e k = absurd (cc)

worked_goes : (who n : ℕ) (p : Place) (h : List StepRec) (d : Done) → is_some p.held ≡ false → IsWorked who n p h d → Goes who (Work n) p h d
worked_goes who n p h d none w =
    record {
      entries = w.entries;
      history = w.history;
      does = (w.rounds, w.place);
      by = w.by;
      held = subst (λ (q : Place). HeldIn who (out d.history) q.held) (sym w.place) (held_none who (out d.history) p.held none w.none_out);
    }

pub act_goes : (g : Ground) (who : ℕ) (a : Act) (p : Place) (h : List StepRec) → may_come (is_some p.draft) (is_some p.held) a ≡ true → HeldIn who (out h) p.held → IfGoing (Goes who a p h) (act_done g who a p h)
act_goes g who Begin p h may k =
    roomy (Goes who Begin p h) g 1 h p (done (entry who calls.Begin (Began (revision h)) ∷ h) (place (Some (revision h, [])) p.held))
    (λ going. record { entries = entry who calls.Begin (Began (revision h)) ∷ []; history = refl; does = (revision h, refl, refl); by = (refl, tt); held = k })
act_goes g who (Change e) p h may k = λ going. record { entries = []; history = refl; does = (refl, refl); by = tt; held = k }
act_goes g who Commit p h may k = commit_goes g who p.draft p h refl k
act_goes g who Publish p h may k =
    roomy (Goes who Publish p h) g 1 h p (done (entry who calls.Publish (publish_reply g h) ∷ h) p)
    (λ going. record { entries = entry who calls.Publish (publish_reply g h) ∷ []; history = refl; does = (publish_reply g h, refl, refl); by = (refl, tt); held = k })
act_goes g who Take p h may k =
    let reply : Reply = claim_reply g h in
    roomy (Goes who Take p h) g 2 h p (done (entry who calls.Claim reply ∷ h) (place p.draft (Some (number_in reply))))
    (λ going. record { entries = entry who calls.Claim reply ∷ []; history = refl; does = (reply, refl, refl); by = (refl, tt); held = claim_held who reply (out h) (none_yet who h p may k) })
act_goes g who Give p h may k = give_goes g who p.held p h refl k
act_goes g who (Work n) p h may k =
    λ going. worked_goes who n p h (rounds g who n p h) (not-true (is_some p.held) may) (rounds_on g who n p h (none_yet who h p may k) going)

-- What a line leaves open.

abbrev pub drafts : Place → Bool
drafts p = is_some p.draft

abbrev pub holds : Place → Bool
holds p = is_some p.held

does_drafts : (who : ℕ) (a : Act) (p q : Place) (es : List StepRec) → Does who a p es q → drafts q ≡ drafts_after (drafts p) a
does_drafts who Begin p q es k = ap drafts k.2
does_drafts who (Change e) p q es k = ap drafts k.1 ∙ drafted_some e p.draft
does_drafts who Commit p q es k = ap drafts k.2
does_drafts who Publish p q es k = ap drafts k.2
does_drafts who Take p q es k = ap drafts k.2
does_drafts who Give p q es k = ap drafts k.2
does_drafts who (Work n) p q es k = ap drafts k.1

does_holds : (who : ℕ) (a : Act) (p q : Place) (es : List StepRec) → Does who a p es q → holds q ≡ holds_after (holds p) a
does_holds who Begin p q es k = ap holds k.2
does_holds who (Change e) p q es k = ap holds k.1
does_holds who Commit p q es k = ap holds k.2
does_holds who Publish p q es k = ap holds k.2
does_holds who Take p q es k = ap holds k.2
does_holds who Give p q es k = ap holds k.2
does_holds who (Work n) p q es k = ap holds k.1

-- The lines of a phase.

going_before : (b : Bool) (F : Bool → Bool) → (b ≡ true → F b ≡ true) → F b ≡ false → b ≡ false
going_before true F k e = absurd (let t : F true ≡ true = k refl in cc)
going_before false F k e = refl

pub lines_going : (g : Ground) (ls : List ScriptLine) (s : Run) → (lines_run g ls s).full ≡ false → s.full ≡ false
lines_going g ls s e = going_before s.full (λ b. (lines_run g ls s).full) (λ t. ap (λ (u : Run). u.full) (lines_full g ls s t) ∙ t) e

-- the run u was led by these lines of editor 1, who was at the place p, from the history h
pub record AreFollowed (p : Place) (ls : List ScriptLine) (h : List StepRec) (u : Run) : Type 0 where
  pub entries : List StepRec
  pub history : u.history ≡ reverse entries ++ h
  pub last : Place
  pub follows : FollowsFrom 1 p (own 1 ls) entries last
  pub by : AllBy 1 entries
  pub none_out : out u.history ≡ []
  pub at_rest : u.places 1 ≡ free

resting : (p : Place) → drafts p ≡ false → holds p ≡ false → p ≡ free
resting p a b = (λ i. place (none p.draft a i) (none p.held b i)) where
  none : {A : Type 0} (o : Option A) → is_some o ≡ false → o ≡ None
  none None e = refl
  none (Some x) e = absurd (cc)

pub own_first : (l : ScriptLine) (ls : List ScriptLine) → l.editor ≡ 1 → own 1 (l ∷ ls) ≡ l.act ∷ own 1 ls
own_first l ls e = ap (λ (b : Bool). cond b (l.act ∷ own 1 ls) (own 1 ls)) (eq-eqb l.editor 1 e)

pub line_is : (g : Ground) (l : ScriptLine) (s : Run) → s.full ≡ false → l.editor ≡ 1 → line_run g l s ≡ moved 1 s (act_done g 1 l.act (s.places 1) s.history)
line_is g l s going one = λ i. cond (going i) s (moved (one i) s (act_done g (one i) l.act (s.places (one i)) s.history))

pub order_on : (a : Act) (p q : Place) (es : List StepRec) (ls : List ScriptLine) → Does 1 a p es q → IsOrderly 1 (drafts_after (drafts p) a) (holds_after (holds p) a) ls → IsOrderly 1 (drafts q) (holds q) ls
order_on a p q es ls k o =
    subst (λ (b : Bool). IsOrderly 1 b (holds q) ls) (sym (does_drafts 1 a p q es k)) (subst (λ (b : Bool). IsOrderly 1 (drafts_after (drafts p) a) b ls) (sym (does_holds 1 a p q es k)) o)

first_line : (p : Place) (l : ScriptLine) (ls : List ScriptLine) (h : List StepRec) (d : Done) (u : Run) → l.editor ≡ 1 → Goes 1 l.act p h d → AreFollowed d.place ls d.history u → AreFollowed p (l ∷ ls) h u
first_line p l ls h d u one k f = record {
  entries = k.entries ++ f.entries;
  history = f.history ∙ ap (λ (x : List StepRec). reverse f.entries ++ x) k.history ∙ sym (turned_both k.entries f.entries h);
  last = f.last;
  follows = subst (λ (acts : List Act). FollowsFrom 1 p acts (k.entries ++ f.entries) f.last) (sym (own_first l ls one)) (d.place, k.entries, f.entries, refl, k.does, f.follows);
  by = by_both 1 k.entries f.entries k.by f.by;
  none_out = f.none_out;
  at_rest = f.at_rest;
}

pub lines_follow : (g : Ground) (ls : List ScriptLine) (s : Run) → HeldIn 1 (out s.history) (s.places 1).held → IsOrderly 1 (drafts (s.places 1)) (holds (s.places 1)) ls → (lines_run g ls s).full ≡ false → AreFollowed (s.places 1) ls s.history (lines_run g ls s)
lines_follow g [] s k o going = record {
  entries = [];
  history = refl;
  last = s.places 1;
  follows = (refl, refl);
  by = tt;
  none_out = none_held 1 (out s.history) (s.places 1).held o.1 k;
  at_rest = resting (s.places 1) o.0 o.1;
}
lines_follow g (l ∷ ls) s k o going =
    let d : Done = act_done g 1 l.act (s.places 1) s.history in
    let t : Run = moved 1 s d in
    let before : s.full ≡ false = lines_going g (l ∷ ls) s going in
    let is : line_run g l s ≡ t = line_is g l s before o.0 in
    let goes_on : (lines_run g ls t).full ≡ false = subst (λ (x : Run). (lines_run g ls x).full ≡ false) is going in
    let one : Goes 1 l.act (s.places 1) s.history d = act_goes g 1 l.act (s.places 1) s.history o.1 k (lines_going g ls t goes_on) in
    let rest : AreFollowed d.place ls d.history (lines_run g ls t) = lines_follow g ls t one.held (order_on l.act (s.places 1) d.place one.entries ls one.does o.2) goes_on in
    subst (λ (x : Run). AreFollowed (s.places 1) (l ∷ ls) s.history (lines_run g ls x)) (sym is) (first_line (s.places 1) l ls s.history d (lines_run g ls t) o.0 one rest)

-- Drains.

drain_reports : (n r : ℕ) (ps : List Pair) → EndsReported (drain_from n r ps)
drain_reports n r [] = (caller_entry calls.Claim Idle ∷ [], r, refl)
drain_reports n r (p ∷ ps) =
    let both : List StepRec → List StepRec = λ xs. caller_entry calls.Claim (Claimed n p r) ∷ caller_entry (calls.Deliver n) Used ∷ xs in
    let rest : EndsReported (drain_from (n + 1) r ps) = drain_reports (n + 1) r ps in
    (both rest.0, rest.1, ap both rest.2)

none_after : (n r : ℕ) (ps : List Pair) (h : List StepRec) → out h ≡ [] → out (reverse (drain_from n r ps) ++ h) ≡ []
none_after n r [] h o = o
none_after n r (p ∷ ps) h o =
    let first : StepRec = caller_entry calls.Claim (Claimed n p r) in
    let second : StepRec = caller_entry (calls.Deliver n) Used in
    let es : List StepRec = drain_from (n + 1) r ps in
    let c : Given = record { number = n; actor = 0; pair = p; revision = r } in
    let one : out (first ∷ h) ≡ c ∷ [] = ap (λ (xs : List Given). xs ++ c ∷ []) o in
    ap (λ (x : List StepRec). out x) (turned first (second ∷ es) h ∙ turned second es (first ∷ h))
    ∙ none_after (n + 1) r ps (second ∷ first ∷ h) (none_left n (out (first ∷ h)) c one refl)

pub sync_going : (g : Ground) (s : Run) → (sync_run g s).full ≡ false → s.full ≡ false
sync_going g s e = going_before s.full (λ b. (cond b s (moved 0 s (drain_done g s.history))).full) (λ t. ap (λ (b : Bool). (cond b s (moved 0 s (drain_done g s.history))).full) t ∙ t) e

pub sync_is : (g : Ground) (s : Run) → NumberedFrom 1 g.specs → IsModel g.first → Legal g s.history → out s.history ≡ [] → (sync_run g s).full ≡ false → sync_run g s ≡ moved 0 s (done (reverse (drain_after g s.history) ++ s.history) free)
sync_is g s numbered ascending l o going =
    let at : sync_run g s ≡ moved 0 s (drain_done g s.history) = ap (λ (b : Bool). cond b s (moved 0 s (drain_done g s.history))) (sync_going g s going) in
    at ∙ ends at (drain_ends g s.history numbered ascending l o) where
      ends : sync_run g s ≡ moved 0 s (drain_done g s.history) → ((drain_done g s.history).full ≡ true) ⊎ (drain_done g s.history ≡ done (reverse (drain_after g s.history) ++ s.history) free) → moved 0 s (drain_done g s.history) ≡ moved 0 s (done (reverse (drain_after g s.history) ++ s.history) free)
      ends at (inl full) = absurd (true≢false (sym full ∙ sym (ap (λ (u : Run). u.full) at) ∙ going))
      ends at (inr is) = ap (λ (d : Done). moved 0 s d) is

-- Phases.

-- the run u was led by a phase with these lines from the history h
pub record IsPhased (ls : List ScriptLine) (h : List StepRec) (u : Run) : Type 0 where
  pub entries : List StepRec
  pub history : u.history ≡ reverse entries ++ h
  pub phase : IsPhaseOf ls entries
  pub none_out : out u.history ≡ []
  pub at_rest : u.places 1 ≡ free

pub phase_on : (g : Ground) (ls : List ScriptLine) (s : Run) → NumberedFrom 1 g.specs → IsModel g.first → s.places 1 ≡ free → out s.history ≡ [] → IsOrderly 1 false false ls →
    Legal g (sync_run g (lines_run g ls s)).history → (sync_run g (lines_run g ls s)).full ≡ false → IsPhased ls s.history (sync_run g (lines_run g ls s))
phase_on g ls s numbered ascending at o order legal going =
    let t : Run = lines_run g ls s in
    let k : HeldIn 1 (out s.history) (s.places 1).held = subst (λ (p : Place). HeldIn 1 (out s.history) p.held) (sym at) o in
    let order_here : IsOrderly 1 (drafts (s.places 1)) (holds (s.places 1)) ls = subst (λ (p : Place). IsOrderly 1 (drafts p) (holds p) ls) (sym at) order in
    let f : AreFollowed (s.places 1) ls s.history t = lines_follow g ls s k order_here (sync_going g t going) in
    let l : Legal g t.history = legal_before g t.history (sync_run g t).history (sync_grows g t) legal in
    let last : List StepRec = drain_after g t.history in
    let is : sync_run g t ≡ moved 0 t (done (reverse last ++ t.history) free) = sync_is g t numbered ascending l f.none_out going in
    record {
      entries = f.entries ++ last;
      history = ap (λ (u : Run). u.history) is ∙ ap (λ (x : List StepRec). reverse last ++ x) f.history ∙ sym (turned_both f.entries last s.history);
      phase = record {
        own_entries = f.entries;
        last = last;
        split = refl;
        follows = (f.last, subst (λ (p : Place). FollowsFrom 1 p (own 1 ls) f.entries f.last) at f.follows);
        by = f.by;
        drain = (drain_follows g t.history numbered ascending l f.none_out).0;
        reported = drain_reports (given t.history + 1) (revision t.history) (unsettled g t.history);
      };
      none_out = ap (λ (u : Run). out u.history) is ∙ none_after (given t.history + 1) (revision t.history) (unsettled g t.history) t.history f.none_out;
      at_rest = ap (λ (u : Run). u.places 1) is ∙ f.at_rest;
    }

pub phases_going : (g : Ground) (ps : List Phase) (s : Run) → (phases_run g ps s).full ≡ false → s.full ≡ false
phases_going g ps s e = going_before s.full (λ b. (phases_run g ps s).full) (λ t. ap (λ (u : Run). u.full) (phases_full g ps s t) ∙ t) e

abbrev PhasesFrom : List Phase → List StepRec → Run → Type 0
PhasesFrom ps h u = (es : List StepRec) × (u.history ≡ reverse es ++ h) × ArePhases ps es

phases_on : (g : Ground) (ps : List Phase) (s : Run) → NumberedFrom 1 g.specs → IsModel g.first → s.places 1 ≡ free → out s.history ≡ [] → AreOrderly 1 ps →
    Legal g (phases_run g ps s).history → (phases_run g ps s).full ≡ false → PhasesFrom ps s.history (phases_run g ps s)
phases_on g [] s numbered ascending at o order legal going = ([], refl, refl)
phases_on g (p ∷ ps) s numbered ascending at o order legal going =
    let t : Run = sync_run g (lines_run g p.lines s) in
    let u : Run = phases_run g ps t in
    let l : Legal g t.history = legal_before g t.history u.history (phases_grow g ps t) legal in
    let one : IsPhased p.lines s.history t = phase_on g p.lines s numbered ascending at o order.0 l (phases_going g ps t going) in
    let rest : PhasesFrom ps t.history u = phases_on g ps t numbered ascending one.at_rest one.none_out order.1 legal going in (
      one.entries ++ rest.0,
      rest.1 ∙ ap (λ (x : List StepRec). reverse rest.0 ++ x) one.history ∙ sym (turned_both one.entries rest.0 s.history),
      (one.entries, rest.0, refl, one.phase, rest.2),
    )

pub script_is_phased : ScriptIsPhased
script_is_phased g phases numbered ascending order going =
    let u : Run = phases_run g phases fresh in
    let legal : Legal g u.history = subst (λ (h : List StepRec). Legal g h) (reverse-reverse u.history) (serial_is_legal g phases) in
    let k : PhasesFrom phases [] u = phases_on g phases fresh numbered ascending refl refl order legal going in
    let is : serial g phases ≡ k.0 = ap (λ (h : List StepRec). reverse h) (k.1 ∙ append-nil (reverse k.0)) ∙ reverse-reverse k.0 in
    subst (λ (es : List StepRec). ArePhases phases es) (sym is) k.2
