-- A legal journal that falls into the phases of a script of one editor is the one that the script makes.
use Rattle.std.proofs.Common.{◌≡◌, ℕ, zero, suc, ◌<◌, ◌+◌, Bool, true, false, cond, List, [], ◌∷◌, ◌++◌, reverse, Option, Some, None, ◌⊎◌, inl, inr, is_some, arith, refl, ap, sym, subst, ◌∙◌}
use Rattle.std.proofs.lemmas.List.{append-nil, reverse-reverse}
use Rattle.audit_model.specs.declared.commit.Edit.{Edit}
use Rattle.audit_model.specs.declared.verdict.Pair.{Pair}
use Rattle.audit_model.specs.declared.step.StepRec.{StepRec}
use Rattle.audit_model.specs.declared.step.Given.{Given}
use Rattle.audit_model.specs.declared.step.Call.TheVariants as calls
use Rattle.audit_model.specs.declared.step.Reply.{Reply}
use Rattle.audit_model.specs.declared.step.Reply.TheVariants.{Began, Claimed, Idle}
use Rattle.audit_model.specs.declared.script.Act.{Act}
use Rattle.audit_model.specs.declared.script.Act.TheVariants.{Begin, Change, Commit, Publish, Take, Give, Work}
use Rattle.audit_model.specs.declared.script.ScriptLine.{ScriptLine}
use Rattle.audit_model.specs.declared.script.Phase.{Phase}
use Rattle.audit_model.specs.Models.{IsModel}
use Rattle.audit_model.specs.Pairs.{NumberedFrom}
use Rattle.audit_model.specs.History.{Ground, revision, out, claim_numbered}
use Rattle.audit_model.specs.Machine.{Legal, claim_reply, commit_reply, deliver_reply, publish_reply, is_full}
use Rattle.audit_model.specs.Drain.{drain_after}
use Rattle.script_rules.specs.ScriptLines.{Place, place, free, number_in, entry, commit_of, deliver_of, Turns, Rounds, Does, FollowsFrom, own}
use Rattle.script_rules.specs.ScriptOrder.{IsOrderly, AreOrderly, may_come}
use Rattle.script_rules.specs.Serial.{Done, done, ended, with_room, after_delivery, after_claim, rounds, commit_done, give_done, act_done, Run, fresh, moved, line_run, lines_run, sync_run, phases_run}
use Rattle.audit_model.proofs.DrainLaws.{drain_follows, legal_older, turned}
use Rattle.script_rules.proofs.RunLegal.{serial_is_legal}
use Rattle.serial_run.specs.Phased.{IsPhaseOf, ArePhases, OnlySerial}
use Rattle.serial_run.proofs.Growing.{phases_grow}
use Rattle.serial_run.proofs.Turning.{none_left}
use Rattle.serial_run.proofs.Following.{turned_both, legal_before, HeldIn, none_yet, found_alone, deliver_entry, delivery_is, IsWorked, rounds_on, Goes, act_goes, drafts, holds, own_first, line_is, lines_going, order_on, AreFollowed, lines_follow, sync_going, sync_is, phases_going, IsPhased, phase_on}

-- One entry.

turned_one : (e : StepRec) (es h : List StepRec) → es ≡ e ∷ [] → reverse es ++ h ≡ e ∷ h
turned_one e es h is = ap (λ (xs : List StepRec). reverse xs ++ h) is

turned_none : (es h : List StepRec) → es ≡ [] → reverse es ++ h ≡ h
turned_none es h is = ap (λ (xs : List StepRec). reverse xs ++ h) is

-- where there was room, this was done
going_on : (b : Bool) (d e : Done) → d.full ≡ true → (cond b d e).full ≡ false → cond b d e ≡ e
going_on true d e full going = absurd (let k : true ≡ false = sym full ∙ going in cc)
going_on false d e full going = refl

had_room : (g : Ground) (n : ℕ) (h : List StepRec) (p : Place) (d : Done) → (with_room g n h p d).full ≡ false → with_room g n h p d ≡ d
had_room g n h p d going = going_on (is_full g h n) (ended h p) d refl going

-- The claim that is found is the only one that is out.

given_in : Given → Option Given → Given
given_in d None = d
given_in d (Some c) = c

only_one : (n : ℕ) (cs : List Given) (c found : Given) → cs ≡ c ∷ [] → c.number ≡ n → claim_numbered n cs ≡ Some found → found ≡ c
unfolding given_in
only_one n cs c found alone number is =
    let one : Some found ≡ Some c = sym is ∙ ap (λ (xs : List Given). claim_numbered n xs) alone ∙ found_alone n c number in
    ap (given_in c) one

abbrev Goal : List StepRec → List StepRec → Place → Done → Type 0
Goal es h q d = (reverse es ++ h ≡ d.history) × (q ≡ d.place)

-- Rounds.

abbrev claim_entry : ℕ → ℕ → Pair → ℕ → StepRec
claim_entry who number pair r = entry who calls.Claim (Claimed number pair r)

record FirstTurn (who n : ℕ) (es : List StepRec) : Type 0 where
  pub number : ℕ
  pub pair : Pair
  pub at : ℕ
  pub reply : Reply
  pub rest : List StepRec
  pub split : es ≡ claim_entry who number pair at ∷ entry who (calls.Deliver number) reply ∷ rest
  pub turns : Turns who n rest

first_turn : (who n : ℕ) (es : List StepRec) → Turns who (suc n) es → FirstTurn who n es
first_turn who zero es t = record {
  number = t.1;
  pair = t.2;
  at = t.3;
  reply = t.4;
  rest = [];
  split = t.6 ∙ ap (λ (xs : List StepRec). xs ++ (claim_entry who t.1 t.2 t.3 ∷ entry who (calls.Deliver t.1) t.4 ∷ [])) t.5;
  turns = refl;
}
first_turn who (suc n) es t =
    let k : FirstTurn who n t.0 = first_turn who n t.0 t.5 in
    let last : List StepRec = claim_entry who t.1 t.2 t.3 ∷ entry who (calls.Deliver t.1) t.4 ∷ [] in
    record {
      number = k.number;
      pair = k.pair;
      at = k.at;
      reply = k.reply;
      rest = k.rest ++ last;
      split = t.6 ∙ ap (λ (xs : List StepRec). xs ++ last) k.split;
      turns = (k.rest, t.1, t.2, t.3, t.4, k.turns, refl);
    }

-- an Idle alone, or one round and then fewer rounds
abbrev FirstRound : ℕ → ℕ → List StepRec → Type 0
FirstRound who n es =
    (es ≡ entry who calls.Claim Idle ∷ [])
    ⊎ ((number : ℕ) × (pair : Pair) × (at : ℕ) × (reply : Reply) × (rest : List StepRec)
    × (es ≡ claim_entry who number pair at ∷ entry who (calls.Deliver number) reply ∷ rest) × Rounds who n rest)

idle_round : (who n k : ℕ) (some es : List StepRec) → k < suc n → Turns who k some → es ≡ some ++ entry who calls.Claim Idle ∷ [] → FirstRound who n es
idle_round who n zero some es less t is = inl (is ∙ ap (λ (xs : List StepRec). xs ++ entry who calls.Claim Idle ∷ []) t)
idle_round who n (suc k) some es less t is =
    let f : FirstTurn who k some = first_turn who k some t in
    let fewer : k < n = omega (arith, less) in
    inr (
      f.number,
      f.pair,
      f.at,
      f.reply,
      f.rest ++ entry who calls.Claim Idle ∷ [],
      is ∙ ap (λ (xs : List StepRec). xs ++ entry who calls.Claim Idle ∷ []) f.split,
      inr (k, f.rest, fewer, f.turns, refl),
    )

first_round : (who n : ℕ) (es : List StepRec) → Rounds who (suc n) es → FirstRound who n es
first_round who n es (inl t) = let f : FirstTurn who n es = first_turn who n es t in inr (f.number, f.pair, f.at, f.reply, f.rest, f.split, inl f.turns)
first_round who n es (inr k) = idle_round who n k.0 k.1 es k.2 k.3 k.4

no_rounds : (who : ℕ) (es : List StepRec) → Rounds who zero es → es ≡ []
no_rounds who es (inl t) = t
no_rounds who es (inr k) = let less : k.0 < 0 = k.2 in absurd (omega (arith, less))

-- what these rounds lead to is the only legal history
abbrev IsOnly : Ground → ℕ → ℕ → (List StepRec → Done) → Type 0
IsOnly g who n more = (h es : List StepRec) → out h ≡ [] → (more h).full ≡ false → Rounds who n es → Legal g (reverse es ++ h) → reverse es ++ h ≡ (more h).history

one_round : (g : Ground) (who n : ℕ) (p : Place) (more : List StepRec → Done) → IsOnly g who n more → (h es rest : List StepRec) (number : ℕ) (pair : Pair) (at : ℕ) (reply : Reply) → out h ≡ [] →
    es ≡ claim_entry who number pair at ∷ entry who (calls.Deliver number) reply ∷ rest → Rounds who n rest → Legal g (reverse es ++ h) → (after_claim g who (claim_reply g h) h p more).full ≡ false →
    reverse es ++ h ≡ (after_claim g who (claim_reply g h) h p more).history
one_round g who n p more on h es rest number pair at reply none is r legal going =
    let first : StepRec = claim_entry who number pair at in
    let second : StepRec = entry who (calls.Deliver number) reply in
    let c : Given = record { number = number; actor = who; pair = pair; revision = at } in
    let one : out (first ∷ h) ≡ c ∷ [] = ap (λ (xs : List Given). xs ++ c ∷ []) none in
    let turned_is : reverse es ++ h ≡ reverse rest ++ (second ∷ first ∷ h) = ap (λ (xs : List StepRec). reverse xs ++ h) is ∙ turned first (second ∷ rest) h ∙ turned second rest (first ∷ h) in
    let here : Legal g (reverse rest ++ (second ∷ first ∷ h)) = subst (λ (xs : List StepRec). Legal g xs) turned_is legal in
    let both : Legal g (second ∷ first ∷ h) = legal_older g (reverse rest) (second ∷ first ∷ h) here in
    let told : Claimed number pair at ≡ claim_reply g h = both.1.0 in
    let found : both.0.0 ≡ c = only_one number (out (first ∷ h)) c both.0.0 one refl both.0.1.is_held in
    let same : second ≡ deliver_entry g who number (first ∷ h) c = ap (λ (x : Reply). entry who (calls.Deliver number) x) (both.0.2 ∙ ap (λ (x : Given). deliver_reply g (first ∷ h) x) found) in
    let delivered : after_delivery g who number (first ∷ h) ≡ second ∷ first ∷ h = delivery_is g who number (first ∷ h) c one refl refl ∙ ap (λ (x : StepRec). x ∷ first ∷ h) (sym same) in
    let leads : after_claim g who (claim_reply g h) h p more ≡ more (second ∷ first ∷ h) = ap (λ (x : Reply). after_claim g who x h p more) (sym told) ∙ ap more delivered in
    let left : out (second ∷ first ∷ h) ≡ [] = none_left number (out (first ∷ h)) c one refl in
    turned_is ∙ on (second ∷ first ∷ h) rest left (sym (ap (λ (d : Done). d.full) leads) ∙ going) r here ∙ sym (ap (λ (d : Done). d.history) leads)

round_or_idle : (g : Ground) (who n : ℕ) (p : Place) (more : List StepRec → Done) → IsOnly g who n more → (h es : List StepRec) → out h ≡ [] → FirstRound who n es → Legal g (reverse es ++ h) → (after_claim g who (claim_reply g h) h p more).full ≡ false →
    reverse es ++ h ≡ (after_claim g who (claim_reply g h) h p more).history
round_or_idle g who n p more on h es none (inl is) legal going =
    let one : reverse es ++ h ≡ entry who calls.Claim Idle ∷ h = turned_one (entry who calls.Claim Idle) es h is in
    let here : Legal g (entry who calls.Claim Idle ∷ h) = subst (λ (xs : List StepRec). Legal g xs) one legal in
    one ∙ ap (λ (x : Reply). (after_claim g who x h p more).history) here.0
round_or_idle g who n p more on h es none (inr k) legal going = one_round g who n p more on h es k.4 k.0 k.1 k.2 k.3 none k.5 k.6 legal going

rounds_only : (g : Ground) (who n : ℕ) (p : Place) → IsOnly g who n (rounds g who n p)
rounds_only g who zero p h es none going r legal = turned_none es h (no_rounds who es r)
rounds_only g who (suc n) p h es none going r legal =
    let d : Done = after_claim g who (claim_reply g h) h p (rounds g who n p) in
    let is : rounds g who (suc n) p h ≡ d = had_room g 2 h p d going in
    round_or_idle g who n p (rounds g who n p) (rounds_only g who n p) h es none (first_round who n es r) legal (sym (ap (λ (x : Done). x.full) is) ∙ going)
    ∙ sym (ap (λ (x : Done). x.history) is)

-- Lines.

began_in : Reply → ℕ
began_in (Began r) = r
began_in reply = 0

-- a line of one entry, where there was room for it
roomy_only : (g : Ground) (n : ℕ) (h es : List StepRec) (p q : Place) (e : StepRec) (d : Done) → d.history ≡ e ∷ h → es ≡ e ∷ [] → q ≡ d.place → (with_room g n h p d).full ≡ false → Goal es h q (with_room g n h p d)
roomy_only g n h es p q e d history is at going =
    let room : with_room g n h p d ≡ d = had_room g n h p d going in
    (turned_one e es h is ∙ sym history ∙ sym (ap (λ (x : Done). x.history) room), at ∙ sym (ap (λ (x : Done). x.place) room))

legal_first : (g : Ground) (e : StepRec) (es h : List StepRec) → es ≡ e ∷ [] → Legal g (reverse es ++ h) → Legal g (e ∷ h)
legal_first g e es h is legal = subst (λ (xs : List StepRec). Legal g xs) (turned_one e es h is) legal

commit_only : (g : Ground) (who : ℕ) (o : Option (ℕ × List Edit)) (p q : Place) (h es : List StepRec) (reply : Reply) → p.draft ≡ o → es ≡ commit_of who o reply → q ≡ place None p.held → Legal g (reverse es ++ h) → (commit_done g who o p h).full ≡ false → Goal es h q (commit_done g who o p h)
commit_only g who None p q h es reply draft is at legal going = (turned_none es h is, at ∙ sym (ap (λ (d : Option (ℕ × List Edit)). place d p.held) draft))
commit_only g who (Some d) p q h es reply draft is at legal going =
    let here : Legal g (entry who (calls.Commit d.0 d.1) reply ∷ h) = legal_first g (entry who (calls.Commit d.0 d.1) reply) es h is legal in
    let told : reply ≡ commit_reply g h d.0 d.1 = here.0.1 in
    roomy_only g 1 h es p q (entry who (calls.Commit d.0 d.1) (commit_reply g h d.0 d.1)) (done (entry who (calls.Commit d.0 d.1) (commit_reply g h d.0 d.1) ∷ h) (place None p.held)) refl
    (is ∙ ap (λ (x : Reply). entry who (calls.Commit d.0 d.1) x ∷ []) told) at going

give_only : (g : Ground) (who : ℕ) (o : Option (Option ℕ)) (p q : Place) (h es : List StepRec) (reply : Reply) → HeldIn who (out h) o → es ≡ deliver_of who o reply → q ≡ place p.draft None → Legal g (reverse es ++ h) → Goal es h q (give_done g who o p h)
give_only g who None p q h es reply k is at legal = (turned_none es h is, at)
give_only g who (Some None) p q h es reply k is at legal = (turned_none es h is, at)
give_only g who (Some (Some n)) p q h es reply k is at legal =
    let here : Legal g (entry who (calls.Deliver n) reply ∷ h) = legal_first g (entry who (calls.Deliver n) reply) es h is legal in
    let found : here.0.0 ≡ k.0 = only_one n (out h) k.0 here.0.0 k.1 k.2 here.0.1.is_held in
    let told : reply ≡ deliver_reply g h k.0 = here.0.2 ∙ ap (λ (x : Given). deliver_reply g h x) found in (
      turned_one (entry who (calls.Deliver n) reply) es h is ∙ ap (λ (x : Reply). entry who (calls.Deliver n) x ∷ h) told ∙ sym (delivery_is g who n h k.0 k.1 k.2 k.3),
      at,
    )

act_only : (g : Ground) (who : ℕ) (a : Act) (p q : Place) (h es : List StepRec) → may_come (is_some p.draft) (is_some p.held) a ≡ true → HeldIn who (out h) p.held → (act_done g who a p h).full ≡ false → Does who a p es q → Legal g (reverse es ++ h) → Goal es h q (act_done g who a p h)
unfolding began_in
act_only g who Begin p q h es may k going does legal =
    let here : Legal g (entry who calls.Begin (Began does.0) ∷ h) = legal_first g (entry who calls.Begin (Began does.0)) es h does.1 legal in
    let told : Began does.0 ≡ Began (revision h) = here.0 in
    roomy_only g 1 h es p q (entry who calls.Begin (Began (revision h))) (done (entry who calls.Begin (Began (revision h)) ∷ h) (place (Some (revision h, [])) p.held)) refl
    (does.1 ∙ ap (λ (x : Reply). entry who calls.Begin x ∷ []) told)
    (does.2 ∙ ap (λ (x : Reply). place (Some (began_in x, [])) p.held) told) going
act_only g who (Change e) p q h es may k going does legal = (turned_none es h does.0, does.1)
act_only g who Commit p q h es may k going does legal = commit_only g who p.draft p q h es does.0 refl does.1 does.2 legal going
act_only g who Publish p q h es may k going does legal =
    let here : Legal g (entry who calls.Publish does.0 ∷ h) = legal_first g (entry who calls.Publish does.0) es h does.1 legal in
    roomy_only g 1 h es p q (entry who calls.Publish (publish_reply g h)) (done (entry who calls.Publish (publish_reply g h) ∷ h) p) refl
    (does.1 ∙ ap (λ (x : Reply). entry who calls.Publish x ∷ []) here.0) does.2 going
act_only g who Take p q h es may k going does legal =
    let here : Legal g (entry who calls.Claim does.0 ∷ h) = legal_first g (entry who calls.Claim does.0) es h does.1 legal in
    roomy_only g 2 h es p q (entry who calls.Claim (claim_reply g h)) (done (entry who calls.Claim (claim_reply g h) ∷ h) (place p.draft (Some (number_in (claim_reply g h))))) refl
    (does.1 ∙ ap (λ (x : Reply). entry who calls.Claim x ∷ []) here.0)
    (does.2 ∙ ap (λ (x : Reply). place p.draft (Some (number_in x))) here.0) going
act_only g who Give p q h es may k going does legal = give_only g who p.held p q h es does.0 k does.1 does.2 legal
act_only g who (Work n) p q h es may k going does legal =
    let none : out h ≡ [] = none_yet who h p may k in
    let w : IsWorked who n p h (rounds g who n p h) = rounds_on g who n p h none going in
    (rounds_only g who n p h es none going does.0 legal, does.1 ∙ sym w.place)

lines_only : (g : Ground) (ls : List ScriptLine) (s : Run) (es : List StepRec) (q : Place) → HeldIn 1 (out s.history) (s.places 1).held → IsOrderly 1 (drafts (s.places 1)) (holds (s.places 1)) ls → (lines_run g ls s).full ≡ false →
    FollowsFrom 1 (s.places 1) (own 1 ls) es q → Legal g (reverse es ++ s.history) → reverse es ++ s.history ≡ (lines_run g ls s).history
lines_only g [] s es q k o going f legal = turned_none es s.history f.0
lines_only g (l ∷ ls) s es q k o going given legal =
    let d : Done = act_done g 1 l.act (s.places 1) s.history in
    let t : Run = moved 1 s d in
    let before : s.full ≡ false = lines_going g (l ∷ ls) s going in
    let is : line_run g l s ≡ t = line_is g l s before o.0 in
    let goes_on : (lines_run g ls t).full ≡ false = subst (λ (x : Run). (lines_run g ls x).full ≡ false) is going in
    let not_full : d.full ≡ false = lines_going g ls t goes_on in
    let f : FollowsFrom 1 (s.places 1) (l.act ∷ own 1 ls) es q = subst (λ (acts : List Act). FollowsFrom 1 (s.places 1) acts es q) (own_first l ls o.0) given in
    let here : List StepRec = f.1 in
    let rest : List StepRec = f.2 in
    let split : reverse es ++ s.history ≡ reverse rest ++ (reverse here ++ s.history) = ap (λ (xs : List StepRec). reverse xs ++ s.history) f.3 ∙ turned_both here rest s.history in
    let legal_all : Legal g (reverse rest ++ (reverse here ++ s.history)) = subst (λ (xs : List StepRec). Legal g xs) split legal in
    let legal_here : Legal g (reverse here ++ s.history) = legal_older g (reverse rest) (reverse here ++ s.history) legal_all in
    let one : Goes 1 l.act (s.places 1) s.history d = act_goes g 1 l.act (s.places 1) s.history o.1 k not_full in
    let first : Goal here s.history f.0 d = act_only g 1 l.act (s.places 1) f.0 s.history here o.1 k not_full f.4 legal_here in
    let follows : FollowsFrom 1 d.place (own 1 ls) rest q = subst (λ (x : Place). FollowsFrom 1 x (own 1 ls) rest q) first.1 f.5 in
    let legal_rest : Legal g (reverse rest ++ d.history) = subst (λ (x : List StepRec). Legal g (reverse rest ++ x)) first.0 legal_all in
    split ∙ ap (λ (x : List StepRec). reverse rest ++ x) first.0
    ∙ lines_only g ls t rest q one.held (order_on l.act (s.places 1) d.place one.entries ls one.does o.2) goes_on follows legal_rest
    ∙ sym (ap (λ (x : Run). (lines_run g ls x).history) is)

-- Phases.

phase_only : (g : Ground) (ls : List ScriptLine) (s : Run) (es : List StepRec) → NumberedFrom 1 g.specs → IsModel g.first → s.places 1 ≡ free → out s.history ≡ [] → IsOrderly 1 false false ls → (sync_run g (lines_run g ls s)).full ≡ false →
    IsPhaseOf ls es → Legal g (reverse es ++ s.history) → reverse es ++ s.history ≡ (sync_run g (lines_run g ls s)).history
phase_only g ls s es numbered ascending at none order going phase legal =
    let t : Run = lines_run g ls s in
    let k : HeldIn 1 (out s.history) (s.places 1).held = subst (λ (p : Place). HeldIn 1 (out s.history) p.held) (sym at) none in
    let order_here : IsOrderly 1 (drafts (s.places 1)) (holds (s.places 1)) ls = subst (λ (p : Place). IsOrderly 1 (drafts p) (holds p) ls) (sym at) order in
    let not_full : t.full ≡ false = sync_going g t going in
    let a : AreFollowed (s.places 1) ls s.history t = lines_follow g ls s k order_here not_full in
    let split : reverse es ++ s.history ≡ reverse phase.last ++ (reverse phase.own_entries ++ s.history) = ap (λ (xs : List StepRec). reverse xs ++ s.history) phase.split ∙ turned_both phase.own_entries phase.last s.history in
    let legal_all : Legal g (reverse phase.last ++ (reverse phase.own_entries ++ s.history)) = subst (λ (xs : List StepRec). Legal g xs) split legal in
    let legal_own : Legal g (reverse phase.own_entries ++ s.history) = legal_older g (reverse phase.last) (reverse phase.own_entries ++ s.history) legal_all in
    let follows : FollowsFrom 1 (s.places 1) (own 1 ls) phase.own_entries phase.follows.0 = subst (λ (p : Place). FollowsFrom 1 p (own 1 ls) phase.own_entries phase.follows.0) (sym at) phase.follows.1 in
    let lines : reverse phase.own_entries ++ s.history ≡ t.history = lines_only g ls s phase.own_entries phase.follows.0 k order_here not_full follows legal_own in
    let legal_last : Legal g (reverse phase.last ++ t.history) = subst (λ (x : List StepRec). Legal g (reverse phase.last ++ x)) lines legal_all in
    let legal_t : Legal g t.history = legal_older g (reverse phase.last) t.history legal_last in
    let last : phase.last ≡ drain_after g t.history = (drain_follows g t.history numbered ascending legal_t a.none_out).2 phase.last phase.drain legal_last in
    split ∙ ap (λ (x : List StepRec). reverse phase.last ++ x) lines ∙ ap (λ (x : List StepRec). reverse x ++ t.history) last
    ∙ sym (ap (λ (u : Run). u.history) (sync_is g t numbered ascending legal_t a.none_out going))

phases_only : (g : Ground) (ps : List Phase) (s : Run) (es : List StepRec) → NumberedFrom 1 g.specs → IsModel g.first → s.places 1 ≡ free → out s.history ≡ [] → AreOrderly 1 ps → Legal g (phases_run g ps s).history → (phases_run g ps s).full ≡ false →
    ArePhases ps es → Legal g (reverse es ++ s.history) → reverse es ++ s.history ≡ (phases_run g ps s).history
phases_only g [] s es numbered ascending at none order made going phases legal = turned_none es s.history phases
phases_only g (p ∷ ps) s es numbered ascending at none order made going phases legal =
    let u : Run = sync_run g (lines_run g p.lines s) in
    let here : List StepRec = phases.0 in
    let rest : List StepRec = phases.1 in
    let split : reverse es ++ s.history ≡ reverse rest ++ (reverse here ++ s.history) = ap (λ (xs : List StepRec). reverse xs ++ s.history) phases.2 ∙ turned_both here rest s.history in
    let legal_all : Legal g (reverse rest ++ (reverse here ++ s.history)) = subst (λ (xs : List StepRec). Legal g xs) split legal in
    let not_full : u.full ≡ false = phases_going g ps u going in
    let first : reverse here ++ s.history ≡ u.history = phase_only g p.lines s here numbered ascending at none order.0 not_full phases.3 (legal_older g (reverse rest) (reverse here ++ s.history) legal_all) in
    let made_here : Legal g u.history = legal_before g u.history (phases_run g ps u).history (phases_grow g ps u) made in
    let one : IsPhased p.lines s.history u = phase_on g p.lines s numbered ascending at none order.0 made_here not_full in
    split ∙ ap (λ (x : List StepRec). reverse rest ++ x) first
    ∙ phases_only g ps u rest numbered ascending one.at_rest one.none_out order.1 made going phases.4 (subst (λ (x : List StepRec). Legal g (reverse rest ++ x)) first legal_all)

pub only_serial : OnlySerial
only_serial g phases es numbered ascending order going k legal =
    let u : Run = phases_run g phases fresh in
    let made : Legal g u.history = subst (λ (h : List StepRec). Legal g h) (reverse-reverse u.history) (serial_is_legal g phases) in
    let from_none : Legal g (reverse es ++ []) = subst (λ (h : List StepRec). Legal g h) (sym (append-nil (reverse es))) legal in
    let is : reverse es ++ [] ≡ u.history = phases_only g phases fresh es numbered ascending refl refl order made going k from_none in
    sym (reverse-reverse es) ∙ ap (λ (h : List StepRec). reverse h) (sym (append-nil (reverse es)) ∙ is)
