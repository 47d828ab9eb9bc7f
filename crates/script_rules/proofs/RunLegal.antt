-- The history that phases make is legal: each reply is the machine's, a commit's base is a revision so far, and a claim is delivered
-- by the actor to whom it was given alone.
use Rattle.std.proofs.Common.{◌≡◌, ℕ, zero, suc, ◌≤◌, ◌==◌, Bool, true, false, cond, List, [], ◌∷◌, length, Option, Some, None, arith, refl, sym, subst}
use Rattle.std.specs.List.{cons_option}
use Rattle.std.proofs.lemmas.Bool.{eqb-true}
use Rattle.std.proofs.lemmas.List.{reverse-reverse}
use Rattle.audit_model.specs.declared.commit.Edit.{Edit}
use Rattle.audit_model.specs.declared.step.Given.{Given}
use Rattle.audit_model.specs.declared.step.StepRec.{StepRec}
use Rattle.audit_model.specs.declared.step.Call.TheVariants as calls
use Rattle.audit_model.specs.declared.step.Reply.{Reply}
use Rattle.audit_model.specs.declared.step.Reply.TheVariants.{Claimed}
use Rattle.audit_model.specs.declared.script.Act.{Act}
use Rattle.audit_model.specs.declared.script.Act.TheVariants.{Begin, Change, Commit, Publish, Take, Give, Work}
use Rattle.audit_model.specs.declared.script.ScriptLine.{ScriptLine}
use Rattle.audit_model.specs.declared.script.Phase.{Phase}
use Rattle.audit_model.specs.History.{Ground, accepted, commits, revision, out, claim_numbered}
use Rattle.audit_model.specs.Machine.{MayFollow, Legal, claim_reply, deliver_reply, is_full, pairs_now}
use Rattle.script_rules.specs.ScriptLines.{Place, free, drafted, entry}
use Rattle.script_rules.specs.Serial.{Done, done, ended, with_room, given_to, with_delivery, after_delivery, after_claim, rounds, commit_done, give_done, act_done, publish_done, drain_done, Run, fresh, moved, line_run, lines_run, sync_run, phases_run}
use Rattle.script_rules.specs.RunLaws.{SerialIsLegal}

-- Drafts are of a revision so far.

abbrev IsSoFar : ℕ → Option (ℕ × List Edit) → Type 0
IsSoFar r None = Unit {0}
IsSoFar r (Some d) = d.0 ≤ r

so_far_later : (r s : ℕ) (d : Option (ℕ × List Edit)) → r ≤ s → IsSoFar r d → IsSoFar s d
so_far_later r s None le h = tt
so_far_later r s (Some d) le h = omega (arith, le, h)

so_far_drafted : (r : ℕ) (e : Edit) (d : Option (ℕ × List Edit)) → IsSoFar r d → IsSoFar r (drafted e d)
so_far_drafted r e None h = tt
so_far_drafted r e (Some d) h = h

grows_by : (o : Option (List Edit)) (cs : List (List Edit)) → length cs ≤ length (cons_option o cs)
grows_by None cs = omega arith
grows_by (Some edits) cs = omega arith

pub revision_grows : (e : StepRec) (h : List StepRec) → revision h ≤ revision (e ∷ h)
revision_grows e h = grows_by (accepted e) (commits h)

-- What a line leads to from h is legal, and its draft is of a revision so far.
record IsSound (g : Ground) (h : List StepRec) (d : Done) : Type 0 where
  pub legal : Legal g d.history
  pub so_far : IsSoFar (revision d.history) d.place.draft
  pub grown : revision h ≤ revision d.history

stays_so : (g : Ground) (h : List StepRec) (p q : Place) → Legal g h → IsSoFar (revision h) q.draft → IsSound g h (done h q)
stays_so g h p q l s = record { legal = l; so_far = s; grown = omega arith }

one_more : (g : Ground) (h : List StepRec) (e : StepRec) (q : Place) → MayFollow g h e → Legal g h → IsSoFar (revision h) q.draft → IsSound g h (done (e ∷ h) q)
one_more g h e q m l s = record { legal = (m, l); so_far = so_far_later (revision h) (revision (e ∷ h)) q.draft (revision_grows e h) s; grown = revision_grows e h }

from_earlier : (g : Ground) (h k : List StepRec) (d : Done) → revision h ≤ revision k → IsSound g k d → IsSound g h d
from_earlier g h k d le s = let more : revision k ≤ revision d.history = s.grown in record { legal = s.legal; so_far = s.so_far; grown = omega (arith, le, more) }

room_sound : (g : Ground) (n : ℕ) (h : List StepRec) (p : Place) (d : Done) → Legal g h → IsSoFar (revision h) p.draft → IsSound g h d → IsSound g h (with_room g n h p d)
room_sound g n h p d l s k =
    elim (is_full g h n) as (λ b. IsSound g h (cond b (ended h p) d)) [ true ↦ record { legal = l; so_far = s; grown = omega arith } | false ↦ k ]

-- Deliveries.

record IsDelivered (g : Ground) (h k : List StepRec) : Type 0 where
  pub legal : Legal g k
  pub grown : revision h ≤ revision k

delivered_by : (g : Ground) (who n : ℕ) (h : List StepRec) (c : Given) → claim_numbered n (out h) ≡ Some c → Legal g h → (b : Bool) → (c.actor == who) ≡ b → IsDelivered g h (with_delivery g who n (cond b (Some c) None) h)
delivered_by g who n h c e l true a =
    record {
      legal = ((c, record { is_held = e; by = eqb-true c.actor who a }, refl), l);
      grown = revision_grows (entry who (calls.Deliver n) (deliver_reply g h c)) h;
    }
delivered_by g who n h c e l false a = record { legal = l; grown = omega arith }

delivered_if : (g : Ground) (who n : ℕ) (h : List StepRec) (o : Option Given) → claim_numbered n (out h) ≡ o → Legal g h → IsDelivered g h (with_delivery g who n (given_to who o) h)
delivered_if g who n h None e l = record { legal = l; grown = omega arith }
delivered_if g who n h (Some c) e l = delivered_by g who n h c e l (c.actor == who) refl

delivery_sound : (g : Ground) (who n : ℕ) (h : List StepRec) (q : Place) → Legal g h → IsSoFar (revision h) q.draft → IsSound g h (done (after_delivery g who n h) q)
delivery_sound g who n h q l s =
    let k : IsDelivered g h (after_delivery g who n h) = delivered_if g who n h (claim_numbered n (out h)) refl l in
    record { legal = k.legal; so_far = so_far_later (revision h) (revision (after_delivery g who n h)) q.draft k.grown s; grown = k.grown }

-- Rounds.

-- whatever legal history comes first, what these rounds lead to is sound
abbrev GoesOn : Ground → Place → (List StepRec → Done) → Type 0
GoesOn g p more = (h : List StepRec) → Legal g h → IsSoFar (revision h) p.draft → IsSound g h (more h)

claim_sound : (g : Ground) (who : ℕ) (reply : Reply) (h : List StepRec) (p : Place) (more : List StepRec → Done) → GoesOn g p more → reply ≡ claim_reply g h → Legal g h → IsSoFar (revision h) p.draft → IsSound g h (after_claim g who reply h p more)
claim_sound g who (Claimed n pair r) h p more on e l s =
    let first : List StepRec = entry who calls.Claim (Claimed n pair r) ∷ h in
    let one : IsSound g h (done first p) = one_more g h (entry who calls.Claim (Claimed n pair r)) p e l s in
    let two : IsSound g first (done (after_delivery g who n first) p) = delivery_sound g who n first p one.legal one.so_far in
    from_earlier g h (after_delivery g who n first) (more (after_delivery g who n first)) (let a : revision h ≤ revision first = one.grown in let b : revision first ≤ revision (after_delivery g who n first) = two.grown in omega (arith, a, b)) (on (after_delivery g who n first) two.legal two.so_far)
claim_sound g who reply h p more on e l s = one_more g h (entry who calls.Claim reply) p e l s

rounds_sound : (g : Ground) (who n : ℕ) (p : Place) → GoesOn g p (rounds g who n p)
rounds_sound g who zero p h l s = stays_so g h p p l s
rounds_sound g who (suc n) p h l s =
    room_sound g 2 h p (after_claim g who (claim_reply g h) h p (rounds g who n p)) l s (claim_sound g who (claim_reply g h) h p (rounds g who n p) (rounds_sound g who n p) refl l s)

-- Lines.

commit_sound : (g : Ground) (who : ℕ) (d : Option (ℕ × List Edit)) (p : Place) (h : List StepRec) → IsSoFar (revision h) d → Legal g h → IsSoFar (revision h) p.draft → IsSound g h (commit_done g who d p h)
commit_sound g who None p h b l s = stays_so g h p p l s
commit_sound g who (Some d) p h b l s = room_sound g 1 h p _ l s (one_more g h _ _ (b, refl) l tt)

give_sound : (g : Ground) (who : ℕ) (held : Option (Option ℕ)) (p : Place) (h : List StepRec) → Legal g h → IsSoFar (revision h) p.draft → IsSound g h (give_done g who held p h)
give_sound g who None p h l s = record { legal = l; so_far = s; grown = omega arith }
give_sound g who (Some None) p h l s = record { legal = l; so_far = s; grown = omega arith }
give_sound g who (Some (Some n)) p h l s = delivery_sound g who n h _ l s

act_sound : (g : Ground) (who : ℕ) (a : Act) (p : Place) (h : List StepRec) → Legal g h → IsSoFar (revision h) p.draft → IsSound g h (act_done g who a p h)
act_sound g who Begin p h l s = room_sound g 1 h p _ l s (one_more g h _ _ refl l (omega arith))
act_sound g who (Change e) p h l s = record { legal = l; so_far = so_far_drafted (revision h) e p.draft s; grown = omega arith }
act_sound g who Commit p h l s = commit_sound g who p.draft p h s l s
act_sound g who Publish p h l s = room_sound g 1 h p _ l s (one_more g h _ _ refl l s)
act_sound g who Take p h l s = room_sound g 2 h p _ l s (one_more g h _ _ refl l s)
act_sound g who Give p h l s = give_sound g who p.held p h l s
act_sound g who (Work n) p h l s = rounds_sound g who n p h l s

-- Drains.

publish_sound : (g : Ground) (h : List StepRec) → Legal g h → IsSound g h (publish_done g h)
publish_sound g h l = room_sound g 1 h free _ l tt (one_more g h _ _ refl l tt)

drain_sound : (g : Ground) (h : List StepRec) → Legal g h → IsSound g h (drain_done g h)
drain_sound g h l =
    let d : Done = rounds g 0 (suc (length (pairs_now g h))) free h in
    let s : IsSound g h d = rounds_sound g 0 (suc (length (pairs_now g h))) free h l tt in
    elim d.full as (λ b. IsSound g h (cond b d (publish_done g d.history))) [ true ↦ s | false ↦ from_earlier g h d.history (publish_done g d.history) s.grown (publish_sound g d.history s.legal) ]

-- Runs.

record IsRun (g : Ground) (s : Run) : Type 0 where
  pub legal : Legal g s.history
  pub so_far : (k : ℕ) → IsSoFar (revision s.history) (s.places k).draft

moved_on : (g : Ground) (who : ℕ) (s : Run) (d : Done) → IsRun g s → IsSound g s.history d → IsRun g (moved who s d)
moved_on g who s d r k =
    record {
      legal = k.legal;
      so_far = λ n. elim (n == who) as (λ b. IsSoFar (revision d.history) (cond b d.place (s.places n)).draft) [ true ↦ k.so_far | false ↦ so_far_later (revision s.history) (revision d.history) (s.places n).draft k.grown (r.so_far n) ];
    }

unless_full : (g : Ground) (b : Bool) (s t : Run) → IsRun g s → IsRun g t → IsRun g (cond b s t)
unless_full g true s t r k = r
unless_full g false s t r k = k

lines_on : (g : Ground) (ls : List ScriptLine) (s : Run) → IsRun g s → IsRun g (lines_run g ls s)
lines_on g [] s r = r
lines_on g (l ∷ ls) s r =
    lines_on g ls (line_run g l s) (unless_full g s.full s _ r (moved_on g l.editor s (act_done g l.editor l.act (s.places l.editor) s.history) r (act_sound g l.editor l.act (s.places l.editor) s.history r.legal (r.so_far l.editor))))

sync_on : (g : Ground) (s : Run) → IsRun g s → IsRun g (sync_run g s)
sync_on g s r = unless_full g s.full s _ r (moved_on g 0 s (drain_done g s.history) r (drain_sound g s.history r.legal))

phases_on : (g : Ground) (ps : List Phase) (s : Run) → IsRun g s → IsRun g (phases_run g ps s)
phases_on g [] s r = r
phases_on g (p ∷ ps) s r = phases_on g ps (sync_run g (lines_run g p.lines s)) (sync_on g (lines_run g p.lines s) (lines_on g p.lines s r))

pub serial_is_legal : SerialIsLegal
serial_is_legal g phases =
    let r : IsRun g (phases_run g phases fresh) = phases_on g phases fresh (record { legal = tt; so_far = λ k. tt }) in
    subst (λ (h : List StepRec). Legal g h) (sym (reverse-reverse (phases_run g phases fresh).history)) r.legal
