-- Laws of legal histories.
use Rattle.std.proofs.Common.{◌≡◌, ℕ, suc, ◌+◌, ◌≤◌, Bool, true, false, ◌&&◌, ◌||◌, nat_le, if◌then◌else◌, ◌⊎◌, inl, inr, List, [], ◌∷◌, ◌++◌, length, Option, Some, None, refl, arith, ap, sym, subst, ◌∙◌}
use Rattle.std.specs.List.{cons_option}
use Rattle.std.proofs.lemmas.Bool.{and_parts}
use Rattle.audit_model.specs.declared.commit.Edit.{Edit}
use Rattle.audit_model.specs.declared.commit.CommitRefusal.{CommitRefusal}
use Rattle.audit_model.specs.declared.verdict.Pair.{Pair}
use Rattle.audit_model.specs.declared.step.Given.{Given}
use Rattle.audit_model.specs.declared.step.StepRec.{StepRec}
use Rattle.audit_model.specs.declared.step.Call.{Call}
use Rattle.audit_model.specs.declared.step.Call.TheVariants.{Begin, Commit, Claim, Deliver, GiveBack, Publish}
use Rattle.audit_model.specs.declared.step.Reply.{Reply}
use Rattle.audit_model.specs.declared.step.Reply.TheVariants.{Began, Accepted, Refused, Claimed, Idle, Used, Stale, Back, Pending, Report}
use Rattle.audit_model.specs.Models.{IsModel}
use Rattle.audit_model.specs.Edits.{apply}
use Rattle.audit_model.specs.Pairs.{same_pair}
use Rattle.audit_model.specs.Judging.{judge}
use Rattle.audit_model.specs.History.{Ground, AllModels, model_after, model_of, accepted, accepted_by, commits, revision, current, last_change, out, used, used_by, settled, settled_by, stands_by}
use Rattle.audit_model.specs.Machine.{Answers, MayFollow, Legal, committed, claimed, delivered, published}
use Rattle.ifc_base.specs.declared.key.Key.{Key}
use Rattle.audit_model.specs.Laws.{CommitsAreNumbered, accepted_as, down_from, OneReply, CallsDetermine, calls, ModelsAscend, RefusedChangesNothing, IsUsedDelivery, SettledByDelivery, EarlierModelsStay, SettledIsPair}
use Rattle.audit_model.proofs.Apart.{same_pair-true}
use Rattle.audit_model.proofs.Commits.{model_of-older}
use Rattle.audit_model.proofs.Claims.{sound_used}
use Rattle.audit_model.proofs.EditLaws.{model_applied}
use Rattle.audit_model.proofs.PairLaws.{settled_pair}

-- One reply.

pub same_some : (o : Option Given) (c d : Given) → o ≡ Some c → o ≡ Some d → c ≡ d
same_some o c d e f = let k : Some c ≡ Some d = sym e ∙ f in cc

pub one_reply : OneReply
one_reply g h actor Begin r s a b = a ∙ sym b
one_reply g h actor (Commit base edits) r s a b = a.1 ∙ sym b.1
one_reply g h actor Claim r s a b = a ∙ sym b
one_reply g h actor (Deliver n) r s (c, p, a) (d, q, b) =
    let same : c ≡ d = same_some _ c d p.is_held q.is_held in
    a ∙ rw (same, b)
one_reply g h actor (GiveBack n) r s (c, p, a) (d, q, b) = a ∙ sym b
one_reply g h actor Publish r s a b = a ∙ sym b

same_entry : (g : Ground) (h : List StepRec) (e f : StepRec) → e.actor ≡ f.actor → e.call ≡ f.call → MayFollow g h e → MayFollow g h f → e ≡ f
same_entry g h e f a c l m =
    let m' : Answers g h e.actor e.call f.reply = rw (a, c) m in
    let r : e.reply ≡ f.reply = one_reply g h e.actor e.call e.reply f.reply l m' in
    λ i. record { actor = a i; call = c i; reply = r i }

pub calls_determine : CallsDetermine
calls_determine g [] [] l m s = refl
calls_determine g [] (f ∷ k) l m s = absurd (cc)
calls_determine g (e ∷ h) [] l m s = absurd (cc)
calls_determine g (e ∷ h) (f ∷ k) l m s =
    let one : ℕ × Call = (e.actor, e.call) in
    let other : ℕ × Call = (f.actor, f.call) in
    let head : one ≡ other = cc in
    let rest : calls h ≡ calls k = cc in
    let same : h ≡ k = calls_determine g h k l.1 m.1 rest in
    let first : e ≡ f = same_entry g h e f (ap (λ (t : ℕ × Call). t.0) head) (ap (λ (t : ℕ × Call). t.1) head) l.0 (rw same m.0) in
    λ i. first i ∷ same i

-- Numbers of commits.

committed_as : (o : Option CommitRefusal) (r n : ℕ) → Accepted r ≡ committed o n → r ≡ n
committed_as None r n e = cc
committed_as (Some f) r n e = absurd (cc)

no_claim : (o : Option Pair) (r number n : ℕ) → Accepted r ≡ claimed o number n → ⊥
no_claim None r number n e = cc
no_claim (Some p) r number n e = cc

no_delivery : (o : Option Key) (last : Key → ℕ) (r : ℕ) → Accepted r ≡ delivered o last → ⊥
no_delivery None last r e = cc
no_delivery (Some k) last r e = cc

no_report : (o : Option Pair) (r n : ℕ) → Accepted r ≡ published o n → ⊥
no_report None r n e = cc
no_report (Some p) r n e = cc

numbered_after : (g : Ground) (h : List StepRec) (actor : ℕ) (call : Call) (reply : Reply) → Answers g h actor call reply
    → cons_option (accepted_as reply) (down_from (revision h)) ≡ down_from (length (cons_option (accepted_by call reply) (commits h)))
numbered_after g h actor call (Began r) a = refl
numbered_after g h actor call (Refused f) a = refl
numbered_after g h actor call (Claimed n p r) a = refl
numbered_after g h actor call Idle a = refl
numbered_after g h actor call Used a = refl
numbered_after g h actor call (Stale k r) a = refl
numbered_after g h actor call Back a = refl
numbered_after g h actor call (Pending p) a = refl
numbered_after g h actor call (Report r) a = refl
numbered_after g h actor Begin (Accepted r) a = absurd (cc)
numbered_after g h actor Claim (Accepted r) a = absurd (no_claim _ r _ _ a)
numbered_after g h actor (Deliver n) (Accepted r) (c, p, a) = absurd (no_delivery _ _ r a)
numbered_after g h actor (GiveBack n) (Accepted r) (c, p, a) = absurd (cc)
numbered_after g h actor Publish (Accepted r) a = absurd (no_report _ r _ a)
numbered_after g h actor (Commit base edits) (Accepted r) a =
    let next : r ≡ revision h + 1 = committed_as _ r (revision h + 1) a.1 in
    let is : r ≡ suc (revision h) = omega (arith, next) in
    ap (λ (n : ℕ). n ∷ down_from (revision h)) is

pub commits_are_numbered : CommitsAreNumbered
commits_are_numbered g [] l = refl
commits_are_numbered g (e ∷ h) l =
    ap (λ (ns : List ℕ). cons_option (accepted_as e.reply) ns) (commits_are_numbered g h l.1) ∙ numbered_after g h e.actor e.call e.reply l.0

-- Models.

committed_none : (o : Option CommitRefusal) (r n : ℕ) → Accepted r ≡ committed o n → o ≡ None
committed_none None r n e = refl
committed_none (Some f) r n e = absurd (cc)

models_after : (g : Ground) (h : List StepRec) (actor : ℕ) (call : Call) (reply : Reply) → Answers g h actor call reply → IsModel (model_after g (commits h)) → AllModels g (commits h) → AllModels g (cons_option (accepted_by call reply) (commits h))
models_after g h actor call (Began r) a m s = s
models_after g h actor call (Refused f) a m s = s
models_after g h actor call (Claimed n p r) a m s = s
models_after g h actor call Idle a m s = s
models_after g h actor call Used a m s = s
models_after g h actor call (Stale k r) a m s = s
models_after g h actor call Back a m s = s
models_after g h actor call (Pending p) a m s = s
models_after g h actor call (Report r) a m s = s
models_after g h actor Begin (Accepted r) a m s = s
models_after g h actor Claim (Accepted r) a m s = s
models_after g h actor (Deliver n) (Accepted r) a m s = s
models_after g h actor (GiveBack n) (Accepted r) a m s = s
models_after g h actor Publish (Accepted r) a m s = s
models_after g h actor (Commit base edits) (Accepted r) a m s =
    let judged : judge g.schema g.limits (revision h) (last_change g h) base (current g h) edits ≡ None = committed_none _ r _ a.1 in
    (model_applied g.schema g.limits (revision h) (last_change g h) base (current g h) edits judged m, s)

pub newest_model : (g : Ground) (cs : List (List Edit)) → AllModels g cs → IsModel (model_after g cs)
newest_model g [] s = s
newest_model g (edits ∷ cs) s = s.0

-- the models of a legal history are models
pub all_models : (g : Ground) (h : List StepRec) → IsModel g.first → Legal g h → AllModels g (commits h)
all_models g [] m l = m
all_models g (e ∷ h) m l =
    let before : AllModels g (commits h) = all_models g h m l.1 in
    models_after g h e.actor e.call e.reply l.0 (newest_model g (commits h) before) before

model_of_one : (g : Ground) (cs : List (List Edit)) (r : ℕ) → AllModels g cs → IsModel (model_of g cs r)
model_of_one g [] r s = s
model_of_one g (edits ∷ cs) r s =
    elim (nat_le r (length cs)) as (λ b. IsModel (if b then model_of g cs r else apply g.schema (model_after g cs) edits)) [ true ↦ model_of_one g cs r s.1 | false ↦ s.0 ]

pub models_ascend : ModelsAscend
models_ascend g h r m l = model_of_one g (commits h) r (all_models g h m l)

earlier_one : (g : Ground) (o : Option (List Edit)) (cs : List (List Edit)) (r : ℕ) → r ≤ length cs → model_of g (cons_option o cs) r ≡ model_of g cs r
earlier_one g None cs r le = refl
earlier_one g (Some edits) cs r le = model_of-older g edits cs r le

grows : {X : Type 0} (o : Option X) (cs : List X) (r : ℕ) → r ≤ length cs → r ≤ length (cons_option o cs)
grows None cs r le = le
grows (Some x) cs r le = omega (arith, le)

still_early : (later h : List StepRec) (r : ℕ) → r ≤ revision h → r ≤ revision (later ++ h)
still_early [] h r le = le
still_early (e ∷ es) h r le = grows (accepted e) (commits (es ++ h)) r (still_early es h r le)

pub earlier_models_stay : EarlierModelsStay
earlier_models_stay g [] h r le = refl
earlier_models_stay g (e ∷ es) h r le = earlier_one g (accepted e) (commits (es ++ h)) r (still_early es h r le) ∙ earlier_models_stay g es h r le

-- Refused commits.

pub refused_changes_nothing : RefusedChangesNothing
refused_changes_nothing g h actor base edits refusal =
    record { same_revision = refl; same_model = refl; same_models = λ r. refl; same_changes = λ k. refl; same_settled = λ p. refl; same_out = refl }

-- Settled pairs.

used_delivery : (h : List StepRec) (actor : ℕ) (call : Call) (reply : Reply) (c : Given) → used_by call reply (out h) ≡ Some c → IsUsedDelivery h (record { actor = actor; call = call; reply = reply }) c.pair
used_delivery h actor (Deliver n) Used c e = record { number = n; claim = c; delivers = refl; is_used = refl; was_out = e; of_pair = refl }
used_delivery h actor (Deliver n) (Began r) c e = absurd (cc)
used_delivery h actor (Deliver n) (Accepted r) c e = absurd (cc)
used_delivery h actor (Deliver n) (Refused f) c e = absurd (cc)
used_delivery h actor (Deliver n) (Claimed m p r) c e = absurd (cc)
used_delivery h actor (Deliver n) Idle c e = absurd (cc)
used_delivery h actor (Deliver n) (Stale k r) c e = absurd (cc)
used_delivery h actor (Deliver n) Back c e = absurd (cc)
used_delivery h actor (Deliver n) (Pending p) c e = absurd (cc)
used_delivery h actor (Deliver n) (Report r) c e = absurd (cc)
used_delivery h actor Begin reply c e = absurd (cc)
used_delivery h actor (Commit base edits) reply c e = absurd (cc)
used_delivery h actor Claim reply c e = absurd (cc)
used_delivery h actor (GiveBack n) reply c e = absurd (cc)
used_delivery h actor Publish reply c e = absurd (cc)

either_true : (a b : Bool) → (a || b) ≡ true → (a ≡ true) ⊎ (b ≡ true)
either_true true b e = inl refl
either_true false b e = inr e

settled_more : (g : Ground) (h : List StepRec) (e : StepRec) (p : Pair) (o : Option Given) → used_by e.call e.reply (out h) ≡ o → settled_by g (commits h) (cons_option o (used h)) p ≡ true → (settled g h p ≡ true) ⊎ IsUsedDelivery h e p
settled_more g h e p None is s = inl s
settled_more g h e p (Some c) is s =
    elim (either_true (same_pair c.pair p && stands_by g (commits h) c) _ s) [
      | inl here ↦ inr (subst (λ (q : Pair). IsUsedDelivery h e q) (same_pair-true c.pair p (and_parts _ _ here).0) (used_delivery h e.actor e.call e.reply c is))
      | inr before ↦ inl before
    ]

pub settled_by_delivery : SettledByDelivery
settled_by_delivery g h e p none s =
    settled_more g h e p (used_by e.call e.reply (out h)) refl
    (subst (λ (o : Option (List Edit)). settled_by g (cons_option o (commits h)) (used (e ∷ h)) p ≡ true) none s)

pub settled_is_pair : SettledIsPair
settled_is_pair g h p m l s = settled_pair g (commits h) (used h) p (all_models g h m l) (sound_used g h l) s
