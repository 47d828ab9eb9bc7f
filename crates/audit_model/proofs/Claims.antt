-- What a legal history says of its claims.
use Rattle.std.proofs.Common.{◌≡◌, ℕ, ◌+◌, ◌≤◌, List, [], ◌∷◌, length, arith, refl, sym, Bool, true, not, ◌&&◌, Option, Some, None, find}
use Rattle.std.specs.List.{cons_option}
use Rattle.std.proofs.lemmas.Bool.{eq-eqb, and_from}
use Rattle.audit_model.specs.declared.commit.Edit.{Edit}
use Rattle.audit_model.specs.declared.verdict.Pair.{Pair}
use Rattle.audit_model.specs.declared.step.Given.{Given}
use Rattle.audit_model.specs.declared.step.StepRec.{StepRec}
use Rattle.audit_model.specs.declared.step.Call.{Call}
use Rattle.audit_model.specs.declared.step.Call.TheVariants.{Begin, Commit, Claim, Deliver, GiveBack, Publish}
use Rattle.audit_model.specs.declared.step.Reply.{Reply}
use Rattle.audit_model.specs.declared.step.Reply.TheVariants.{Began, Accepted, Refused, Claimed, Idle, Used, Stale, Back, Pending, Report}
use Rattle.audit_model.specs.Pairs.{same_pair, is_pair, pairs}
use Rattle.audit_model.specs.History.{Ground, model_of, commits, current, revision, accepted_by, out, used, out_after, used_by, is_out, settled, given}
use Rattle.audit_model.specs.Machine.{Legal, Answers, least_claimable, claimed}
use Rattle.audit_model.proofs.Tests.{Each, Each-found, Each-filter, Each-push, Each-weaker, list_any-found}
use Rattle.audit_model.proofs.Commits.{model_of-older, model_of-last}

-- the claim was made at a revision so far, of a pair of it
pub record IsSound (g : Ground) (cs : List (List Edit)) (c : Given) : Type 0 where
  pub early : c.revision ≤ length cs
  pub of_pair : is_pair g.specs (model_of g cs c.revision) c.pair ≡ true

pub sound_later : (g : Ground) (more : Option (List Edit)) (cs : List (List Edit)) (c : Given) → IsSound g cs c → IsSound g (cons_option more cs) c
sound_later g None cs c s = s
sound_later g (Some edits) cs c s = record { early = let h : c.revision ≤ length cs = s.early in omega arith; of_pair = rw (model_of-older g edits cs c.revision s.early) s.of_pair }

pub same_pair-refl : (p : Pair) → same_pair p p ≡ true
same_pair-refl p = and_from _ _ (eq-eqb p.spec p.spec refl) (eq-eqb p.elem p.elem refl)

-- a claim that is given is of a pair of now
sound_claim : (g : Ground) (h : List StepRec) (actor n : ℕ) (p : Pair) (r : ℕ) (o : Option Pair) → o ≡ least_claimable g h → Claimed n p r ≡ claimed o (given h + 1) (revision h) → IsSound g (commits h) (record { number = n; actor = actor; pair = p; revision = r })
sound_claim g h actor n p r None is e = cc
sound_claim g h actor n p r (Some q) is e =
    let same_p : p ≡ q = cc in
    let same_r : r ≡ revision h = cc in
    record {
      early = omega arith;
      of_pair = rw (same_r, model_of-last g (commits h), same_p) (list_any-found (λ x. not (settled g h x) && not (is_out h x)) (λ x. same_pair x q) (pairs g.specs (current g h)) q (same_pair-refl q) (sym is));
    }

abbrev AllSound : Ground → List (List Edit) → List Given → Type 0
AllSound g cs xs = Each (IsSound g cs) xs

sound_out_after : (g : Ground) (h : List StepRec) (actor : ℕ) (call : Call) (reply : Reply) → Answers g h actor call reply → AllSound g (commits h) (out h) → AllSound g (commits h) (out_after actor call reply (out h))
sound_out_after g h actor Begin reply a s = s
sound_out_after g h actor (Commit base edits) reply a s = s
sound_out_after g h actor (Deliver n) reply a s = Each-filter (IsSound g (commits h)) _ (out h) s
sound_out_after g h actor (GiveBack n) reply a s = Each-filter (IsSound g (commits h)) _ (out h) s
sound_out_after g h actor Publish reply a s = s
sound_out_after g h actor Claim (Claimed n p r) a s = Each-push (IsSound g (commits h)) (out h) _ s (sound_claim g h actor n p r (least_claimable g h) refl a)
sound_out_after g h actor Claim (Began r) a s = s
sound_out_after g h actor Claim (Accepted r) a s = s
sound_out_after g h actor Claim (Refused f) a s = s
sound_out_after g h actor Claim Idle a s = s
sound_out_after g h actor Claim Used a s = s
sound_out_after g h actor Claim (Stale k r) a s = s
sound_out_after g h actor Claim Back a s = s
sound_out_after g h actor Claim (Pending p) a s = s
sound_out_after g h actor Claim (Report r) a s = s

pub sound_out : (g : Ground) (h : List StepRec) → Legal g h → AllSound g (commits h) (out h)
sound_out g [] l = tt
sound_out g (e ∷ h) l =
    Each-weaker (IsSound g (commits h)) (IsSound g (commits (e ∷ h))) (sound_later g (accepted_by e.call e.reply) (commits h)) _
    (sound_out_after g h e.actor e.call e.reply l.0 (sound_out g h l.1))

abbrev FoundSound : Ground → List (List Edit) → Option Given → Type 0
FoundSound g cs None = Unit {0}
FoundSound g cs (Some c) = IsSound g cs c

sound_found : (g : Ground) (cs : List (List Edit)) (p : Given → Bool) (xs : List Given) → AllSound g cs xs → FoundSound g cs (find p xs)
sound_found g cs p xs s =
    let F : Option Given → Type 0 = λ o. find p xs ≡ o → FoundSound g cs o in
    let at : F (find p xs) = elim (find p xs) as F [ None ↦ λ e. tt | Some c ↦ λ e. Each-found (IsSound g cs) p xs c s e ] in
    at refl

sound_cons : (g : Ground) (cs : List (List Edit)) (o : Option Given) (xs : List Given) → FoundSound g cs o → AllSound g cs xs → AllSound g cs (cons_option o xs)
sound_cons g cs None xs f s = s
sound_cons g cs (Some c) xs f s = (f, s)

sound_used_by : (g : Ground) (h : List StepRec) (call : Call) (reply : Reply) → AllSound g (commits h) (out h) → FoundSound g (commits h) (used_by call reply (out h))
sound_used_by g h (Deliver n) Used s = sound_found g (commits h) _ (out h) s
sound_used_by g h (Deliver n) (Began r) s = tt
sound_used_by g h (Deliver n) (Accepted r) s = tt
sound_used_by g h (Deliver n) (Refused f) s = tt
sound_used_by g h (Deliver n) (Claimed m p r) s = tt
sound_used_by g h (Deliver n) Idle s = tt
sound_used_by g h (Deliver n) (Stale k r) s = tt
sound_used_by g h (Deliver n) Back s = tt
sound_used_by g h (Deliver n) (Pending p) s = tt
sound_used_by g h (Deliver n) (Report r) s = tt
sound_used_by g h Begin reply s = tt
sound_used_by g h (Commit base edits) reply s = tt
sound_used_by g h Claim reply s = tt
sound_used_by g h (GiveBack n) reply s = tt
sound_used_by g h Publish reply s = tt

pub sound_used : (g : Ground) (h : List StepRec) → Legal g h → AllSound g (commits h) (used h)
sound_used g [] l = tt
sound_used g (e ∷ h) l =
    Each-weaker (IsSound g (commits h)) (IsSound g (commits (e ∷ h))) (sound_later g (accepted_by e.call e.reply) (commits h)) _
    (sound_cons g (commits h) _ (used h) (sound_used_by g h e.call e.reply (sound_out g h l.1)) (sound_used g h l.1))
