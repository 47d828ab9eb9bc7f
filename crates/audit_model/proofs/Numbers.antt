-- The numbers of claims: those that are out are of claims given so far, so a new claim is found by its number.
use Rattle.std.proofs.Common.{◌≡◌, ℕ, ◌+◌, ◌≤◌, ◌==◌, true, false, cond, List, [], ◌∷◌, ◌++◌, Option, Some, None, arith, refl}
use Rattle.std.proofs.lemmas.Bool.{eq-eqb, ne_eqb}
use Rattle.std.proofs.lemmas.List.Sums.{sum_by-cons}
use Rattle.audit_model.specs.declared.verdict.Pair.{Pair}
use Rattle.audit_model.specs.declared.step.Given.{Given}
use Rattle.audit_model.specs.declared.step.StepRec.{StepRec}
use Rattle.audit_model.specs.declared.step.Call.{Call}
use Rattle.audit_model.specs.declared.step.Call.TheVariants.{Begin, Commit, Claim, Deliver, GiveBack, Publish}
use Rattle.audit_model.specs.declared.step.Reply.{Reply}
use Rattle.audit_model.specs.declared.step.Reply.TheVariants.{Began, Accepted, Refused, Claimed, Idle, Used, Stale, Back, Pending, Report}
use Rattle.audit_model.specs.History.{Ground, out, out_after, given, is_claimed, claim_numbered, revision}
use Rattle.audit_model.specs.Machine.{Legal, Answers, least_claimable, claimed}
use Rattle.audit_model.proofs.Tests.{Each, Each-filter, Each-push, Each-weaker}

abbrev AllTo : ℕ → List Given → Type 0
AllTo n cs = Each (λ (c : Given). c.number ≤ n) cs

more_to : (n k : ℕ) (cs : List Given) → AllTo n cs → AllTo (k + n) cs
more_to n k cs h = Each-weaker _ _ (λ (c : Given) l. omega (arith, l)) cs h

pub claim_number : (o : Option Pair) (n m r r' : ℕ) (p : Pair) → Claimed m p r ≡ claimed o n r' → m ≡ n
claim_number None n m r r' p e = cc
claim_number (Some q) n m r r' p e = cc

numbers_after : (g : Ground) (h : List StepRec) (actor : ℕ) (call : Call) (reply : Reply) → Answers g h actor call reply → AllTo (given h) (out h) → AllTo (cond (is_claimed reply) 1 0 + given h) (out_after actor call reply (out h))
numbers_after g h actor Begin reply a s = more_to (given h) _ (out h) s
numbers_after g h actor (Commit base edits) reply a s = more_to (given h) _ (out h) s
numbers_after g h actor (Deliver n) reply a s = Each-filter _ _ (out h) (more_to (given h) _ (out h) s)
numbers_after g h actor (GiveBack n) reply a s = Each-filter _ _ (out h) (more_to (given h) _ (out h) s)
numbers_after g h actor Publish reply a s = more_to (given h) _ (out h) s
numbers_after g h actor Claim (Claimed n p r) a s = Each-push _ (out h) _ (more_to (given h) 1 (out h) s) (let e : n ≡ given h + 1 = claim_number (least_claimable g h) (given h + 1) n r (revision h) p a in omega (arith, e))
numbers_after g h actor Claim (Began r) a s = more_to (given h) 0 (out h) s
numbers_after g h actor Claim (Accepted r) a s = more_to (given h) 0 (out h) s
numbers_after g h actor Claim (Refused f) a s = more_to (given h) 0 (out h) s
numbers_after g h actor Claim Idle a s = more_to (given h) 0 (out h) s
numbers_after g h actor Claim Used a s = more_to (given h) 0 (out h) s
numbers_after g h actor Claim (Stale k r) a s = more_to (given h) 0 (out h) s
numbers_after g h actor Claim Back a s = more_to (given h) 0 (out h) s
numbers_after g h actor Claim (Pending p) a s = more_to (given h) 0 (out h) s
numbers_after g h actor Claim (Report r) a s = more_to (given h) 0 (out h) s

pub out_numbers : (g : Ground) (h : List StepRec) → Legal g h → AllTo (given h) (out h)
out_numbers g [] l = tt
out_numbers g (e ∷ h) l =
    rw (sum_by-cons (λ (x : StepRec). cond (is_claimed x.reply) 1 0) e h) (numbers_after g h e.actor e.call e.reply l.0 (out_numbers g h l.1))

pub find_push : (n : ℕ) (cs : List Given) (c : Given) → AllTo n cs → c.number ≡ n + 1 → claim_numbered c.number (cs ++ c ∷ []) ≡ Some c
find_push n [] c h e = let same : (c.number == c.number) ≡ true = eq-eqb _ _ refl in rw same
find_push n (x ∷ xs) c h e = let other : (x.number == c.number) ≡ false = ne_eqb _ _ (λ k. absurd (omega (arith, h.0, e, k))) in rw other (find_push n xs c h.1 e)
