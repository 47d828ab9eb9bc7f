use Rattle.std.proofs.Common.{◌≡◌, Option, None, option_map, arith, sym, subst}
use Rattle.model_view.specs.Views.{ClaimView}
use Rattle.audit_run.specs.Holding.{taken_as, claim_of, taken_by}
use Rattle.audit_run.proofs.Firsts.{none_first}
use Rattle.audit_run.proofs.HoldLaws.{claim_there}
use Rattle.audit_run.proofs.hands.take_claim.Goals as goal

pub returns-in_err-place-clause-first : goal.returns-in_err-place-clause-first
returns-in_err-place-clause-first c =
    let gone : c.from_residual.result ≡ None = grind arith in
    let none = rw c.deref.ensures.value at c.in_err-place.ensures in
    subst (λ (o : Option ClaimView). option_map (taken_as c.args.actor) o ≡ claim_of c.args.actor c.args.claims.now.items) (sym gone)
    (sym (none_first (taken_by c.args.actor) c.args.claims.now.items (sym none)))

pub returns-clause-first : goal.returns-clause-first
returns-clause-first c =
    let there = rw c.deref.ensures.value at c.in_ok-place.ensures in
    claim_there c.args.actor c.args.claims.now.items c.in_ok-place.place c.remove-claim.result (sym there) c.remove-claim.ensures.value
