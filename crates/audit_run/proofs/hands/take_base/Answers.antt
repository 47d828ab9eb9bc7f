use Rattle.std.proofs.Common.{◌≡◌, Option, None, option_map, arith, sym, subst}
use Rattle.model_view.specs.Views.{SnapshotView}
use Rattle.audit_run.specs.Holding.{begun_on, draft_of, drafted_by}
use Rattle.audit_run.proofs.Firsts.{none_first}
use Rattle.audit_run.proofs.HoldLaws.{draft_there}
use Rattle.audit_run.proofs.hands.take_base.Goals as goal

pub returns-in_err-place-clause-first : goal.returns-in_err-place-clause-first
returns-in_err-place-clause-first c =
    let gone : c.from_residual.result ≡ None = grind arith in
    let none = rw c.deref.ensures.value at c.in_err-place.ensures in
    subst (λ (o : Option SnapshotView). option_map (begun_on c.args.actor) o ≡ draft_of c.args.actor c.args.drafts.now.items) (sym gone)
    (sym (none_first (drafted_by c.args.actor) c.args.drafts.now.items (sym none)))

pub returns-clause-first : goal.returns-clause-first
returns-clause-first c =
    let there = rw c.deref.ensures.value at c.in_ok-place.ensures in
    draft_there c.args.actor c.args.drafts.now.items c.in_ok-place.place c.remove-base.result (sym there) c.remove-base.ensures.value
