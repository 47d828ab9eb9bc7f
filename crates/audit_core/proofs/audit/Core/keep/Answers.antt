use Rattle.std.proofs.Common.{◌∙◌, refl}
use Rattle.std.proofs.lemmas.List.{reverse-append}
use Rattle.model_view.specs.Answers.{given_of}
use Rattle.audit_core.proofs.Entries.{kept_used}
use Rattle.audit_core.proofs.Uses.{changed_of, found_now}
use Rattle.audit_core.proofs.audit.Core.keep.Goals as goal

pub invariant_of-self-in-Ok : goal.invariant_of-self-in-Ok
invariant_of-self-in-Ok c =
    let whole = rw (← c.self.view_is) at c.requires.finding in
    let true_finding = rw c.into_parts-claim.ensures at whole in
    let whole_needs = rw (← c.self.view_is) at c.requires.unchanged in
    let unchanged = rw c.into_parts-claim.ensures at whole_needs in
    let none = changed_of true_finding ∙ unchanged in
    rw (c.push_reserved.ensures.entries, reverse-append, c.push_reserved.ensures.room, c.take_back.ensures.rest, c.put_back.ensures, c.in-Ok.ensures.rows, c.number-number.ensures, c.pair-pair.ensures, c.pair.ensures)
    (kept_used c.args.actor _ _ _ (given_of c.args.actor c.into_parts-claim.result.0) c.self.invariant (record { is_held = true_finding.is_out; by = refl }) refl none (found_now c.self.invariant.legal true_finding none))
