use Rattle.std.proofs.Common.{refl}
use Rattle.std.proofs.lemmas.List.{reverse-append}
use Rattle.model_view.specs.Answers.{given_of}
use Rattle.audit_core.proofs.Entries.{kept_back}
use Rattle.audit_core.proofs.audit.Core.give_back.Goals as goal

pub invariant_of-self : goal.invariant_of-self
invariant_of-self c =
    rw (c.push_reserved.ensures.entries, reverse-append, c.push_reserved.ensures.room, c.take_back.ensures.rest, c.number-number.ensures, c.put_back.ensures, c.pair-pair.ensures)
    (kept_back c.args.actor c.args.claim.number c.args.claim.pair (given_of c.args.actor c.args.claim) c.self.invariant (record { is_held = rw (← c.self.view_is) at c.requires; by = refl }) refl)
