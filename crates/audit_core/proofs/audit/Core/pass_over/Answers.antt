use Rattle.std.proofs.lemmas.List.{reverse-append}
use Rattle.audit_core.proofs.Entries.{kept_stale}
use Rattle.audit_core.proofs.audit.Core.pass_over.Goals as goal

pub invariant_of-self : goal.invariant_of-self
invariant_of-self c =
    rw (c.push_reserved.ensures.entries, reverse-append, c.push_reserved.ensures.room, c.take_back.ensures.rest, c.put_back.ensures)
    (kept_stale c.args.actor c.args.number c.args.pair c.args.key.now c.args.revision c.requires.claim.claim c.self.invariant (rw (← c.self.view_is) at c.requires.claim.held) c.requires.claim.same_pair (rw (← c.self.view_is) at c.requires.lawful))
