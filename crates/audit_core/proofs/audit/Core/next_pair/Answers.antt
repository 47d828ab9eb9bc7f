use Rattle.audit_core.proofs.Entries.{claimable_is}
use Rattle.audit_core.proofs.audit.Core.next_pair.Goals as goal

pub returns : goal.returns
returns c = rw (← c.self.view_is, c.least_claimable.ensures) (claimable_is c.self.invariant)
