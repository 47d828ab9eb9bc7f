use Rattle.audit_core.proofs.Entries.{unsettled_is}
use Rattle.audit_core.proofs.audit.Core.pending_pair.Goals as goal

pub returns : goal.returns
returns c = rw (← c.self.view_is, c.least_unsettled.ensures) (unsettled_is c.self.invariant)
