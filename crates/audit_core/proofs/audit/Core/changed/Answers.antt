use Rattle.audit_core.proofs.Entries.{changed_is}
use Rattle.audit_core.proofs.audit.Core.changed.Goals as goal

pub returns : goal.returns
returns c = rw (← c.self.view_is, c.first_changed.ensures) (changed_is c.self.invariant _ _)
