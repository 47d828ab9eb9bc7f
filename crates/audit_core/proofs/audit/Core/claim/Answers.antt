use Rattle.audit_core.proofs.Passing.{if_halted}
use Rattle.audit_core.proofs.audit.Core.claim.Goals as goal

pub returns-in-Some-clause-halted : goal.returns-in-Some-clause-halted
returns-in-Some-clause-halted c = if_halted c.give.new.self 2 c.give.result c.make_room.ensures.same c.give.ensures.halted
