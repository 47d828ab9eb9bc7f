use Rattle.audit_core.proofs.Passing.{if_halted}
use Rattle.audit_core.proofs.audit.Core.publish.Goals as goal

pub returns-in-None-clause-halted : goal.returns-in-None-clause-halted
returns-in-None-clause-halted c = if_halted c.report.new.self 1 c.report.result c.make_room.ensures.same c.report.ensures.halted
