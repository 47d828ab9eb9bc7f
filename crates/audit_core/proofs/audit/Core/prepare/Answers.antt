use Rattle.audit_core.proofs.Passing.{not_prepared, if_not_prepared, on_unchanged}
use Rattle.audit_core.proofs.audit.Core.prepare.Goals as goal

pub returns-in-Ok-Refused-clause-not_prepared : goal.returns-in-Ok-Refused-clause-not_prepared
returns-in-Ok-Refused-clause-not_prepared c = not_prepared c.refuse.new.self c.args.actor c.args.draft c.refuse.result c.make_room.ensures.same c.refuse.ensures.not_prepared

pub returns-in-Ok-Next-clause-not_prepared : goal.returns-in-Ok-Next-clause-not_prepared
returns-in-Ok-Next-clause-not_prepared c = if_not_prepared c.note.new.self c.args.actor c.args.draft c.note.result c.make_room.ensures.same c.note.ensures.not_prepared

pub returns-in-Ok-Next-clause-unchanged : goal.returns-in-Ok-Next-clause-unchanged
returns-in-Ok-Next-clause-unchanged c = on_unchanged c.note.new.self c.note.result c.make_room.ensures.same c.note.ensures.unchanged
