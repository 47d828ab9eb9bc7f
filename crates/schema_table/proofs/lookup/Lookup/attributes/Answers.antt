use Rattle.std.proofs.Common.{sym}
use Rattle.schema_table.proofs.Lookups.{declared_here, declared_nowhere}
use Rattle.schema_table.proofs.lookup.Lookup.attributes.Goals as goal

pub returns-in-Some-clause-declared : goal.returns-in-Some-clause-declared
returns-in-Some-clause-declared c = declared_here c.args.self.now c.args.entity.now c.in-Some.number (sym c.in-Some.ensures)

pub returns-in-None-clause-declared : goal.returns-in-None-clause-declared
returns-in-None-clause-declared c = declared_nowhere c.args.self.now c.args.entity.now (sym c.in-None.ensures)
