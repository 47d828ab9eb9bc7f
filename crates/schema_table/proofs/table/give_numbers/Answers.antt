use Rattle.std.proofs.Common.{◌∙◌}
use Rattle.schema_table.proofs.Checking.{indexed_parents}
use Rattle.schema_table.proofs.table.give_numbers.Goals as goal

pub returns-clause-parents : goal.returns-clause-parents
returns-clause-parents c = c.in_ok-parents.ensures ∙ indexed_parents c.args.entities.now c.in_ok-index.index c.in_ok-index.ensures
