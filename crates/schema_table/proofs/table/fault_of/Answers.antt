use Rattle.std.proofs.Common.{◌∙◌, sym}
use Rattle.schema_table.proofs.Checking.{names_first, cycle_last}
use Rattle.schema_table.proofs.table.fault_of.Goals as goal

pub returns-in-Some : goal.returns-in-Some
returns-in-Some c = names_first c.args.entities.now c.in-Some.fault (sym c.in-Some.is ∙ c.in_ok-fault.ensures)

pub returns : goal.returns
returns c = cycle_last c.args.entities.now c.in_ok-fault-2.fault (sym c.in_default.is ∙ c.in_ok-fault.ensures) c.in_ok-fault-2.ensures
