use Rattle.schema_table.proofs.LawProofs.{fitting_has_its_parameters}
use Rattle.schema_table.proofs.laws.fitting_has_its_parameters.Goals as goal

pub returns : goal.returns
returns c = fitting_has_its_parameters
