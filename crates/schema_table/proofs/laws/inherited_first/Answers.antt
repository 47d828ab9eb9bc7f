use Rattle.schema_table.proofs.LawProofs.{inherited_first}
use Rattle.schema_table.proofs.laws.inherited_first.Goals as goal

pub returns : goal.returns
returns c = inherited_first
