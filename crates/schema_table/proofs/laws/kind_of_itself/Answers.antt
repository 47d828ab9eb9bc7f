use Rattle.schema_table.proofs.LawProofs.{kind_of_itself}
use Rattle.schema_table.proofs.laws.kind_of_itself.Goals as goal

pub returns : goal.returns
returns c = kind_of_itself
