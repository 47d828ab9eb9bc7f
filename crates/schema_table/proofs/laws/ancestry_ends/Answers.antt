use Rattle.schema_table.proofs.LawProofs.{ancestry_ends}
use Rattle.schema_table.proofs.laws.ancestry_ends.Goals as goal

pub returns : goal.returns
returns c = ancestry_ends
