use Rattle.schema_table.proofs.LawProofs.{own_attributes_last}
use Rattle.schema_table.proofs.laws.own_attributes_last.Goals as goal

pub returns : goal.returns
returns c = own_attributes_last
