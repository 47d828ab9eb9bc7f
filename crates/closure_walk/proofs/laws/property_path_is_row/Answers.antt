use Rattle.closure_walk.proofs.PropertyRow.{property_row_same}
use Rattle.closure_walk.proofs.laws.property_path_is_row.Goals as goal

pub returns : goal.returns
returns c = property_row_same
