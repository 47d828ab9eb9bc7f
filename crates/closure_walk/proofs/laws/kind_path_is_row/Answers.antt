use Rattle.closure_walk.proofs.Ties.{kind_row_same}
use Rattle.closure_walk.proofs.laws.kind_path_is_row.Goals as goal

pub returns : goal.returns
returns c = kind_row_same
