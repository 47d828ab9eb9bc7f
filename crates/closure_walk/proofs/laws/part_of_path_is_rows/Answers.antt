use Rattle.closure_walk.proofs.TableLaws.{part_of_is_rows}
use Rattle.closure_walk.proofs.laws.part_of_path_is_rows.Goals as goal

pub returns : goal.returns
returns c = part_of_is_rows
