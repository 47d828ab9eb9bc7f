use Rattle.closure_walk.proofs.TableLaws.{material_is_rows}
use Rattle.closure_walk.proofs.laws.material_path_is_rows.Goals as goal

pub returns : goal.returns
returns c = material_is_rows
