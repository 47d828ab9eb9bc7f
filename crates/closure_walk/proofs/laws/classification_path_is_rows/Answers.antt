use Rattle.closure_walk.proofs.TableLaws.{classification_is_rows}
use Rattle.closure_walk.proofs.laws.classification_path_is_rows.Goals as goal

pub returns : goal.returns
returns c = classification_is_rows
