use Rattle.closure_walk.proofs.Limits as proofs
use Rattle.closure_walk.proofs.laws.closures_are_whole.Goals as goal

pub returns : goal.returns
returns c = proofs.closures_are_whole
