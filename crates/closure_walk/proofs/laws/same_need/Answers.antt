use Rattle.closure_walk.proofs.Keys as keys
use Rattle.closure_walk.proofs.laws.same_need.Goals as goal

pub returns : goal.returns
returns c = keys.same_need
