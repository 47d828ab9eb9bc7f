use Rattle.closure_walk.proofs.Climbs as proofs
use Rattle.closure_walk.proofs.laws.ancestors_are_chains.Goals as goal

pub returns : goal.returns
returns c = proofs.ancestors_are_chains
