use Rattle.closure_walk.proofs.Chains as chains
use Rattle.closure_walk.proofs.laws.closure_is_chains.Goals as goal

pub returns : goal.returns
returns c = chains.closure_is_chains
