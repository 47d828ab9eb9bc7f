use Rattle.audit_model.proofs.laws.pairs_ascend.Goals as goal
use Rattle.audit_model.proofs.PairOrder as laws

pub returns : goal.returns
returns c = laws.pairs_ascend
