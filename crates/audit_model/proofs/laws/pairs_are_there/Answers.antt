use Rattle.audit_model.proofs.laws.pairs_are_there.Goals as goal
use Rattle.audit_model.proofs.PairLaws as laws

pub returns : goal.returns
returns c = laws.pairs_are_there
