use Rattle.audit_model.proofs.laws.settled_is_pair.Goals as goal
use Rattle.audit_model.proofs.HistoryLaws as laws

pub returns : goal.returns
returns c = laws.settled_is_pair
