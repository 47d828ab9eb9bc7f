use Rattle.audit_model.proofs.laws.settled_by_delivery.Goals as goal
use Rattle.audit_model.proofs.HistoryLaws as laws

pub returns : goal.returns
returns c = laws.settled_by_delivery
