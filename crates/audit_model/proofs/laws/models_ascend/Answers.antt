use Rattle.audit_model.proofs.laws.models_ascend.Goals as goal
use Rattle.audit_model.proofs.HistoryLaws as laws

pub returns : goal.returns
returns c = laws.models_ascend
