use Rattle.audit_model.proofs.laws.calls_determine.Goals as goal
use Rattle.audit_model.proofs.HistoryLaws as laws

pub returns : goal.returns
returns c = laws.calls_determine
