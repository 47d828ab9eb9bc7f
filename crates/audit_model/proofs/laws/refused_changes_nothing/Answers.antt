use Rattle.audit_model.proofs.laws.refused_changes_nothing.Goals as goal
use Rattle.audit_model.proofs.HistoryLaws as laws

pub returns : goal.returns
returns c = laws.refused_changes_nothing
