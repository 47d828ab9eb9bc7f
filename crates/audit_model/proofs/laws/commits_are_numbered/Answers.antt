use Rattle.audit_model.proofs.laws.commits_are_numbered.Goals as goal
use Rattle.audit_model.proofs.HistoryLaws as laws

pub returns : goal.returns
returns c = laws.commits_are_numbered
