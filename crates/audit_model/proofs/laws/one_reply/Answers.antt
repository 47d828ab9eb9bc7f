use Rattle.audit_model.proofs.laws.one_reply.Goals as goal
use Rattle.audit_model.proofs.HistoryLaws as laws

pub returns : goal.returns
returns c = laws.one_reply
