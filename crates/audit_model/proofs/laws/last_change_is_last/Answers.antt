use Rattle.audit_model.proofs.laws.last_change_is_last.Goals as goal
use Rattle.audit_model.proofs.ChangeLaws as laws

pub returns : goal.returns
returns c = laws.last_change_is_last
