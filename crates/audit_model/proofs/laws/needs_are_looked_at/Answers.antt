use Rattle.audit_model.proofs.laws.needs_are_looked_at.Goals as goal
use Rattle.audit_model.proofs.NeedLaws as laws

pub returns : goal.returns
returns c = laws.needs_are_looked_at
