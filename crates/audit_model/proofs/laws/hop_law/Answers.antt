use Rattle.audit_model.proofs.laws.hop_law.Goals as goal
use Rattle.audit_model.proofs.NeedLaws as laws

pub returns : goal.returns
returns c = laws.hop_law
