use Rattle.audit_model.proofs.laws.dangling_is_least.Goals as goal
use Rattle.audit_model.proofs.DanglingLaws as laws

pub returns : goal.returns
returns c = laws.dangling_is_least
