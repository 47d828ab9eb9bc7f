use Rattle.audit_model.proofs.laws.needs_ascend.Goals as goal
use Rattle.audit_model.proofs.NeedOrder as laws

pub returns : goal.returns
returns c = laws.needs_ascend
