use Rattle.audit_model.proofs.laws.own_hides_types.Goals as goal
use Rattle.audit_model.proofs.NeedOrder as laws

pub returns : goal.returns
returns c = laws.own_hides_types
