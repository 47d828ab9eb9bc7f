use Rattle.audit_model.proofs.laws.others_not_applicable.Goals as goal
use Rattle.audit_model.proofs.Tallies as laws

pub returns : goal.returns
returns c = laws.others_not_applicable
