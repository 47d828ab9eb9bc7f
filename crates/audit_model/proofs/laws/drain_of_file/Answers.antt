use Rattle.audit_model.proofs.laws.drain_of_file.Goals as goal
use Rattle.audit_model.proofs.DrainLaws as laws

pub returns : goal.returns
returns c = laws.drain_of_file
