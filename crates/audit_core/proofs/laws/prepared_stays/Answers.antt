use Rattle.audit_core.proofs.Passing as passing
use Rattle.audit_core.proofs.laws.prepared_stays.Goals as goal

pub returns : goal.returns
returns c = passing.prepared_stays
