use Rattle.audit_model.proofs.laws.needs_cover_verdict.Goals as goal
use Rattle.audit_model.proofs.Frame as laws

pub returns : goal.returns
returns c = laws.stays
