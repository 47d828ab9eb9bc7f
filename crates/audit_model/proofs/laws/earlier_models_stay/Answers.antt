use Rattle.audit_model.proofs.laws.earlier_models_stay.Goals as goal
use Rattle.audit_model.proofs.HistoryLaws as laws

pub returns : goal.returns
returns c = laws.earlier_models_stay
