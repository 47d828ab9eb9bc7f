use Rattle.express_decl.proofs.ReadLaws.{one_reading}
use Rattle.express_decl.proofs.laws.one_result.Goals as goal

pub returns : goal.returns
returns c = one_reading
