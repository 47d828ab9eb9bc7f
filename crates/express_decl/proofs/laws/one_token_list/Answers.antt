use Rattle.express_decl.proofs.StepLaws.{one_list}
use Rattle.express_decl.proofs.laws.one_token_list.Goals as goal

pub returns : goal.returns
returns c = one_list
