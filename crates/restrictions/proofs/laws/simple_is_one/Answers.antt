use Rattle.restrictions.proofs.AdmitLaws.{simple_is_one}
use Rattle.restrictions.proofs.laws.simple_is_one.Goals as goal

pub returns : goal.returns
returns c = simple_is_one
