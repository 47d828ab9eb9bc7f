use Rattle.p21_read.proofs.ReadLaws.{one_value_reading}
use Rattle.p21_read.proofs.laws.one_value.Goals as goal

pub returns : goal.returns
returns c = one_value_reading
