use Rattle.p21_read.proofs.ReadLaws.{one_instance_reading}
use Rattle.p21_read.proofs.laws.one_instance.Goals as goal

pub returns : goal.returns
returns c = one_instance_reading
