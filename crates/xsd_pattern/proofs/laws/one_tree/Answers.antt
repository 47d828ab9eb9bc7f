use Rattle.xsd_pattern.proofs.ReadLaws.{one_reading}
use Rattle.xsd_pattern.proofs.laws.one_tree.Goals as goal

pub returns : goal.returns
returns c = one_reading
