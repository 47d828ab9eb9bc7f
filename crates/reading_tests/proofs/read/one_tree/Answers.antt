use Rattle.reading_tests.proofs.ReadLaws.{one_reading}
use Rattle.reading_tests.proofs.read.one_tree.Goals as goal

pub returns : goal.returns
returns c = one_reading
