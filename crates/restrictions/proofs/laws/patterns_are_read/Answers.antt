use Rattle.restrictions.proofs.BuildLaws.{patterns_are_read}
use Rattle.restrictions.proofs.laws.patterns_are_read.Goals as goal

pub returns : goal.returns
returns c = patterns_are_read
