use Rattle.restrictions.proofs.MatchLaws.{decides_matches}
use Rattle.restrictions.proofs.laws.decides_matches.Goals as goal

pub returns : goal.returns
returns c = decides_matches
