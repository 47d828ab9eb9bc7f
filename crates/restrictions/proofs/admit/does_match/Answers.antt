use Rattle.restrictions.proofs.MatchLaws.{matcher_is_test}
use Rattle.restrictions.proofs.admit.does_match.Goals as goal

pub returns : goal.returns
returns c = matcher_is_test _ _ _ c.matches.ensures
