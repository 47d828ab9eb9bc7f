use Rattle.closure_walk.proofs.Ties.{relating_plain}
use Rattle.closure_walk.proofs.laws.relating_is_plain.Goals as goal

pub returns : goal.returns
returns c = relating_plain
