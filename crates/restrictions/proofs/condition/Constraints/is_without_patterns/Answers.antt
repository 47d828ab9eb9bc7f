use Rattle.std.proofs.Common.{◌≡◌, ◌==◌, length}
use Rattle.restrictions.proofs.AdmitLaws.{without_patterns}
use Rattle.restrictions.proofs.condition.Constraints.is_without_patterns.Goals as goal

pub returns : goal.returns
returns c number =
    let e : c.is_empty.result ≡ (length c.args.self.now.patterns == 0) = cc in
    without_patterns c.args.self.now c.is_empty.result number e
