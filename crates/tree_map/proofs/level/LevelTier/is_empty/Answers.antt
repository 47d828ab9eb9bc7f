use Rattle.std.proofs.Common.{vec_len, sym}
use Rattle.tree_map.proofs.Levels.{empty_is}
use Rattle.tree_map.proofs.level.LevelTier.is_empty.Goals as goal

pub returns : goal.returns
returns g c = empty_is g.B.Tier.width g.B.Tier.pairs g.B.Tier.IsWhole g.met.B.Tier.ordered c.args.self.now.branches.items (vec_len c.args.self.now.branches) c.is_empty.result c.requires (sym c.args.self.now.branches.ok.0) c.is_empty.ensures
