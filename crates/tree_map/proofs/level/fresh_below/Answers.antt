use Rattle.std.proofs.Common.{sym}
use Rattle.tree_map.proofs.Nodes.{all_found}
use Rattle.tree_map.proofs.level.fresh_below.Goals as goal

pub share-requires : goal.share-requires
share-requires g c = all_found g.B.Tier.IsWhole c.args.digit c.args.node.now c.in-Some.below.now c.requires.whole (sym c.in-Some.ensures)
