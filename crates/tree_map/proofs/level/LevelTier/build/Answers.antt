use Rattle.tree_map.proofs.Building.{level_nodes, level_items}
use Rattle.tree_map.proofs.level.LevelTier.build.Goals as goal

pub returns-clause-nodes : goal.returns-clause-nodes
returns-clause-nodes g c = level_nodes g.B.Tier.width g.B.Tier.pairs g.B.Tier.IsWhole c.args.items.items c.in_ok-below.below.items c.in_ok-groups.groups.items c.in_ok-nodes.nodes.items c.in_ok-below.ensures.nodes c.in_ok-groups.ensures.groups c.in_ok-groups.ensures.same c.in_ok-nodes.ensures

pub returns-clause-pairs : goal.returns-clause-pairs
returns-clause-pairs g c = level_items g.B.Tier.width g.B.Tier.pairs g.B.Tier.IsWhole c.args.items.items c.in_ok-below.below.items c.in_ok-groups.groups.items c.in_ok-nodes.nodes.items c.in_ok-below.ensures.nodes c.in_ok-groups.ensures.groups c.in_ok-groups.ensures.same c.in_ok-nodes.ensures c.in_ok-below.ensures.pairs
