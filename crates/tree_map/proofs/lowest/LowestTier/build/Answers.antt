use Rattle.tree_map.proofs.Building.{lowest_nodes, lowest_items}
use Rattle.tree_map.proofs.lowest.LowestTier.build.Goals as goal

pub returns-clause-nodes : goal.returns-clause-nodes
returns-clause-nodes g c = lowest_nodes c.args.items.items c.in_ok-groups.groups.items c.in_ok-nodes.nodes.items c.in_ok-groups.ensures.groups c.in_ok-groups.ensures.same c.in_ok-nodes.ensures

pub returns-clause-pairs : goal.returns-clause-pairs
returns-clause-pairs g c = lowest_items c.args.items.items c.in_ok-groups.groups.items c.in_ok-nodes.nodes.items c.in_ok-groups.ensures.groups c.in_ok-groups.ensures.same c.in_ok-nodes.ensures
