use Rattle.tree_map.proofs.Building.{top_whole, top_pairs}
use Rattle.tree_map.proofs.root.built_root.Goals as goal

pub returns-clause-whole : goal.returns-clause-whole
returns-clause-whole g c = top_whole g.B.Tier.width g.B.Tier.pairs g.B.Tier.IsWhole c.in_ok-nodes.nodes.items c.pop.new.self.items c.in-Some.field-0-0 c.in-Some.top _ c.in_ok-nodes.ensures.nodes c.in-Some.ensures.items c.in_ok-new.ensures.ok

pub returns-clause-pairs : goal.returns-clause-pairs
returns-clause-pairs g c = top_pairs g.B.Tier.width g.B.Tier.pairs g.B.Tier.IsWhole c.in_ok-nodes.nodes.items c.pop.new.self.items c.in-Some.field-0-0 c.in-Some.top _ c.args.items.items c.in_ok-nodes.ensures.nodes c.in_ok-nodes.ensures.pairs c.requires.keys c.in-Some.ensures.items c.in_ok-new.ensures.ok
