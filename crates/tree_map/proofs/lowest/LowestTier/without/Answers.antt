use Rattle.std.proofs.Common.{◌∙◌, ap}
use Rattle.tree_map.specs.Pairs.{cut}
use Rattle.tree_map.proofs.Levels.{lowest_cut, cut_updates_lowest}
use Rattle.tree_map.proofs.lowest.LowestTier.without.Goals as goal

pub returns-clause-whole : goal.returns-clause-whole
returns-clause-whole g c =
    lowest_cut c.args.key c.args.self.now.level.branches.items c.cut_branch.new.node.items c.requires.whole (c.cut_branch.ensures ∙ ap (cut c.args.key) (c.in_ok-branches.ensures ∙ c.deref.ensures.value))

pub returns-clause-pairs : goal.returns-clause-pairs
returns-clause-pairs g c =
    cut_updates_lowest c.args.key c.args.self.now.level.branches.items c.cut_branch.new.node.items (c.cut_branch.ensures ∙ ap (cut c.args.key) (c.in_ok-branches.ensures ∙ c.deref.ensures.value))
