use Rattle.std.proofs.Common.{◌∙◌, ap}
use Rattle.std.specs.Ordering.{nat_cmp}
use Rattle.std.specs.FinMap.{put}
use Rattle.std.specs.Arc.{arc_value}
use Rattle.tree_map.proofs.Levels.{lowest_key, lowest_set, lowest_updates}
use Rattle.tree_map.proofs.lowest.LowestTier.put.Goals as goal

pub returns-in-Ok-clause-whole : goal.returns-in-Ok-clause-whole
returns-in-Ok-clause-whole g c =
    lowest_set c.args.key c.args.value (arc_value c.in-Ok.below) c.args.self.now.level.branches.items c.set_branch.new.node.items (lowest_key c.args._bits c.args.key c.requires.bits.0 c.requires.key) c.requires.whole c.in-Ok.ensures.ok (c.set_branch.ensures ∙ ap (put nat_cmp c.args.key (arc_value c.in-Ok.below)) c.make_room.ensures.same)

pub returns-in-Ok-clause-pairs : goal.returns-in-Ok-clause-pairs
returns-in-Ok-clause-pairs g c =
    lowest_updates c.args.key c.args.value (arc_value c.in-Ok.below) c.args.self.now.level.branches.items c.set_branch.new.node.items c.in-Ok.ensures.ok (c.set_branch.ensures ∙ ap (put nat_cmp c.args.key (arc_value c.in-Ok.below)) c.make_room.ensures.same)
