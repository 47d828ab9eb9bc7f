use Rattle.std.proofs.Common.{◌-◌, arith}
use Rattle.std.specs.Arc.{arc_value}
use Rattle.tree_map.proofs.Levels.{put_level}
use Rattle.tree_map.proofs.level.LevelTier.put.Goals as goal

pub returns-in_ok-put_below-in-Ok-clause-whole : goal.returns-in_ok-put_below-in-Ok-clause-whole
returns-in_ok-put_below-in-Ok-clause-whole g c =
    (put_level g.B.Tier.width g.B.Tier.pairs g.B.Tier.IsWhole g.met.B.Tier.ordered (c.args.bits - 5) c.args.key c.split-digit.result.0 c.split-digit.result.1 (arc_value c.put_below.new.below) (arc_value c.in-Ok.below) c.args.value (omega arith) c.split-digit.ensures.parts c.split-digit.ensures.rest
    c.args.self.now.branches.items c.make_room.new.node.items c.set_branch.new.node.items c.deref.result.now c.split-digit.ensures.digit c.requires.whole c.in_ok-put_below-in-Ok.ensures.whole c.make_room.ensures.same c.set_branch.ensures c.deref.ensures.value c.in-Ok.ensures.same c.in_ok-put_below-in-Ok.ensures.pairs).0

pub returns-in_ok-put_below-in-Ok-clause-pairs : goal.returns-in_ok-put_below-in-Ok-clause-pairs
returns-in_ok-put_below-in-Ok-clause-pairs g c =
    (put_level g.B.Tier.width g.B.Tier.pairs g.B.Tier.IsWhole g.met.B.Tier.ordered (c.args.bits - 5) c.args.key c.split-digit.result.0 c.split-digit.result.1 (arc_value c.put_below.new.below) (arc_value c.in-Ok.below) c.args.value (omega arith) c.split-digit.ensures.parts c.split-digit.ensures.rest
    c.args.self.now.branches.items c.make_room.new.node.items c.set_branch.new.node.items c.deref.result.now c.split-digit.ensures.digit c.requires.whole c.in_ok-put_below-in-Ok.ensures.whole c.make_room.ensures.same c.set_branch.ensures c.deref.ensures.value c.in-Ok.ensures.same c.in_ok-put_below-in-Ok.ensures.pairs).1
