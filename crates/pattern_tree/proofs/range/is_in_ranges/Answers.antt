use Rattle.std.proofs.Common.{arith}
use Rattle.pattern_tree.proofs.Raising.{found_none, found_at}
use Rattle.pattern_tree.proofs.range.is_in_ranges.Goals as goal

pub returns-in-0 : goal.returns-in-0
returns-in-0 c = found_none c.args.c c.args.ranges.now c.begun.result c.in-0.is c.begun.ensures.point

pub returns-in_default : goal.returns-in_default
returns-in_default c =
    found_at c.args.c c.args.ranges.now c.begun.result _ (omega (arith, c.in_default)) c.begun.ensures.bound c.requires c.begun.ensures.point
