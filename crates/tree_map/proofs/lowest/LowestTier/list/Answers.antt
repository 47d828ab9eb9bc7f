use Rattle.std.proofs.Common.{◌+◌, map, ap}
use Rattle.tree_map.specs.Roots.{seen}
use Rattle.tree_map.proofs.Listing.{list_pair, push_pair}
use Rattle.tree_map.proofs.lowest.LowestTier.list.Goals as goal

pub loop-branch-preserved : goal.loop-branch-preserved
loop-branch-preserved g c =
    list_pair c.args.from (map seen c.args.into.now.items) (map seen c.loop-branch.into.items) (map seen c.push.new.self.items) c.deref-branch-items.result.now c.loop-branch.branch-index c.branch-item.result c.loop-branch-test.true c.branch-item.is
    c.loop-branch.invariant
    (push_pair c.loop-branch.into.items c.push.new.self.items (c.args.from + c.digit.result, c.below.result) (c.args.from + c.branch-item.result.0) c.branch-item.result.1 c.in_ok-push.ensures.items (ap (λ n. c.args.from + n) c.digit.ensures) c.below.ensures)
