use Rattle.std.proofs.Common.{◌≡◌, take}
use Rattle.tree_map.proofs.node.share_node.Given as goal

abbrev pub invariant-loop-branch : goal.invariant-loop-branch
invariant-loop-branch g l = l.shared.items ≡ take l.branch-index l.node
