use Rattle.std.proofs.Common.{◌≡◌, ◌++◌, take, map}
use Rattle.tree_map.specs.Pairs.{raised}
use Rattle.tree_map.specs.Roots.{seen}
use Rattle.tree_map.proofs.lowest.LowestTier.list.Given as goal

abbrev pub invariant-loop-branch : goal.invariant-loop-branch
invariant-loop-branch g l = map seen l.into.items ≡ map seen l.initial.into.items ++ raised l.from (take l.branch-index l.branch-items)
