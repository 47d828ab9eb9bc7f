use Rattle.std.proofs.Common.{◌≡◌, ◌++◌, ◌^◌, take, map}
use Rattle.tree_map.specs.Pairs.{joined, raised}
use Rattle.tree_map.specs.Roots.{seen}
use Rattle.tree_map.proofs.level.LevelTier.list.Given as goal

abbrev pub invariant-loop-branch : goal.invariant-loop-branch
invariant-loop-branch g l = map seen l.into.items ≡ map seen l.initial.into.items ++ raised l.from (joined (2 ^ g.B.Tier.width) g.B.Tier.pairs (take l.branch-index l.branch-items))
