use Rattle.std.proofs.Common.{◌∙◌}
use Rattle.std.specs.Ordering.{nat_cmp}
use Rattle.std.specs.FinMap.{entries-from_sorted}
use Rattle.tree_map.specs.Roots.{pairs_in}
use Rattle.tree_map.specs.Top.{top}
use Rattle.tree_map.proofs.Maps.{root_ordered}
use Rattle.tree_map.proofs.map.TreeMap.of_ascending.Goals as goal

pub returns : goal.returns
returns g c = entries-from_sorted nat_cmp (pairs_in top.pairs c.in_ok-root.root) (root_ordered c.in_ok-root.root c.in_ok-root.ensures.whole).0 ∙ c.in_ok-root.ensures.pairs
