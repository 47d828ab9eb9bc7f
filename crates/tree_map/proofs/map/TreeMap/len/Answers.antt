use Rattle.std.proofs.Common.{◌∙◌, ap, sym}
use Rattle.std.specs.FinMap as map
use Rattle.tree_map.specs.Roots.{pairs_in}
use Rattle.tree_map.specs.Top.{top}
use Rattle.tree_map.proofs.Maps.{root_ordered, len_pairs}
use Rattle.tree_map.proofs.map.TreeMap.len.Goals as goal

pub returns : goal.returns
returns g c = c.self.invariant.1 ∙ sym (len_pairs (pairs_in top.pairs c.self.inside.root) (root_ordered c.self.inside.root c.self.invariant.0).0) ∙ ap map.len c.self.view_is
