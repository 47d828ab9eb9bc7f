use Rattle.std.proofs.Common.{◌∙◌, ap, sym}
use Rattle.std.specs.Ordering.{nat_cmp}
use Rattle.std.specs.FinMap.{entries, entries-from_sorted}
use Rattle.tree_map.specs.Roots.{pairs_in}
use Rattle.tree_map.specs.Top.{top}
use Rattle.tree_map.proofs.Maps.{root_ordered}
use Rattle.tree_map.proofs.map.TreeMap.walk.Goals as goal

pub returns : goal.returns
returns g c =
    let ordered = root_ordered c.self.inside.root c.self.invariant.0 in
    c.new.ensures ∙ c.in_ok-pairs.ensures ∙ sym (entries-from_sorted nat_cmp (pairs_in top.pairs c.self.inside.root) ordered.0) ∙ ap entries c.self.view_is
