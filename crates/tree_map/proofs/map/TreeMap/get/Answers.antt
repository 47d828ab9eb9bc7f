use Rattle.std.proofs.Common.{◌^◌, ◌∙◌, ap, sym}
use Rattle.std.specs.FinMap as map
use Rattle.tree_map.specs.Roots.{pairs_in}
use Rattle.tree_map.specs.Top.{top}
use Rattle.tree_map.proofs.Maps.{root_ordered, too_great, get_pairs}
use Rattle.tree_map.proofs.map.TreeMap.get.Goals as goal

pub returns-then-key-ge-KEYS : goal.returns-then-key-ge-KEYS
returns-then-key-ge-KEYS g c =
    let ordered = root_ordered c.self.inside.root c.self.invariant.0 in
    sym (too_great c.args.key (2 ^ 40) (pairs_in top.pairs c.self.inside.root) c.if-key-ge-KEYS.true ordered.0 ordered.1) ∙ ap (λ m. map.get m c.args.key) c.self.view_is

pub returns : goal.returns
returns g c =
    let ordered = root_ordered c.self.inside.root c.self.invariant.0 in
    c.get_root.ensures ∙ sym (get_pairs (pairs_in top.pairs c.self.inside.root) c.args.key ordered.0) ∙ ap (λ m. map.get m c.args.key) c.self.view_is
