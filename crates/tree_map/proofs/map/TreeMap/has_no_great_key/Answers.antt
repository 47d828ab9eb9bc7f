use Rattle.std.proofs.Common.{◌^◌, ◌∙◌, ap, sym}
use Rattle.std.specs.FinMap as map
use Rattle.tree_map.specs.Roots.{pairs_in}
use Rattle.tree_map.specs.Top.{top}
use Rattle.tree_map.proofs.Maps.{root_ordered, too_great, kept}
use Rattle.tree_map.proofs.map.TreeMap.has_no_great_key.Goals as goal

pub returns-clause-none : goal.returns-clause-none
returns-clause-none g c = λ key l.
    let ordered = root_ordered c.self.inside.root c.self.invariant.0 in
    ap (λ m. map.get m key) (sym c.self.view_is) ∙ too_great key (2 ^ 40) (pairs_in top.pairs c.self.inside.root) l ordered.0 ordered.1

pub returns-clause-same : goal.returns-clause-same
returns-clause-same g c = λ key l.
    let ordered = root_ordered c.self.inside.root c.self.invariant.0 in
    sym (kept c.args.self.now key (ap (λ m. map.get m key) (sym c.self.view_is) ∙ too_great key (2 ^ 40) (pairs_in top.pairs c.self.inside.root) l ordered.0 ordered.1))
