use Rattle.std.proofs.Common.{◌≡◌, ◌∙◌, ap, Some}
use Rattle.std.specs.FinMap as map
use Rattle.std.specs.Ordering.{nat_cmp}
use Rattle.tree_map.specs.Roots.{pairs_in}
use Rattle.tree_map.specs.Top.{top}
use Rattle.tree_map.proofs.Maps.{root_ordered, inserted, count_with}
use Rattle.tree_map.proofs.map.TreeMap.with.Goals as goal

pub invariant_of-result : goal.invariant_of-result
invariant_of-result g c =
    let before = root_ordered c.self.inside.root c.self.invariant.0 in
    let after = root_ordered (Some c.in_ok-root.root) c.in_ok-root.ensures.whole in
    let made : map.from_sorted {R = nat_cmp} (pairs_in top.pairs (Some c.in_ok-root.root)) ≡ map.insert c.args.self.now c.args.key c.args.value =
    inserted c.args.key c.args.value (pairs_in top.pairs c.self.inside.root) (pairs_in top.pairs (Some c.in_ok-root.root)) before.0 after.0 c.in_ok-root.ensures.pairs ∙ ap (λ m. map.insert m c.args.key c.args.value) c.self.view_is in
    (c.in_ok-root.ensures.whole, count_with c.args.self.now c.args.key c.args.value (pairs_in top.pairs (Some c.in_ok-root.root)) c.len_with-count.result after.0 made c.len_with-count.ensures)

pub returns : goal.returns
returns g c =
    let before = root_ordered c.self.inside.root c.self.invariant.0 in
    let after = root_ordered (Some c.in_ok-root.root) c.in_ok-root.ensures.whole in
    inserted c.args.key c.args.value (pairs_in top.pairs c.self.inside.root) (pairs_in top.pairs (Some c.in_ok-root.root)) before.0 after.0 c.in_ok-root.ensures.pairs
    ∙ ap (λ m. map.insert m c.args.key c.args.value) c.self.view_is
