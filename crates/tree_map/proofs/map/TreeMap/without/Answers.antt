use Rattle.std.proofs.Common.{◌≡◌, ◌^◌, ◌∙◌, is_some, ap, sym}
use Rattle.std.specs.FinMap as map
use Rattle.std.specs.Ordering.{nat_cmp}
use Rattle.tree_map.specs.Roots.{pairs_in}
use Rattle.tree_map.specs.Top.{top}
use Rattle.tree_map.proofs.Maps.{root_ordered, removed, kept, within, some_pair, count_without}
use Rattle.tree_map.proofs.map.TreeMap.without.Goals as goal

pub returns-in_default : goal.returns-in_default
returns-in_default g c = c.in_ok-same.ensures ∙ kept c.args.self.now c.args.key (sym c.in_default.ensures)

pub without_root-requires-clause-key : goal.without_root-requires-clause-key
without_root-requires-clause-key g c =
    let ordered = root_ordered c.self.inside.root c.self.invariant.0 in
    within c.args.key (2 ^ 40) c.in-Some.field-0.now (pairs_in top.pairs c.self.inside.root) c.args.self.now ordered.0 ordered.1 c.self.view_is c.in-Some.ensures

pub overflow_sub-result : goal.overflow_sub-result
overflow_sub-result g c =
    let ordered = root_ordered c.self.inside.root c.self.invariant.0 in
    some_pair c.args.key c.in-Some.field-0.now (pairs_in top.pairs c.self.inside.root) c.args.self.now c.self.inside.count ordered.0 c.self.view_is c.in-Some.ensures c.self.invariant.1

pub invariant_of-result : goal.invariant_of-result
invariant_of-result g c =
    let before = root_ordered c.self.inside.root c.self.invariant.0 in
    let after = root_ordered c.in_ok-root.root c.in_ok-root.ensures.whole in
    let made : map.from_sorted {R = nat_cmp} (pairs_in top.pairs c.in_ok-root.root) ≡ map.remove c.args.self.now c.args.key =
    removed c.args.key (pairs_in top.pairs c.self.inside.root) (pairs_in top.pairs c.in_ok-root.root) before.0 after.0 c.in_ok-root.ensures.pairs ∙ ap (λ m. map.remove m c.args.key) c.self.view_is in
    (c.in_ok-root.ensures.whole, count_without c.args.self.now c.args.key (pairs_in top.pairs c.self.inside.root) (pairs_in top.pairs c.in_ok-root.root) c.self.inside.count before.0 after.0 c.self.view_is made c.self.invariant.1 (ap is_some (sym c.in-Some.ensures)))

pub returns : goal.returns
returns g c =
    let before = root_ordered c.self.inside.root c.self.invariant.0 in
    let after = root_ordered c.in_ok-root.root c.in_ok-root.ensures.whole in
    removed c.args.key (pairs_in top.pairs c.self.inside.root) (pairs_in top.pairs c.in_ok-root.root) before.0 after.0 c.in_ok-root.ensures.pairs
    ∙ ap (λ m. map.remove m c.args.key) c.self.view_is
