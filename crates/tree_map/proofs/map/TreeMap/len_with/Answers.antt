use Rattle.std.proofs.Common.{◌+◌, ◌^◌, ◌≤◌, if◌then◌else◌, is_some, length, arith, ◌∙◌, ap, sym}
use Rattle.std.specs.FinMap as map
use Rattle.tree_map.specs.Roots.{pairs_in}
use Rattle.tree_map.specs.Top.{top}
use Rattle.tree_map.proofs.Maps.{root_ordered, len_pairs, few_pairs}
use Rattle.tree_map.proofs.map.TreeMap.len_with.Goals as goal

pub overflow_add-result : goal.overflow_add-result
overflow_add-result g c =
    let ordered = root_ordered c.self.inside.root c.self.invariant.0 in
    let few : length (pairs_in top.pairs c.self.inside.root) ≤ 2 ^ 40 = few_pairs (2 ^ 40) (pairs_in top.pairs c.self.inside.root) ordered.0 ordered.1 in
    omega (arith, few, c.self.invariant.1)

pub returns-in-Some : goal.returns-in-Some
returns-in-Some g c =
    c.self.invariant.1 ∙ sym (len_pairs (pairs_in top.pairs c.self.inside.root) (root_ordered c.self.inside.root c.self.invariant.0).0) ∙ ap map.len c.self.view_is
    ∙ ap (λ o. if is_some o then map.len c.args.self.now else map.len c.args.self.now + 1) c.in-Some.ensures

pub returns-in-None : goal.returns-in-None
returns-in-None g c =
    ap (λ n. n + 1) (c.self.invariant.1 ∙ sym (len_pairs (pairs_in top.pairs c.self.inside.root) (root_ordered c.self.inside.root c.self.invariant.0).0) ∙ ap map.len c.self.view_is)
    ∙ ap (λ o. if is_some o then map.len c.args.self.now else map.len c.args.self.now + 1) c.in-None.ensures
