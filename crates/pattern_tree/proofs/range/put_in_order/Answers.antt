use Rattle.std.proofs.Common.{rules, sym, subst}
use Rattle.std.proofs.lemmas.List.Sorted.{IsNonDecreasingBy-from_sort_by_key}
use Rattle.pattern_tree.specs.declared.range.Range.{Range}
use Rattle.pattern_tree.specs.Searching.{AreRising}
use Rattle.pattern_tree.proofs.Raising.{raised_rises, in_order_same}
use Rattle.pattern_tree.proofs.range.put_in_order.Goals as goal

pub returns-clause-rising : goal.returns-clause-rising
returns-clause-rising c =
    let up = IsNonDecreasingBy-from_sort_by_key (λ (x : Range). x.first) _ c.sort_unstable_by_key.ensures.sorted (λ a r q k. search rules) in
    subst AreRising (sym c.raise.ensures) (raised_rises 0 _ up)

pub returns-clause-same : goal.returns-clause-same
returns-clause-same c d =
    let up = IsNonDecreasingBy-from_sort_by_key (λ (x : Range). x.first) _ c.sort_unstable_by_key.ensures.sorted (λ a r q k. search rules) in
    in_order_same d _ _ _ c.sort_unstable_by_key.ensures.permutation up c.raise.ensures
