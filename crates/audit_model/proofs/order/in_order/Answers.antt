use Rattle.std.proofs.Common.{rules, ◌∙◌}
use Rattle.std.proofs.lemmas.List.Sorted.{IsNonDecreasingBy-from_sort_by_key}
use Rattle.ifc_base.specs.declared.value.Instance.{Instance}
use Rattle.audit_model.proofs.OrderLemmas.{IsModel-sorted, sorted_is_model}
use Rattle.audit_model.proofs.order.in_order.Goals as goal

pub returns-in-Ok-clause-value : goal.returns-in-Ok-clause-value
returns-in-Ok-clause-value c =
    let moved = rw c.into_vec-model.ensures at c.in-Ok.ensures.permutation in
    c.from_vec.ensures
    ∙ sorted_is_model _ _ c.requires moved (IsNonDecreasingBy-from_sort_by_key (λ (x : Instance). x.id) _ c.in-Ok.ensures.sorted (λ a r q k. search rules))

pub returns-in-Ok-clause-ascending : goal.returns-in-Ok-clause-ascending
returns-in-Ok-clause-ascending c =
    let moved = rw c.into_vec-model.ensures at c.in-Ok.ensures.permutation in
    rw c.from_vec.ensures
    (IsModel-sorted _ _ c.requires moved (IsNonDecreasingBy-from_sort_by_key (λ (x : Instance). x.id) _ c.in-Ok.ensures.sorted (λ a r q k. search rules)))
