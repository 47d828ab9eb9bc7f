use Rattle.std.proofs.Common.{◌∙◌, ap}
use Rattle.std.proofs.lemmas.List.Filters.{dedup_is}
use Rattle.ifc_base.specs.KeyOrder.{key_eq}
use Rattle.audit_model.specs.Ascending.{ascending_keys}
use Rattle.pair_eval.proofs.Sorted.{sorted_needs}
use Rattle.pair_eval.proofs.needs.in_order.Goals as goal

pub returns : goal.returns
returns c =
    c.from_vec.ensures ∙ c.shrink_to_fit.ensures.items
    ∙ sorted_needs c.same_need.ensures _ _ _ c.sort_unstable.ensures.permutation c.sort_unstable.ensures.sorted (dedup_is key_eq _ _ c.dedup.ensures.filtered)
    ∙ ap ascending_keys c.into_vec-needs.ensures
