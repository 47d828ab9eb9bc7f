use Rattle.std.proofs.Common.{◌∙◌, sym, subst}
use Rattle.inverse_index.specs.Index.{Indexes, ListsHolders}
use Rattle.model_view.proofs.indexed.Indexed.of.Goals as goal

pub invariant_of-result : goal.invariant_of-result
invariant_of-result c = record {
  by_id = c.in_ok-tree.ensures.by_id;
  holders = subst (λ m. ListsHolders m c.in_ok-index.index) (c.as_slice.ensures ∙ sym c.in_ok-tree.ensures.model) c.in_ok-index.ensures.holders;
}

pub returns-clause-index : goal.returns-clause-index
returns-clause-index c = subst (λ m. Indexes c.args.schema.now m c.in_ok-index.index) (c.as_slice.ensures ∙ sym c.in_ok-tree.ensures.model) c.in_ok-index.ensures.referrers
