use Rattle.std.proofs.Common.{◌∙◌, sym, subst}
use Rattle.tree_map.specs.Pairs.{IsAscending}
use Rattle.model_view.proofs.TreeModels.{beside_ascends, beside_by_id, model_beside}
use Rattle.model_view.proofs.indexed.tree_of.Goals as goal

pub of_ascending-requires-clause-ascending : goal.of_ascending-requires-clause-ascending
of_ascending-requires-clause-ascending c = subst IsAscending (sym c.in_ok-pairs.ensures.value) (beside_ascends c.args.instances c.requires)

pub returns-clause-by_id : goal.returns-clause-by_id
returns-clause-by_id c = beside_by_id c.in_ok-tree.tree c.args.instances (c.in_ok-tree.ensures ∙ c.in_ok-pairs.ensures.value)

pub returns-clause-model : goal.returns-clause-model
returns-clause-model c = model_beside c.in_ok-tree.tree c.args.instances (c.in_ok-tree.ensures ∙ c.in_ok-pairs.ensures.value)
