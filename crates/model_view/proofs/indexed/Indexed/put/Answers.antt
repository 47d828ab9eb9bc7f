use Rattle.std.proofs.Common.{Some, refl, subst, sym, ◌∙◌, ap}
use Rattle.std.specs.FinMap.{insert}
use Rattle.std.specs.Option.{option_copied}
use Rattle.model_view.proofs.TreeModels.{Turned, turned_insert}
use Rattle.model_view.proofs.Putting.{model_put, index_put, whole_put}
use Rattle.model_view.proofs.indexed.Indexed.put.Goals as goal

turned : (c : goal.In-Ok) → Turned c.args.x.id (Some c.args.x) c.self.inside.instances c.in-Ok.instances
turned c = subst (λ u. Turned c.args.x.id (Some c.args.x) c.self.inside.instances u) (sym (c.in-Ok.ensures ∙ ap (λ k. insert c.self.inside.instances k c.args.x) c.get.ensures.value)) (turned_insert c.args.x.id c.args.x c.self.inside.instances)

pub invariant_of-result : goal.invariant_of-result
invariant_of-result c = whole_put c.args.x.id (option_copied c.instance.result) (Some c.args.x) c.self.inside.instances c.in-Ok.instances c.self.inside.index c.in_ok-index.index c.args.self.now c.self.view_is c.self.invariant refl (turned c) (sym c.instance.ensures) c.in_ok-index.ensures.holders

pub returns-in-Ok-clause-model : goal.returns-in-Ok-clause-model
returns-in-Ok-clause-model c = model_put c.args.x.id (option_copied c.instance.result) (Some c.args.x) c.self.inside.instances c.in-Ok.instances c.self.inside.index c.in_ok-index.index c.args.self.now c.self.view_is c.self.invariant refl (turned c)

pub returns-in-Ok-clause-index : goal.returns-in-Ok-clause-index
returns-in-Ok-clause-index c = index_put c.args.x.id (option_copied c.instance.result) (Some c.args.x) c.self.inside.instances c.in-Ok.instances c.self.inside.index c.in_ok-index.index c.args.self.now c.self.view_is c.self.invariant refl (turned c) c.args.schema.now (sym c.instance.ensures) c.in_ok-index.ensures.referrers
