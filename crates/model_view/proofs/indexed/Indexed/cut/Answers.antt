use Rattle.std.proofs.Common.{◌≡◌, Some, None, subst, sym, ◌∙◌, ap}
use Rattle.std.specs.FinMap.{remove}
use Rattle.audit_model.specs.Models.{instance_at}
use Rattle.inverse_index.specs.Index.{Reindexes, RelistsHolders}
use Rattle.model_view.specs.Views.{ModelView}
use Rattle.model_view.proofs.TreeModels.{Turned, turned_remove}
use Rattle.model_view.proofs.Doing.{at_id, none_cut}
use Rattle.model_view.proofs.Putting.{model_put, index_put, whole_put}
use Rattle.model_view.proofs.indexed.Indexed.cut.Goals as goal

found : (c : goal.In_ok-instances) → instance_at c.args.id c.args.self.now.model ≡ Some c.in-Some.x.now
found c = sym c.in-Some.ensures

turned : (c : goal.In_ok-instances) → Turned c.args.id None c.self.inside.instances c.in_ok-instances.instances
turned c = subst (λ u. Turned c.args.id None c.self.inside.instances u) (sym (c.in_ok-instances.ensures ∙ ap (remove c.self.inside.instances) c.get.ensures.value)) (turned_remove c.args.id c.self.inside.instances)

pub invariant_of-result : goal.invariant_of-result
invariant_of-result c = whole_put c.args.id (Some c.in-Some.x.now) None c.self.inside.instances c.in_ok-instances.instances c.self.inside.index c.in_ok-index.index c.args.self.now c.self.view_is c.self.invariant tt (turned c) (found c)
    (subst (λ n. RelistsHolders n (Some c.in-Some.x.now) None c.self.inside.index c.in_ok-index.index) (at_id c.args.id c.args.self.now.model c.in-Some.x.now (found c)) c.in_ok-index.ensures.holders)

pub returns-clause-model : goal.returns-clause-model
returns-clause-model c = model_put c.args.id (Some c.in-Some.x.now) None c.self.inside.instances c.in_ok-instances.instances c.self.inside.index c.in_ok-index.index c.args.self.now c.self.view_is c.self.invariant tt (turned c)

pub returns-clause-index : goal.returns-clause-index
returns-clause-index c = index_put c.args.id (Some c.in-Some.x.now) None c.self.inside.instances c.in_ok-instances.instances c.self.inside.index c.in_ok-index.index c.args.self.now c.self.view_is c.self.invariant tt (turned c) c.args.schema.now (found c)
    (subst (λ n. Reindexes c.args.schema.now n (Some c.in-Some.x.now) None c.self.inside.index c.in_ok-index.index) (at_id c.args.id c.args.self.now.model c.in-Some.x.now (found c)) c.in_ok-index.ensures.referrers)

pub returns-in_default-clause-model : goal.returns-in_default-clause-model
returns-in_default-clause-model c = ap (λ (v : ModelView). v.model) c.in_ok-same.ensures ∙ none_cut c.args.id c.args.self.now.model (sym c.in_default.ensures)
