use Rattle.std.proofs.Common.{◌∙◌, ap}
use Rattle.std.specs.FinMap.{get}
use Rattle.audit_model.specs.Models.{instance_at}
use Rattle.model_view.specs.Views.{ModelView}
use Rattle.model_view.proofs.TreeModels.{get_is}
use Rattle.model_view.proofs.indexed.Indexed.instance.Goals as goal

pub returns : goal.returns
returns c =
    c.get-2.ensures ∙ ap (λ k. get c.self.inside.instances k) c.get.ensures.value ∙ get_is c.self.inside.instances c.args.id c.self.invariant.by_id
    ∙ ap (λ (v : ModelView). instance_at c.args.id v.model) c.self.view_is
