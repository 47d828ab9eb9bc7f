use Rattle.std.proofs.Common.{subst, ap}
use Rattle.audit_model.specs.Models.{IsModel}
use Rattle.model_view.specs.Views.{ModelView}
use Rattle.model_view.proofs.TreeModels.{model_is}
use Rattle.model_view.proofs.indexed.Indexed.ascends.Goals as goal

pub returns : goal.returns
returns c = subst IsModel (ap (λ (v : ModelView). v.model) c.self.view_is) (model_is c.self.inside.instances c.self.invariant.by_id)
