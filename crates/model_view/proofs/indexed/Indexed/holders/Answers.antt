use Rattle.std.proofs.Common.{ap, ◌∙◌}
use Rattle.audit_model.specs.Keys.{holders}
use Rattle.model_view.specs.Views.{ModelView}
use Rattle.model_view.proofs.indexed.Indexed.holders.Goals as goal

pub returns : goal.returns
returns c = c.holders.ensures ∙ c.self.invariant.holders c.args.id ∙ ap (λ (v : ModelView). holders v.model c.args.id) c.self.view_is
