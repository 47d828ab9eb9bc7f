use Rattle.std.proofs.Common.{ap, ◌∙◌, length}
use Rattle.model_view.specs.Views.{ModelView}
use Rattle.model_view.proofs.TreeModels.{len_is}
use Rattle.model_view.proofs.indexed.Indexed.len.Goals as goal

pub returns : goal.returns
returns c = c.len.ensures ∙ len_is c.self.inside.instances ∙ ap (λ (v : ModelView). length v.model) c.self.view_is
