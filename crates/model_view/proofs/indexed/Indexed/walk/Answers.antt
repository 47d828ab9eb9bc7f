use Rattle.std.proofs.Common.{◌∙◌, ap, map, ℕ}
use Rattle.ifc_base.specs.declared.value.Instance.{Instance}
use Rattle.model_view.specs.Trees.{model_of}
use Rattle.model_view.specs.Views.{ModelView}
use Rattle.model_view.proofs.indexed.Indexed.walk.Goals as goal

pub returns : goal.returns
unfolding model_of
returns c = ap (map (λ (e : ℕ × Instance). e.1)) c.in_ok-walk.ensures ∙ ap (λ (v : ModelView). v.model) c.self.view_is
