use Rattle.std.proofs.Common.{◌∙◌}
use Rattle.model_gen.specs.Fixed.{head, foot}
use Rattle.model_gen.proofs.Appended.{model_appended}
use Rattle.model_gen.proofs.inputs.made_model.Goals as goal

pub returns : goal.returns
unfolding head foot
returns c =
    c.from_vec.ensures
    ∙ model_appended c.args.number c.args.count _ _ _ _ c.new-out.ensures.items c.in_ok-push_text.ensures c.in_ok-push_walls.ensures c.in_ok-push_text-2.ensures
