use Rattle.std.proofs.lemmas.Result.{on_ok_weaker}
use Rattle.model_gen.proofs.Appended.{property_appended}
use Rattle.model_gen.proofs.walls.push_property_line.Goals as goal

pub returns : goal.returns
returns c =
    on_ok_weaker c.push_text-4.result
    (λ last. property_appended c.args.number c.args.wall _ _ _ _ _ _ _ _ c.from.ensures c.fire_rating.ensures c.in_ok-push_text.ensures c.in_ok-push_decimal.ensures.ok c.in_ok-push_text-2.ensures
    c.in_ok-push_text-3.ensures last)
    c.push_text-4.ensures
