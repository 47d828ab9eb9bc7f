use Rattle.std.proofs.lemmas.Result.{on_ok_weaker}
use Rattle.model_gen.proofs.Appended.{wall_appended}
use Rattle.model_gen.proofs.walls.push_wall.Goals as goal

pub returns : goal.returns
returns c =
    on_ok_weaker c.push_relationship_line.result
    (λ last. wall_appended c.args.number c.args.wall _ _ _ _ _ c.in_ok-push_wall_line.ensures c.in_ok-push_property_line.ensures c.in_ok-push_set_line.ensures last)
    c.push_relationship_line.ensures
