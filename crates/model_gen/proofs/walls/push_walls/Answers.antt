use Rattle.model_gen.proofs.Appended.{walls_none, walls_more}
use Rattle.model_gen.proofs.walls.push_walls.Goals as goal

pub loop-before-init : goal.loop-before-init
loop-before-init c = walls_none c.args.number c.args.out.now.items

pub loop-before-preserved : goal.loop-before-preserved
loop-before-preserved c = walls_more c.args.number c.loop-before.before _ _ _ c.loop-before.invariant c.in_ok-push_wall.ensures
