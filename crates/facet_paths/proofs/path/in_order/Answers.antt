use Rattle.closure_walk.proofs.Rounds.{members_more}
use Rattle.facet_paths.proofs.path.in_order.Goals as goal

pub loop-id-preserved : goal.loop-id-preserved
loop-id-preserved c = members_more _ c.loop-id.members.keys _ c.args.ids.now c.loop-id.id-index c.id-item.result c.loop-id-test.true c.id-item.is c.loop-id.invariant c.in_ok-insert.ensures.keys
