use Rattle.schema_table.proofs.Doubling.{marked}
use Rattle.schema_table.proofs.climbs.reached.Goals as goal

pub loop-at-preserved : goal.loop-at-preserved
loop-at-preserved c = marked c.args.far.now c.loop-at.at-index c.loop-at.marks.items c.set_mark.new.marks.items c.loop-at-test.true c.loop-at.invariant.0 c.loop-at.invariant.1 c.set_mark.ensures
