use Rattle.std.proofs.Common.{arith}
use Rattle.std.proofs.lemmas.Slice.Zip.{length-zip}
use Rattle.facet_own.proofs.Zipped.{weighed_more, weighed_all}
use Rattle.facet_own.proofs.attribute.weigh_all.Goals as goal

pub returns-then-at-values : goal.returns-then-at-values
returns-then-at-values c = weighed_all _ c.args.slots.now c.args.values.now c.loop-at.at _ c.loop-at.invariant (omega (arith, length-zip c.args.slots.now c.args.values.now))

pub loop-at-preserved : goal.loop-at-preserved
loop-at-preserved c =
    weighed_more c.args.facet.now c.args.slots.now c.args.values.now c.loop-at.at c.index-slots-at.result c.index-values-at.result c.loop-at.all c.in_ok-one.one c.either-all.result
    c.loop-at-test.true (omega arith) c.index-slots-at.is c.index-values-at.is c.loop-at.invariant c.in_ok-one.ensures c.either-all.ensures

pub returns : goal.returns
returns c = weighed_all _ c.args.slots.now c.args.values.now c.loop-at.at _ c.loop-at.invariant (omega (arith, length-zip c.args.slots.now c.args.values.now))
