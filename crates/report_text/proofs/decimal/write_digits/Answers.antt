use Rattle.report_text.proofs.DigitLemmas.{room, written_more, written_all}
use Rattle.report_text.proofs.decimal.write_digits.Goals as goal

pub overflow_sub-from : goal.overflow_sub-from
overflow_sub-from c = room c.args.number _ _ _ c.ranges.number.fits c.loop-rest.invariant

pub loop-rest-preserved : goal.loop-rest-preserved
loop-rest-preserved c = written_more c.args.number _ _ _ c.ranges.number.fits c.loop-rest-test.true c.loop-rest.invariant

pub overflow_sub-from-2 : goal.overflow_sub-from-2
overflow_sub-from-2 c = room c.args.number _ _ _ c.ranges.number.fits c.loop-rest.invariant

pub returns-clause-written : goal.returns-clause-written
returns-clause-written c = written_all c.args.number _ _ _ c.ranges.number.fits c.loop-rest-test.false c.loop-rest.invariant
