use Rattle.report_text.proofs.LineLemmas.{tally_appended}
use Rattle.report_text.proofs.lines.push_tallies.Goals as goal

pub loop-place-preserved : goal.loop-place-preserved
loop-place-preserved c =
    tally_appended 1 _ _ _ c.args.tallies.now c.loop-place.place c.index-tallies-place.result c.index-tallies-place.result c.loop-place-test.true c.index-tallies-place.is c.loop-place.invariant
    c.in_ok-push_tally.ensures
