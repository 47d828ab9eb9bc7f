use Rattle.std.proofs.Common.{◌∙◌, sym}
use Rattle.inverse_index.specs.Log.{last_in}
use Rattle.commit_rules.proofs.Showing.{accepted_next, shows_next}
use Rattle.commit_rules.proofs.Whole.{number_next}
use Rattle.commit_rules.proofs.judging.judge_edits.Goals as goal

pub loop-edit-preserved : goal.loop-edit-preserved
loop-edit-preserved g c =
    let m = g.L.Look.model c.args.look.now in
    let below = (g.L.Look.seen c.args.look.now).instance in
    let k = c.loop-edit.invariant in
    record {
      number_is = number_next c.loop-edit.number c.loop-edit.edit-index c.saturating_add-number.result k.number_is c.saturating_add-number.ensures;
      shown = shows_next c.args.schema.now c.args.limits (last_in c.args.changes.now) c.args.base m below c.args.edits.now c.loop-edit.edit-index c.edit-item.result c.loop-edit-test.true c.edit-item.is c.loop-edit.overlay k.shown c.lay.new.overlay c.in-Ok.ensures.laid;
      judged = sym (accepted_next c.args.schema.now c.args.limits (last_in c.args.changes.now) c.args.base m below c.args.edits.now c.loop-edit.edit-index c.edit-item.result c.loop-edit-test.true c.edit-item.is c.loop-edit.overlay k.shown c.lay.new.overlay c.in-Ok.ensures.laid) ∙ k.judged;
    }
