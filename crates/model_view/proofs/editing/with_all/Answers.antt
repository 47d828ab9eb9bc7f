use Rattle.std.proofs.Common.{◌≡◌}
use Rattle.audit_model.specs.Edits.{edited}
use Rattle.audit_model.proofs.Inserting.{apply_next}
use Rattle.model_view.proofs.Doing.{accepted_next}
use Rattle.model_view.proofs.editing.with_all.Goals as goal

pub edit-requires : goal.edit-requires
edit-requires c = (accepted_next c.args.schema.now c.loop-edit.editing.model c.args.edits.now c.loop-edit.edit-index c.edit-item.result c.loop-edit-test.true c.edit-item.is c.loop-edit.invariant.accepted).0

pub loop-edit-preserved : goal.loop-edit-preserved
loop-edit-preserved c =
    let next = accepted_next c.args.schema.now c.loop-edit.editing.model c.args.edits.now c.loop-edit.edit-index c.edit-item.result c.loop-edit-test.true c.edit-item.is c.loop-edit.invariant.accepted in
    let done : c.edit.new.self.model ≡ edited c.args.schema.now c.loop-edit.editing.model c.edit-item.result = c.in_ok-edit.ensures.model in
    record {
      index = λ h. c.in_ok-edit.ensures.index (c.loop-edit.invariant.index h);
      accepted = rw done next.3;
      applied = rw (done, ← apply_next c.args.schema.now c.loop-edit.editing.model c.args.edits.now c.loop-edit.edit-index c.edit-item.result c.loop-edit-test.true c.edit-item.is) c.loop-edit.invariant.applied;
    }
