use Rattle.std.proofs.Common.{◌∙◌, ap, sym, take, filter_map}
use Rattle.audit_model.specs.Edits.{edit_id}
use Rattle.audit_model.specs.Judging.{least}
use Rattle.model_view.specs.Dangles.{lesser_of, missing_by}
use Rattle.model_view.proofs.Least.{least_given}
use Rattle.model_view.proofs.missing.least_from.Goals as goal

pub loop-edit-preserved : goal.loop-edit-preserved
loop-edit-preserved c =
    c.lesser-least.ensures
    ∙ ap (λ o. lesser_of o c.in_ok-from.from) c.loop-edit.invariant
    ∙ ap (lesser_of (least (filter_map (λ e. missing_by c.args.old.now.model c.args.new.now.model (edit_id e)) (take c.loop-edit.edit-index c.args.edits.now)))) (c.in_ok-from.ensures ∙ ap (missing_by c.args.old.now.model c.args.new.now.model) c.id_of.ensures)
    ∙ sym (least_given (λ e. missing_by c.args.old.now.model c.args.new.now.model (edit_id e)) c.args.edits.now c.loop-edit.edit-index c.edit-item.result c.loop-edit-test.true c.edit-item.is)
