use Rattle.std.proofs.Common.{◌∙◌, ℕ, Option, ap, sym, take, filter_map}
use Rattle.audit_model.specs.Edits.{edit_id}
use Rattle.audit_model.specs.Judging.{least}
use Rattle.commit_rules.specs.Dangles.{lesser_of, missing_by}
use Rattle.commit_rules.proofs.Least.{least_given}
use Rattle.commit_rules.proofs.missing.least_from.Goals as goal

pub loop-edit-preserved : goal.loop-edit-preserved
loop-edit-preserved g c =
    let by : ℕ → Option ℕ = missing_by (g.L.Look.model c.args.look.now) c.args.overlay.now.put (g.L.Look.seen c.args.look.now).instance in
    c.lesser-least.ensures
    ∙ ap (λ o. lesser_of o c.in_ok-from.from) c.loop-edit.invariant
    ∙ ap (lesser_of (least (filter_map (λ e. by (edit_id e)) (take c.loop-edit.edit-index c.args.edits.now)))) (c.in_ok-from.ensures ∙ ap by c.id_of.ensures)
    ∙ sym (least_given (λ e. by (edit_id e)) c.args.edits.now c.loop-edit.edit-index c.edit-item.result c.loop-edit-test.true c.edit-item.is)
