use Rattle.std.proofs.Common.{◌≡◌, take, filter_map}
use Rattle.audit_model.specs.Edits.{edit_id}
use Rattle.audit_model.specs.Judging.{least}
use Rattle.model_view.specs.Dangles.{missing_by}
use Rattle.model_view.proofs.missing.least_from.Given as goal

abbrev pub invariant-loop-edit : goal.invariant-loop-edit
invariant-loop-edit l = l.least ≡ least (filter_map (λ e. missing_by l.old.model l.new.model (edit_id e)) (take l.edit-index l.edits))
