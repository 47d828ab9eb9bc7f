use Rattle.std.proofs.Common.{◌≡◌, take, filter_map}
use Rattle.audit_model.specs.Edits.{edit_id}
use Rattle.audit_model.specs.Judging.{least}
use Rattle.commit_rules.specs.Dangles.{missing_by}
use Rattle.commit_rules.proofs.missing.least_from.Given as goal

abbrev pub invariant-loop-edit : goal.invariant-loop-edit
invariant-loop-edit g l = l.least ≡ least (filter_map (λ e. missing_by (g.L.Look.model l.look) l.overlay.put (g.L.Look.seen l.look).instance (edit_id e)) (take l.edit-index l.edits))
