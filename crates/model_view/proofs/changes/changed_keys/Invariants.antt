use Rattle.std.proofs.Common.{◌≡◌, take}
use Rattle.std.specs.List.{list_any}
use Rattle.ifc_base.specs.declared.key.Key.{Key}
use Rattle.audit_model.specs.Models.{instance_at}
use Rattle.audit_model.specs.Edits.{edit_id}
use Rattle.inverse_index.specs.Index.{has_key}
use Rattle.inverse_index.specs.Changed.{changed_at}
use Rattle.model_view.proofs.changes.changed_keys.Given as goal

abbrev pub invariant-loop-edit : goal.invariant-loop-edit
invariant-loop-edit l = (k : Key) → has_key l.keys.items k ≡ list_any (λ e. changed_at l.schema (edit_id e) (instance_at (edit_id e) l.old.model) (instance_at (edit_id e) l.new.model) k) (take l.edit-index l.edits)
