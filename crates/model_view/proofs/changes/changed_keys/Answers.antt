use Rattle.std.proofs.Common.{◌∙◌, ap}
use Rattle.std.specs.List.{list_any}
use Rattle.std.proofs.lemmas.List.{take_all}
use Rattle.audit_model.specs.Models.{instance_at}
use Rattle.audit_model.specs.Edits.{edit_id}
use Rattle.inverse_index.specs.Index.{has_key}
use Rattle.inverse_index.specs.Changed.{changed_at}
use Rattle.inverse_index.proofs.Changing.{changed_keys_are}
use Rattle.model_view.proofs.changes.changed_keys.Goals as goal

pub returns-clause-changed : goal.returns-clause-changed
returns-clause-changed c = λ k.
    c.in_ok-keys.ensures.same k ∙ ap (λ ks. has_key ks k) c.as_slice.ensures.value ∙ c.loop-edit.invariant k
    ∙ ap (λ es. list_any (λ e. changed_at c.args.schema.now (edit_id e) (instance_at (edit_id e) c.args.old.now.model) (instance_at (edit_id e) c.args.new.now.model) k) es) (take_all c.loop-edit.edit-index c.args.edits.now c.loop-edit-test.false)
    ∙ changed_keys_are edit_id c.args.edits.now c.args.old.now.model c.args.new.now.model c.ascends.ensures c.ascends-2.ensures c.requires c.args.schema.now k
