use Rattle.std.proofs.Common.{◌≡◌, drop}
use Rattle.audit_model.specs.Edits.{apply}
use Rattle.inverse_index.specs.Index.{Indexes}
use Rattle.model_view.specs.Views.{AreAccepted}
use Rattle.model_view.proofs.editing.with_all.Given as goal

abbrev pub invariant-loop-edit : goal.invariant-loop-edit
invariant-loop-edit l = record {
  index : Indexes l.schema l.content.model l.content.lists → Indexes l.schema l.editing.model l.editing.lists;
  accepted : AreAccepted l.schema l.editing.model (drop l.edit-index l.edits);
  applied : apply l.schema l.editing.model (drop l.edit-index l.edits) ≡ apply l.schema l.content.model l.edits;
}
