use Rattle.std.proofs.Common.{◌≡◌, ◌+◌, min, take, drop}
use Rattle.audit_model.specs.Edits.{apply}
use Rattle.audit_model.specs.Judging.{judge_from}
use Rattle.inverse_index.specs.Log.{last_in}
use Rattle.commit_rules.specs.Overlays.{Shows}
use Rattle.commit_rules.proofs.judging.judge_edits.Given as goal

abbrev pub invariant-loop-edit : goal.invariant-loop-edit
invariant-loop-edit g l = record {
  number_is : l.number ≡ min l.edit-index 4294967295;
  shown : Shows l.schema (g.L.Look.model l.look) (g.L.Look.seen l.look).instance (take l.edit-index l.edits) l.overlay;
  judged : judge_from l.schema l.limits (last_in l.changes) l.base (l.edit-index + 1) (apply l.schema (g.L.Look.model l.look) (take l.edit-index l.edits)) (drop l.edit-index l.edits) ≡ judge_from l.schema l.limits (last_in l.changes) l.base 1 (g.L.Look.model l.look) l.edits;
}
