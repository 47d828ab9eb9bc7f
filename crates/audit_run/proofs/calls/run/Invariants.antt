use Rattle.audit_run.specs.Acts.{DoAll}
use Rattle.audit_run.specs.Runs.{IsPlay}
use Rattle.audit_run.proofs.calls.run.Given as goal

abbrev pub invariant-loop-asked : goal.invariant-loop-asked
invariant-loop-asked g l = record {
  play : IsPlay l.fn.core l.core l.hands l.yielded l.texts.items;
  acts : DoAll l.fn.core.ground l.yielded l.fn.core.history l.fn.hands l.core.history l.hands;
  can_next : (goal.iterator-loop-asked g).can_next l.asked-iterator;
  is_finite : (goal.iterator-loop-asked g).is_finite l.asked-iterator;
}
