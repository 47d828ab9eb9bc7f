use Rattle.std.proofs.Common.{refl}
use Rattle.audit_run.proofs.ActLaws.{acts_more}
use Rattle.audit_run.proofs.PlayLaws.{play_none, play_more}
use Rattle.audit_run.proofs.calls.run.Goals as goal

pub loop-asked-init : goal.loop-asked-init
loop-asked-init g c = record { play = rw c.new-texts.ensures.items (play_none c.requires.holding); acts = (refl, refl); can_next = tt; is_finite = tt }

pub step-requires-clause-holding : goal.step-requires-clause-holding
step-requires-clause-holding g c = c.loop-asked.invariant.play.holding

pub step-requires-clause-schema : goal.step-requires-clause-schema
step-requires-clause-schema g c = rw c.loop-asked.invariant.play.ground c.requires.schema

pub step-requires-clause-specs : goal.step-requires-clause-specs
step-requires-clause-specs g c = rw c.loop-asked.invariant.play.ground c.requires.specs

pub loop-asked-preserved : goal.loop-asked-preserved
loop-asked-preserved g c = record {
  play = rw c.step.ensures.play.1.0 (play_more c.loop-asked.invariant.play c.step.ensures.play.1.1);
  acts = acts_more c.args.hands.now c.loop-asked.invariant.play c.step.ensures.play.1.1 c.loop-asked.invariant.acts c.step.ensures.acts;
  can_next = tt;
  is_finite = tt;
}
