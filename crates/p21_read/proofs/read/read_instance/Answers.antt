use Rattle.std.proofs.Common.{Result, sym, subst}
use Rattle.ifc_base.specs.declared.memory.Refusal.{Refusal}
use Rattle.ifc_base.specs.declared.value.Instance.{Instance}
use Rattle.reading.specs.declared.fault.Fault.{Fault}
use Rattle.reading.specs.Codes.{codes_of}
use Rattle.reading.specs.Lines.{Answers}
use Rattle.reading.proofs.Lines.{answers}
use Rattle.p21_read.specs.declared.fault.P21Cause.{P21Cause}
use Rattle.p21_read.specs.Instances.{whole_instance}
use Rattle.p21_read.specs.Readings.{instance_reading}
use Rattle.p21_read.proofs.ReadLaws.{instance_found, instance_reading_complete}
use Rattle.p21_read.proofs.read.read_instance.Goals as goal

exact : (c : goal.After-answer) → Answers (λ (x : Instance). x) c.answer.result (instance_reading c.args.bytes.now)
unfolding instance_reading
exact c =
    subst (λ (r : Result Instance (Refusal (Fault P21Cause))). Answers (λ (x : Instance). x) r (instance_reading c.args.bytes.now)) (sym c.answer.ensures)
    (answers (λ x. x) (codes_of c.args.bytes.now) c.whole_instance.result (whole_instance (codes_of c.args.bytes.now)) c.whole_instance.ensures)

pub returns-clause-found : goal.returns-clause-found
returns-clause-found c = instance_found c.args.bytes.now c.answer.result (exact c)

pub returns-clause-only : goal.returns-clause-only
returns-clause-only c = λ x r. subst (λ f. Answers (λ (y : Instance). y) c.answer.result f) (instance_reading_complete c.args.bytes.now x r) (exact c)

pub returns-clause-exact : goal.returns-clause-exact
returns-clause-exact c = exact c
