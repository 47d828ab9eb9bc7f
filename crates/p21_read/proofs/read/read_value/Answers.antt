use Rattle.std.proofs.Common.{Result, sym, subst}
use Rattle.ifc_base.specs.declared.memory.Refusal.{Refusal}
use Rattle.ifc_base.specs.declared.value.Value.{Value}
use Rattle.reading.specs.declared.fault.Fault.{Fault}
use Rattle.reading.specs.Codes.{codes_of}
use Rattle.reading.specs.Lines.{Answers}
use Rattle.reading.proofs.Lines.{answers}
use Rattle.p21_read.specs.declared.fault.P21Cause.{P21Cause}
use Rattle.p21_read.specs.Values.{whole_value}
use Rattle.p21_read.specs.Readings.{value_reading}
use Rattle.p21_read.proofs.ReadLaws.{value_found, value_reading_complete}
use Rattle.p21_read.proofs.read.read_value.Goals as goal

exact : (c : goal.After-answer) → Answers (λ (x : Value). x) c.answer.result (value_reading c.args.bytes.now)
unfolding value_reading
exact c =
    subst (λ (r : Result Value (Refusal (Fault P21Cause))). Answers (λ (x : Value). x) r (value_reading c.args.bytes.now)) (sym c.answer.ensures)
    (answers (λ x. x) (codes_of c.args.bytes.now) c.whole_value.result (whole_value (codes_of c.args.bytes.now)) c.whole_value.ensures)

pub returns-clause-found : goal.returns-clause-found
returns-clause-found c = value_found c.args.bytes.now c.answer.result (exact c)

pub returns-clause-only : goal.returns-clause-only
returns-clause-only c = λ x r. subst (λ f. Answers (λ (y : Value). y) c.answer.result f) (value_reading_complete c.args.bytes.now x r) (exact c)

pub returns-clause-exact : goal.returns-clause-exact
returns-clause-exact c = exact c
