use Rattle.std.proofs.Common.{Result, sym, subst}
use Rattle.ifc_base.specs.declared.memory.Refusal.{Refusal}
use Rattle.reading.specs.declared.fault.Fault.{Fault}
use Rattle.reading.specs.Codes.{codes_of}
use Rattle.reading.specs.Lines.{Answers}
use Rattle.reading.proofs.Lines.{answers}
use Rattle.p21_read.specs.declared.fault.P21Cause.{P21Cause}
use Rattle.p21_read.specs.declared.file.P21File.{P21File}
use Rattle.p21_read.specs.Files.{whole_file}
use Rattle.p21_read.specs.Readings.{file_reading}
use Rattle.p21_read.proofs.FileLaws.{file_found, file_reading_complete}
use Rattle.p21_read.proofs.read.read_file.Goals as goal

exact : (c : goal.After-answer) → Answers (λ (x : P21File). x) c.answer.result (file_reading c.args.most c.args.bytes.now)
unfolding file_reading
exact c =
    subst (λ (r : Result P21File (Refusal (Fault P21Cause))). Answers (λ (x : P21File). x) r (file_reading c.args.most c.args.bytes.now)) (sym c.answer.ensures)
    (answers (λ x. x) (codes_of c.args.bytes.now) c.whole_file.result (whole_file c.args.most (codes_of c.args.bytes.now)) c.whole_file.ensures)

pub returns-clause-found : goal.returns-clause-found
returns-clause-found c = file_found c.args.most c.args.bytes.now c.answer.result (exact c)

pub returns-clause-only : goal.returns-clause-only
returns-clause-only c = λ x r. subst (λ f. Answers (λ (y : P21File). y) c.answer.result f) (file_reading_complete c.args.most c.args.bytes.now x r) (exact c)

pub returns-clause-exact : goal.returns-clause-exact
returns-clause-exact c = exact c
