use Rattle.std.proofs.Common.{◌≡◌, Result, Ok, sym, subst}
use Rattle.ifc_base.specs.declared.memory.Refusal.{Refusal}
use Rattle.reading.specs.declared.fault.Fault.{Fault}
use Rattle.reading.specs.Codes.{codes_of}
use Rattle.reading.specs.Lines.{Answers}
use Rattle.reading.proofs.Lines.{answers}
use Rattle.reading_tests.specs.declared.tree.Cause.{Cause}
use Rattle.reading_tests.specs.declared.tree.Tree.{Tree}
use Rattle.reading_tests.specs.Nest.{whole, reading}
use Rattle.reading_tests.proofs.ReadLaws.{is_found, reading_complete}
use Rattle.reading_tests.proofs.read.read_tree.Goals as goal

exact : (c : goal.After-answer) → Answers (λ (x : Tree). x) c.answer.result (reading c.args.bytes.now)
unfolding reading
exact c =
    subst (λ (r : Result Tree (Refusal (Fault Cause))). Answers (λ (x : Tree). x) r (reading c.args.bytes.now)) (sym c.answer.ensures)
    (answers (λ x. x) (codes_of c.args.bytes.now) c.whole.result (whole (codes_of c.args.bytes.now)) c.whole.ensures)

pub returns-clause-found : goal.returns-clause-found
returns-clause-found c = is_found c.args.bytes.now c.answer.result (exact c)

pub returns-clause-only : goal.returns-clause-only
returns-clause-only c = λ x r. subst (λ f. Answers (λ (y : Tree). y) c.answer.result f) (reading_complete c.args.bytes.now x r) (exact c)

pub returns-clause-exact : goal.returns-clause-exact
returns-clause-exact c = exact c
