use Rattle.std.proofs.Common.{◌≡◌, Bool, Result, Ok, sym, subst}
use Rattle.ifc_base.specs.declared.memory.Refusal.{Refusal}
use Rattle.reading.specs.declared.fault.Fault.{Fault}
use Rattle.reading.specs.Codes.{codes_of}
use Rattle.reading.specs.Lines.{Answers, with_line}
use Rattle.reading.proofs.Lines.{answers}
use Rattle.reading_tests.specs.declared.tree.Cause.{Cause}
use Rattle.reading_tests.specs.Letters.{whole}
use Rattle.reading_tests.proofs.LetterLaws.{letters_found, letters_reads}
use Rattle.reading_tests.proofs.letters.read_letters.Goals as goal

exact : (c : goal.After-answer) → Answers (λ (x : Bool). x) c.answer.result (with_line (codes_of c.args.bytes.now) (whole (codes_of c.args.bytes.now)))
exact c =
    subst (λ (r : Result Bool (Refusal (Fault Cause))). Answers (λ (x : Bool). x) r (with_line (codes_of c.args.bytes.now) (whole (codes_of c.args.bytes.now)))) (sym c.answer.ensures)
    (answers (λ x. x) (codes_of c.args.bytes.now) c.whole.result (whole (codes_of c.args.bytes.now)) c.whole.ensures)

pub returns-clause-found : goal.returns-clause-found
returns-clause-found c = letters_found c.args.bytes.now c.answer.result (exact c)

pub returns-clause-only : goal.returns-clause-only
returns-clause-only c = λ x r. subst (λ f. Answers (λ (y : Bool). y) c.answer.result f) (letters_reads c.args.bytes.now x r) (exact c)

pub returns-clause-exact : goal.returns-clause-exact
returns-clause-exact c = exact c
