use Rattle.std.proofs.Common.{Result, sym, subst}
use Rattle.ifc_base.specs.declared.memory.Refusal.{Refusal}
use Rattle.reading.specs.declared.fault.Fault.{Fault}
use Rattle.reading.specs.Codes.{codes_of}
use Rattle.reading.specs.Lines.{Answers}
use Rattle.reading.proofs.Lines.{answers}
use Rattle.express_decl.specs.declared.decl.DeclCause.{DeclCause}
use Rattle.express_decl.specs.declared.decl.Decls.{Decls}
use Rattle.express_decl.specs.Schemas.{whole, reading}
use Rattle.express_decl.proofs.ReadLaws.{is_found, reading_complete}
use Rattle.express_decl.proofs.schema.read_declarations.Goals as goal

exact : (c : goal.After-answer) → Answers (λ (x : Decls). x) c.answer.result (reading c.args.bytes.now)
unfolding reading
exact c =
    subst (λ (r : Result Decls (Refusal (Fault DeclCause))). Answers (λ (x : Decls). x) r (reading c.args.bytes.now)) (sym c.answer.ensures)
    (answers (λ x. x) (codes_of c.args.bytes.now) c.whole.result (whole (codes_of c.args.bytes.now)) c.whole.ensures)

pub returns-clause-found : goal.returns-clause-found
returns-clause-found c = is_found c.args.bytes.now c.answer.result (exact c)

pub returns-clause-only : goal.returns-clause-only
returns-clause-only c = λ x r. subst (λ f. Answers (λ (y : Decls). y) c.answer.result f) (reading_complete c.args.bytes.now x r) (exact c)

pub returns-clause-exact : goal.returns-clause-exact
returns-clause-exact c = exact c
