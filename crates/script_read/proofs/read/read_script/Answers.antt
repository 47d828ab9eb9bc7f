use Rattle.std.proofs.Common.{Result, subst}
use Rattle.std.specs.Prelude.{IfOk}
use Rattle.reading.specs.declared.fault.Fault.{Fault}
use Rattle.reading.specs.Lines.{Answers}
use Rattle.script_read.specs.declared.fault.ScriptCause.{ScriptCause}
use Rattle.script_read.specs.declared.read.Script.{Script}
use Rattle.script_read.specs.Faults.{script_reading}
use Rattle.script_read.specs.Grammar.{ReadsScript}
use Rattle.script_read.proofs.WritingLaws.{reading_is}
use Rattle.script_read.proofs.ScriptLaws.{found, only}
use Rattle.script_read.proofs.OrderLaws.{orderly}
use Rattle.script_read.proofs.read.read_script.Goals as goal

pub returns-clause-exact : goal.returns-clause-exact
returns-clause-exact c = subst (λ (read : Result Script (Fault ScriptCause)). Answers (λ x. x) c.written.result read) (reading_is c.args.bytes.now) c.written.ensures

pub returns-clause-found : goal.returns-clause-found
returns-clause-found c =
    let exact = subst (λ (read : Result Script (Fault ScriptCause)). Answers (λ x. x) c.written.result read) (reading_is c.args.bytes.now) c.written.ensures in
    found c.args.bytes.now c.written.result exact

pub returns-clause-only : goal.returns-clause-only
returns-clause-only c =
    let exact = subst (λ (read : Result Script (Fault ScriptCause)). Answers (λ x. x) c.written.result read) (reading_is c.args.bytes.now) c.written.ensures in
    λ s reads. only c.args.bytes.now c.written.result s exact reads

pub returns-clause-orderly : goal.returns-clause-orderly
returns-clause-orderly c =
    let exact = subst (λ (read : Result Script (Fault ScriptCause)). Answers (λ x. x) c.written.result read) (reading_is c.args.bytes.now) c.written.ensures in
    orderly c.args.bytes.now c.written.result (found c.args.bytes.now c.written.result exact)
