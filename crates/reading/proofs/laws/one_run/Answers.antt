use Rattle.reading.proofs.RunLaws.{run_is, run_only}
use Rattle.reading.proofs.laws.one_run.Goals as goal

pub returns-clause-is : goal.returns-clause-is
returns-clause-is c = run_is

pub returns-clause-only : goal.returns-clause-only
returns-clause-only c = λ class t xs u r. run_only r
