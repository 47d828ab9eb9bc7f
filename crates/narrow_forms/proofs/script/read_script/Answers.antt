use Rattle.narrow_forms.proofs.ScriptLaws.{are_orderly}
use Rattle.narrow_forms.proofs.script.read_script.Goals as goal

pub returns-clause-orderly : goal.returns-clause-orderly
returns-clause-orderly c = are_orderly c.args.bytes.now c.read.result c.read.ensures
