use Rattle.script_read.proofs.ScriptLaws.{one_reading}
use Rattle.script_read.proofs.laws.one_script.Goals as goal

pub returns : goal.returns
returns c = one_reading
