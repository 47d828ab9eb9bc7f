use Rattle.serial_run.proofs.laws.script_is_phased.Goals as goal
use Rattle.serial_run.proofs.Following as laws

pub returns : goal.returns
returns c = laws.script_is_phased
