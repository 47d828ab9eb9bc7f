use Rattle.serial_run.proofs.laws.stop_is_phased.Goals as goal
use Rattle.serial_run.proofs.Stopping as laws

pub returns : goal.returns
returns c = laws.stop_is_phased
