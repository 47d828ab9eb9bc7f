use Rattle.serial_run.proofs.laws.full_is_long.Goals as goal
use Rattle.serial_run.proofs.Filling as laws

pub returns : goal.returns
returns c = laws.full_is_long
