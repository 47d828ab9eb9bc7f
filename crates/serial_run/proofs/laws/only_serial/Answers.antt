use Rattle.serial_run.proofs.laws.only_serial.Goals as goal
use Rattle.serial_run.proofs.Only as laws

pub returns : goal.returns
returns c = laws.only_serial
