use Rattle.script_rules.proofs.run_laws.serial_is_legal.Goals as goal
use Rattle.script_rules.proofs.RunLegal as laws

pub returns : goal.returns
returns c = laws.serial_is_legal
