use Rattle.script_rules.proofs.run_laws.drain_ends.Goals as goal
use Rattle.script_rules.proofs.RunLaws as laws

pub returns : goal.returns
returns c = laws.drain_ends
