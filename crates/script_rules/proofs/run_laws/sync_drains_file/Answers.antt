use Rattle.script_rules.proofs.run_laws.sync_drains_file.Goals as goal
use Rattle.script_rules.proofs.RunLaws as laws

pub returns : goal.returns
returns c = laws.sync_drains_file
