use Rattle.reading.proofs.Turns.{each_same, is_enough}
use Rattle.reading.proofs.laws.turns_never_run_out.Goals as goal

pub returns-clause-same : goal.returns-clause-same
returns-clause-same g c = each_same

pub returns-clause-all : goal.returns-clause-all
returns-clause-all g c = is_enough
