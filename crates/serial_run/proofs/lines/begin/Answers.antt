use Rattle.serial_run.proofs.Acting.{halted_stop}
use Rattle.serial_run.proofs.Growing.{one_more}
use Rattle.serial_run.proofs.lines.begin.Goals as goal

pub returns : goal.returns
returns c = halted_stop c.in-Err.halt 1 _ _ (one_more _ c.args.core.now.history) c.in-Err.ensures.halted c.let_go.ensures
