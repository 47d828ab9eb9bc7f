use Rattle.std.proofs.Common.{◌≡◌}
use Rattle.serial_run.specs.Editing.{place_of}
use Rattle.serial_run.proofs.Acting.{worked}
use Rattle.serial_run.proofs.lines.work.Goals as goal

pub returns : goal.returns
returns g c = worked c.args.most c.args.editor c.requires.works c.in-Nothing.is (rw c.from.ensures at c.in_ok-rounds.ensures (place_of c.args.editor))
