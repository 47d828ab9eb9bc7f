use Rattle.std.proofs.Common.{length, reverse}
use Rattle.serial_run.proofs.Phasing.{AreLines}
use Rattle.serial_run.proofs.phases.lines.Given as goal

abbrev pub invariant-loop-line : goal.invariant-loop-line
invariant-loop-line g l = AreLines l.fn.core l.core l.fn.lines (reverse l.rest.items) l.editor l.fn.text.items l.text.items

abbrev pub decreases-loop-line : goal.decreases-loop-line
decreases-loop-line g l = length l.rest.items
