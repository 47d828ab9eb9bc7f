use Rattle.std.proofs.Common.{◌≡◌, length}
use Rattle.script_read.specs.Lines.{cut}
use Rattle.script_read.specs.Writing.{after_lines}
use Rattle.script_read.proofs.writing.Writing.write_lines.Given as goal

abbrev pub invariant-loop-line : goal.invariant-loop-line
invariant-loop-line l = after_lines 1 l.fn.self (cut l.fn.bytes) ≡ after_lines l.number l.writing (cut l.lines)

abbrev pub decreases-loop-line : goal.decreases-loop-line
decreases-loop-line l = length l.lines
