use Rattle.std.proofs.Common.{◌≡◌, length}
use Rattle.narrow_forms.specs.Lines.{cut}
use Rattle.narrow_forms.specs.Script.{script_lines}
use Rattle.narrow_forms.proofs.script.Writing.write_lines.Given as goal

abbrev pub invariant-loop-line : goal.invariant-loop-line
invariant-loop-line l = script_lines l.fn.self (cut l.fn.bytes) ≡ script_lines l.self (cut l.lines)

abbrev pub decreases-loop-line : goal.decreases-loop-line
decreases-loop-line l = length l.lines
