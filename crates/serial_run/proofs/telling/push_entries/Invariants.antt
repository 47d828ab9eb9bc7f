use Rattle.std.proofs.Common.{◌≡◌, ◌++◌, take}
use Rattle.serial_run.specs.Lines.{entry_lines}
use Rattle.serial_run.proofs.telling.push_entries.Given as goal

abbrev pub invariant-loop-entry : goal.invariant-loop-entry
invariant-loop-entry l = l.out.items ≡ l.fn.out.items ++ entry_lines l.limits (take l.entry-index l.entries)
