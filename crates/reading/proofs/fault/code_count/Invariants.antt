use Rattle.std.proofs.Common.{◌≡◌, ◌+◌, length}
use Rattle.reading.specs.Codes.{codes_of}
use Rattle.reading.proofs.fault.code_count.Given as goal

abbrev pub invariant-loop-count : goal.invariant-loop-count
invariant-loop-count l = l.count + length l.cursor ≡ length (codes_of l.fn.bytes)
