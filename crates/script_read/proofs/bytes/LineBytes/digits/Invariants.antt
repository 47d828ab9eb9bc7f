use Rattle.std.proofs.Common.{◌≡◌, [], length}
use Rattle.script_read.specs.Bytes.{counted}
use Rattle.script_read.proofs.bytes.LineBytes.digits.Given as goal

abbrev pub invariant-loop-byte : goal.invariant-loop-byte
invariant-loop-byte l = counted l.fn.start l.fn.self ≡ counted l.value l.self

abbrev pub decreases-loop-byte : goal.decreases-loop-byte
decreases-loop-byte l = length l.self
