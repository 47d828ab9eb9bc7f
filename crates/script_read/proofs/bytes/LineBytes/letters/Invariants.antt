use Rattle.std.proofs.Common.{◌≡◌, [], length}
use Rattle.script_read.specs.Bytes.{gathered}
use Rattle.script_read.proofs.bytes.LineBytes.letters.Given as goal

abbrev pub invariant-loop-byte : goal.invariant-loop-byte
invariant-loop-byte l = gathered [] l.fn.self ≡ gathered l.name l.self

abbrev pub decreases-loop-byte : goal.decreases-loop-byte
decreases-loop-byte l = length l.self
