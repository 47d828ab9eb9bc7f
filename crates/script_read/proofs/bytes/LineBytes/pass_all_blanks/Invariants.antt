use Rattle.std.proofs.Common.{◌≡◌, [], length}
use Rattle.script_read.specs.LineForm.{past_blanks}
use Rattle.script_read.proofs.bytes.LineBytes.pass_all_blanks.Given as goal

abbrev pub invariant-loop-byte : goal.invariant-loop-byte
invariant-loop-byte l = past_blanks l.fn.self ≡ past_blanks l.self

abbrev pub decreases-loop-byte : goal.decreases-loop-byte
decreases-loop-byte l = length l.self
