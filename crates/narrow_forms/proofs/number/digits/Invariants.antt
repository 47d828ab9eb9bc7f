use Rattle.std.proofs.Common.{◌≡◌, ◌≤◌, ◌<◌, ◌^◌, length}
use Rattle.narrow_forms.specs.Number.{digits}
use Rattle.narrow_forms.proofs.number.digits.Given as goal

abbrev pub invariant-loop-byte : goal.invariant-loop-byte
invariant-loop-byte l = (digits l.fn.first l.fn.bytes ≡ digits l.value l.bytes) × (l.fn.first ≤ l.value) × (l.value < 2 ^ 31)

abbrev pub decreases-loop-byte : goal.decreases-loop-byte
decreases-loop-byte l = length l.bytes
