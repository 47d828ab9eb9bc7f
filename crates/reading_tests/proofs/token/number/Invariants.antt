use Rattle.std.proofs.Common.{◌≡◌, ◌≤◌, length}
use Rattle.reading.specs.Codes.{codes_of}
use Rattle.reading.specs.Runs.{run}
use Rattle.reading_tests.specs.Nest.{number, is_digit}
use Rattle.reading_tests.proofs.token.number.Given as goal

abbrev pub invariant-loop-byte : goal.invariant-loop-byte
invariant-loop-byte l = (number (codes_of l.fn.at) l.fn.so_far (run is_digit l.fn.cursor) ≡ number (codes_of l.fn.at) l.found (run is_digit l.here)) × (l.found ≤ 999999999)

abbrev pub decreases-loop-byte : goal.decreases-loop-byte
decreases-loop-byte l = length l.here
