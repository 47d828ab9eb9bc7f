use Rattle.std.proofs.Common.{◌≡◌, ◌≤◌, length}
use Rattle.reading.specs.Codes.{codes_of}
use Rattle.reading.specs.Runs.{run}
use Rattle.xsd_pattern.specs.Characters.{is_digit}
use Rattle.xsd_pattern.specs.Repeats.{number}
use Rattle.xsd_pattern.proofs.repeat.number.Given as goal

abbrev pub invariant-loop-next : goal.invariant-loop-next
invariant-loop-next l = (number (codes_of l.fn.at) l.fn.so_far (run is_digit l.fn.cursor) ≡ number (codes_of l.fn.at) l.found (run is_digit l.cursor)) × (l.found ≤ 1000)

abbrev pub decreases-loop-next : goal.decreases-loop-next
decreases-loop-next l = length l.cursor
