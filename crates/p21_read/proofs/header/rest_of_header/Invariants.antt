use Rattle.std.proofs.Common.{◌≡◌, ◌-◌}
use Rattle.reading.specs.Reading.{each}
use Rattle.p21_read.specs.declared.fault.P21Cause.TheVariants.{BadToken}
use Rattle.p21_read.specs.Headers.{further_turn, rest}
use Rattle.p21_read.proofs.header.rest_of_header.Given as goal

abbrev pub invariant-loop : goal.invariant-loop
invariant-loop l = rest l.fn.cursor ≡ each BadToken further_turn (l.end - l.counter) tt l.cursor
