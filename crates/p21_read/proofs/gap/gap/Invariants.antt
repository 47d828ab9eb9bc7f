use Rattle.std.proofs.Common.{◌≡◌, ◌-◌}
use Rattle.reading.specs.Reading.{each}
use Rattle.p21_read.specs.declared.fault.P21Cause.TheVariants.{BadToken}
use Rattle.p21_read.specs.Gap.{gap_turn, gap}
use Rattle.p21_read.proofs.gap.gap.Given as goal

abbrev pub invariant-loop : goal.invariant-loop
invariant-loop l = gap l.fn.cursor ≡ each BadToken gap_turn (l.end - l.counter) tt l.cursor
