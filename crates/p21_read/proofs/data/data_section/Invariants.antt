use Rattle.std.proofs.Common.{◌≡◌, ◌-◌}
use Rattle.reading.specs.Reading.{each}
use Rattle.p21_read.specs.declared.fault.P21Cause.TheVariants.{BadToken}
use Rattle.p21_read.specs.Files.{data_turn, data_section}
use Rattle.p21_read.proofs.data.data_section.Given as goal

abbrev pub invariant-loop : goal.invariant-loop
invariant-loop l =
    data_section l.fn.most l.fn.gathered l.fn.cursor
    ≡ each BadToken (data_turn l.fn.most) (l.end - l.counter) l.gathered l.cursor
