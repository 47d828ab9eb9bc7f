use Rattle.std.proofs.Common.{◌≡◌, ◌-◌}
use Rattle.reading.specs.Reading.{each}
use Rattle.p21_read.specs.declared.fault.P21Cause.TheVariants.{BadToken}
use Rattle.p21_read.specs.Files.{section_turn, sections}
use Rattle.p21_read.proofs.data.sections.Given as goal

abbrev pub invariant-loop : goal.invariant-loop
invariant-loop l =
    sections l.fn.most l.fn.cursor
    ≡ each BadToken (section_turn l.fn.most) (l.end - l.counter) l.gathered l.cursor
