use Rattle.std.proofs.Common.{◌≡◌, ◌-◌}
use Rattle.reading.specs.Codes.{codes_of}
use Rattle.reading.specs.Reading.{each}
use Rattle.p21_read.specs.declared.fault.P21Cause.TheVariants.{BadToken}
use Rattle.p21_read.specs.Quoted.{groups_turn, groups}
use Rattle.p21_read.proofs.quoted.groups.Given as goal

abbrev pub invariant-loop : goal.invariant-loop
invariant-loop l =
    groups l.fn.is_long (codes_of l.fn.at) l.fn.out l.fn.cursor
    ≡ each BadToken (groups_turn l.fn.is_long (codes_of l.fn.at)) (l.end - l.counter) l.out l.cursor
