use Rattle.std.proofs.Common.{◌≡◌, ◌-◌}
use Rattle.reading.specs.Codes.{codes_of}
use Rattle.reading.specs.Reading.{each}
use Rattle.p21_read.specs.declared.fault.P21Cause.TheVariants.{BadToken}
use Rattle.p21_read.specs.Quoted.{piece, text}
use Rattle.p21_read.proofs.quoted.text.Given as goal

abbrev pub invariant-loop : goal.invariant-loop
invariant-loop l = text (codes_of l.fn.at) l.fn.cursor ≡ each BadToken (piece (codes_of l.fn.at)) (l.end - l.counter) l.out l.cursor
