use Rattle.std.proofs.Common.{◌≡◌, ◌-◌}
use Rattle.reading.specs.Codes.{codes_of}
use Rattle.reading.specs.Reading.{each}
use Rattle.reading_tests.specs.declared.tree.Cause.TheVariants.{BadToken}
use Rattle.reading_tests.specs.Letters.{turn, letters}
use Rattle.reading_tests.proofs.letters.letters.Given as goal

abbrev pub invariant-loop : goal.invariant-loop
invariant-loop l = letters (codes_of l.fn.open) l.fn.cursor ≡ each BadToken (turn (codes_of l.fn.open)) (l.end - l.counter) l.odd l.cursor
