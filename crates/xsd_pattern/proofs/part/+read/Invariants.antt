use Rattle.std.proofs.Common.{◌≡◌, ◌+◌, ◌*◌, ◌-◌}
use Rattle.reading.specs.Reading.{each}
use Rattle.xsd_pattern.specs.declared.fault.PatternCause.TheVariants.{Syntax}
use Rattle.xsd_pattern.specs.Parts.{sides, sides_turn, below}
use Rattle.xsd_pattern.proofs.part.+read.Given as goal

abbrev pub decreases-atom : goal.decreases-atom
decreases-atom l = 3 * l.depth

abbrev pub decreases-sides_turn : goal.decreases-sides_turn
decreases-sides_turn l = 3 * l.depth + 1

abbrev pub decreases-read_sides : goal.decreases-read_sides
decreases-read_sides l = 3 * l.depth + 2

abbrev pub invariant-read_sides-loop : goal.invariant-read_sides-loop
invariant-read_sides-loop l =
    sides l.fn.depth l.fn.cursor ≡ each Syntax (sides_turn (below l.fn.depth)) (l.end - l.counter) l.sides l.cursor
