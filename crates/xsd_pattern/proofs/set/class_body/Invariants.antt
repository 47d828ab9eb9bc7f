use Rattle.std.proofs.Common.{◌≡◌, ◌-◌}
use Rattle.reading.specs.Reading.{◌>>=◌, each}
use Rattle.xsd_pattern.specs.declared.fault.PatternCause.TheVariants.{Syntax}
use Rattle.xsd_pattern.specs.Sets.{class_turn, class_body, set_end}
use Rattle.xsd_pattern.proofs.set.class_body.Given as goal

abbrev pub invariant-loop : goal.invariant-loop
invariant-loop l =
    class_body l.fn.negated l.fn.cursor ≡ (each Syntax class_turn (l.end - l.counter) l.parts l.cursor >>= set_end l.fn.negated)
