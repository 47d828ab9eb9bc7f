use Rattle.std.proofs.Common.{◌≡◌, ◌-◌, ◌≤◌}
use Rattle.reading.specs.Codes.{codes_of}
use Rattle.reading.specs.Reading.{◌>>=◌, each}
use Rattle.express_decl.specs.declared.decl.DeclCause.TheVariants.{Unexpected}
use Rattle.express_decl.specs.Steps.{in_parentheses, parenthesis_turn, parenthesis_end}
use Rattle.express_decl.proofs.step.in_parentheses.Given as goal

abbrev pub invariant-loop-turn : goal.invariant-loop-turn
invariant-loop-turn l =
    (in_parentheses (codes_of l.fn.opened) l.fn.cursor
    ≡ (each Unexpected (parenthesis_turn (codes_of l.fn.opened)) (l.turn-end - l.turn) l.around l.cursor >>= parenthesis_end))
    × (l.around ≤ l.turn)
