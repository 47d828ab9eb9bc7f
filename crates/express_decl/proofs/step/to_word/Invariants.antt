use Rattle.std.proofs.Common.{◌≡◌, ◌-◌}
use Rattle.reading.specs.Codes.{codes_of}
use Rattle.reading.specs.Reading.{each}
use Rattle.express_decl.specs.declared.decl.DeclCause.TheVariants.{Unexpected}
use Rattle.express_decl.specs.Steps.{to_word, to_word_turn}
use Rattle.express_decl.proofs.step.to_word.Given as goal

abbrev pub invariant-loop : goal.invariant-loop
invariant-loop l =
    to_word l.fn.wanted (codes_of l.fn.opened) l.fn.cursor
    ≡ each Unexpected (to_word_turn l.fn.wanted (codes_of l.fn.opened)) (l.end - l.counter) tt l.cursor
