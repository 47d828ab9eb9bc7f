use Rattle.std.proofs.Common.{◌≡◌, ◌-◌, Ok}
use Rattle.reading.specs.Codes.{codes_of}
use Rattle.reading.specs.Reading.{◌>>=◌, each}
use Rattle.express_decl.specs.declared.decl.DeclCause.TheVariants.{Unexpected}
use Rattle.express_decl.specs.Steps.{type_text}
use Rattle.express_decl.specs.Entities.{attributes, name_turn}
use Rattle.express_decl.proofs.section.attributes.Given as goal

abbrev pub invariant-loop : goal.invariant-loop
invariant-loop l =
    attributes (codes_of l.fn.opened) l.fn.own l.fn.first l.fn.cursor
    ≡ (each Unexpected (name_turn (codes_of l.fn.opened)) (l.end - l.counter) l.own l.cursor
    >>= λ names. type_text (codes_of l.fn.opened) names.1 >>= λ rest. Ok (names.0, rest.1))
