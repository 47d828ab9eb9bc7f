use Rattle.std.proofs.Common.{◌≡◌, ◌-◌}
use Rattle.reading.specs.Codes.{codes_of}
use Rattle.reading.specs.Reading.{each}
use Rattle.express_decl.specs.declared.decl.DeclCause.TheVariants.{Unexpected}
use Rattle.express_decl.specs.Schemas.{declarations, declaration_turn}
use Rattle.express_decl.proofs.schema.declarations.Given as goal

abbrev pub invariant-loop : goal.invariant-loop
invariant-loop l =
    declarations (codes_of l.fn.opened) l.fn.cursor
    ≡ each Unexpected (declaration_turn (codes_of l.fn.opened)) (l.end - l.counter) l.decls l.cursor
