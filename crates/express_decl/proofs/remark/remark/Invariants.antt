use Rattle.std.proofs.Common.{◌≡◌, ◌-◌}
use Rattle.reading.specs.Codes.{codes_of}
use Rattle.reading.specs.Reading.{◌>>=◌, each}
use Rattle.express_decl.specs.declared.decl.DeclCause.TheVariants.{Unclosed}
use Rattle.express_decl.specs.Tokens.{remark, remark_turn, remark_end, remarks_view}
use Rattle.express_decl.proofs.remark.remark.Given as goal

abbrev pub invariant-loop : goal.invariant-loop
invariant-loop l =
    remark (codes_of l.fn.start) l.fn.cursor
    ≡ (each Unclosed remark_turn (l.end - l.counter) (remarks_view l.opened) l.cursor >>= remark_end)
