use Rattle.std.proofs.Common.{◌≡◌, ◌-◌}
use Rattle.reading.specs.Reading.{each}
use Rattle.express_decl.specs.declared.decl.DeclCause.TheVariants.{Unexpected}
use Rattle.express_decl.specs.Tokens.{gap_turn, gap}
use Rattle.express_decl.proofs.remark.gap.Given as goal

abbrev pub invariant-loop : goal.invariant-loop
invariant-loop l = gap l.fn.cursor ≡ each Unexpected gap_turn (l.end - l.counter) tt l.cursor
