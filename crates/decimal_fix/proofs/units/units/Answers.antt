use Rattle.std.proofs.Common.{◌^◌, ◌+◌, ◌/◌, ℕ, min, ap, ◌∙◌}
use Rattle.std.proofs.lemmas.Int.{to_z-of_z}
use Rattle.decimal_fix.proofs.MovedLaws.{units_are}
use mir.Val.{SFits}
use mir.Syntax.{w128}
use Rattle.std.proofs.Common.{rules}
use Rattle.decimal_fix.proofs.units.units.Goals as goal

pub returns-clause-value : goal.returns-clause-value
returns-clause-value c = λ ds is.
    let fits = c.ranges.exponent in
    let by = simp to_z-of_z at c.shift.ensures in
    let shift_fits : SFits w128 c.shift.result = search rules in
    let moved = simp to_z-of_z at c.moved-moved.ensures in
    c.min.ensures ∙ ap (λ (q : ℕ). min ((q + 5) / 10) (10 ^ 31)) moved ∙ units_are c.args.leading c.args.places c.args.exponent c.shift.result ds is by
