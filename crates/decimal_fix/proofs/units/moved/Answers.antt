use Rattle.std.proofs.Common.{arith}
use Rattle.std.proofs.lemmas.Int.{to_z-of_z}
use Rattle.decimal_fix.proofs.MovedLaws.{moved_nothing, moved_past, small_power}
use Rattle.decimal_fix.proofs.RoundingLaws.{some_power}
use Rattle.decimal_fix.proofs.units.moved.Goals as goal

pub returns-then-number-eq0 : goal.returns-then-number-eq0
returns-then-number-eq0 c =
    let fits = c.ranges.by in
    let size = simp to_z-of_z at c.unsigned_abs-places.ensures.value in
    let which = simp to_z-of_z at c.if-number-eq0.either in
    moved_nothing c.args.number c.args.by c.requires (omega (arith, size, c.if-places-gt33.true)) which

pub returns-else-number-eq0 : goal.returns-else-number-eq0
returns-else-number-eq0 c =
    let fits = c.ranges.by in
    let size = simp to_z-of_z at c.unsigned_abs-places.ensures.value in
    let which = simp to_z-of_z at c.if-number-eq0.false in
    moved_past c.args.number c.args.by (omega (arith, size, c.if-places-gt33.true)) which.0 which.1

pub pow-power-requires : goal.pow-power-requires
pow-power-requires c = small_power c.unsigned_abs-places.result c.if-places-gt33.false

pub nonzero_div-result : goal.nonzero_div-result
nonzero_div-result c = omega (arith, c.pow-power.ensures, some_power c.unsigned_abs-places.result)
