-- Laws of the definitions of numerals and of their values.
use Rattle.std.proofs.Common.{◌≡◌, ℕ, ◌^◌, Bool, true, false, cond, List, ◌++◌, length, length-append, append_assoc, Some, refl, sym, ap, ◌∙◌, arith}
use Rattle.std.specs.Prelude.{nat_le, ℤ, pos, ◌+ℤ◌}
use Rattle.std.proofs.lemmas.Int.{ints}
use Rattle.decimal_fix.specs.Rounding.{number, rounded}
use Rattle.decimal_fix.specs.Numerals.{Numeral, signed, decimal_of, scale, magnitude}
use Rattle.decimal_fix.specs.Laws.{PointMoves, SignTurns, OneNumeral, negated}
use Rattle.decimal_fix.proofs.NumeralRelation.{numeral_only}

pub point_moves : PointMoves
point_moves negative whole passed fraction exponent =
    let same : whole ++ (passed ++ fraction) ≡ (whole ++ passed) ++ fraction = sym (append_assoc whole passed fraction) in
    let places : scale (exponent +ℤ pos (length passed)) (length (passed ++ fraction)) ≡ scale exponent (length fraction) = omega (arith, ints, length-append passed fraction) in
    let sizes : rounded (number (whole ++ (passed ++ fraction))) (scale (exponent +ℤ pos (length passed)) (length (passed ++ fraction))) ≡ rounded (number ((whole ++ passed) ++ fraction)) (scale exponent (length fraction)) =
    ap (λ (ds : List ℕ). rounded (number ds) (scale (exponent +ℤ pos (length passed)) (length (passed ++ fraction)))) same
    ∙ ap (λ (p : ℤ). rounded (number ((whole ++ passed) ++ fraction)) p) places in
    ap (decimal_of negative) sizes

turned : (past : Bool) (u : ℕ) → cond past (record { units = signed true 1; beyond = true }) (record { units = signed true u; beyond = false })
    ≡ negated (cond past (record { units = signed false 1; beyond = true }) (record { units = signed false u; beyond = false }))
turned true u = refl
turned false u = refl

pub sign_turns : SignTurns
sign_turns whole fraction exponent =
    let u = magnitude (record { negative = false; whole = whole; fraction = fraction; exponent = exponent }) in
    turned (nat_le (10 ^ 31) u) u

some_is : (x y : Numeral) → Some x ≡ Some y → x ≡ y
some_is x y e = cc

pub one_numeral : OneNumeral
one_numeral t m n r s = some_is m n (sym (numeral_only t m r) ∙ numeral_only t n s)
