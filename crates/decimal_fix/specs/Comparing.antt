-- When a decimal equals a literal within the tolerance, and on which side of it it lies.
use Rattle.std.specs.Prelude.{◌≡◌, ℤ, pos, negsuc, ◌+◌, ◌*◌, ◌^◌, ◌≤◌, ◌-ℤ◌, ◌<ℤ◌, nat_abs, nat_le, Bool, true, false, not, ◌&&◌}
use Rattle.std.specs.Ordering.{int_cmp}
use Rattle.std.specs.declared.cmp.Ordering.{Ordering}
use Rattle.std.specs.declared.cmp.Ordering.TheVariants.{Less, Greater}
use Rattle.ifc_base.specs.declared.value.Decimal.{Decimal}

-- neither is Beyond, and they differ by at most a millionth of the literal and a millionth of one
pub record Equal (a literal : Decimal) : Type 0 where
  pub known : a.beyond ≡ false
  pub literal_known : literal.beyond ≡ false
  pub near : nat_abs (a.units -ℤ literal.units) * 10 ^ 6 ≤ nat_abs literal.units + 10 ^ 15

-- the same as a test
unfoldable pub is_near : Decimal → Decimal → Bool
is_near a literal = not a.beyond && (not literal.beyond && nat_le (nat_abs (a.units -ℤ literal.units) * 10 ^ 6) (nat_abs literal.units + 10 ^ 15))

-- the side on which a number that is Beyond lies; 0 counts as positive
abbrev pub side : ℤ → Ordering
side (pos n) = Greater
side (negsuc n) = Less

abbrev pub compared : Bool → ℤ → ℤ → Ordering
compared true units literal = side units
compared false units literal = int_cmp units literal

-- how a number stands to a literal, without tolerance; what is Beyond lies past every literal, on the side of its sign
unfoldable pub comparison : Decimal → Decimal → Ordering
comparison a literal = compared a.beyond a.units literal.units

abbrev pub lies_before : Bool → ℤ → ℤ → Type 0
lies_before true units literal = units <ℤ pos 0
lies_before false units literal = units <ℤ literal

-- the number is less than the literal: by its units, or because it is Beyond and negative
abbrev pub Before : Decimal → Decimal → Type 0
Before a literal = lies_before a.beyond a.units literal.units
