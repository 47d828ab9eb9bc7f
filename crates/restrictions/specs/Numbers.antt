-- The number that a literal writes.
use Rattle.std.specs.Prelude.{Option, encode_utf8_all}
use Rattle.ifc_base.specs.declared.value.Decimal.{Decimal}
use Rattle.decimal_fix.specs.Reading.{reading}
use Rattle.pattern_tree.specs.Matching.{Text}

-- the number, if the text is a numeral
unfoldable pub number_of : Text → Option Decimal
number_of literal = reading (encode_utf8_all literal)
