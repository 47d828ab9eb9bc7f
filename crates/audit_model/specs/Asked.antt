-- Conditions that a facet may leave out.
use Rattle.std.specs.Prelude.{ℕ, List, Bool, true, false, Option, Some, None}
use Rattle.std.specs.Option.{option_map_or}
use Rattle.ifc_base.specs.declared.value.Value.{Value}
use Rattle.restrictions.specs.declared.condition.Condition.{Condition}
use Rattle.restrictions.specs.Admitting.{admits, admits_text}

-- Where no condition is asked for, everything is admitted.

abbrev pub admits_if_asked : Option Condition → Value → Bool
admits_if_asked asked value = option_map_or (λ condition. admits condition value) asked true

-- what isn't there is admitted only where nothing is asked for
abbrev pub admits_text_if_asked : Option Condition → Option (List ℕ) → Bool
admits_text_if_asked None text = true
admits_text_if_asked (Some condition) text = option_map_or (admits_text condition) text false
