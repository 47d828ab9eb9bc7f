-- Which values and texts a condition admits (IDS 1.0, simpleValue and xs:restriction).
use Rattle.std.specs.Prelude.{ℕ, ℤ, pos, ◌*ℤ◌, ◌^◌, List, length, Bool, true, false, not, ◌&&◌, ◌||◌, Option, Some, None, codes, nat_eq, ◌==◌, nat_le, if◌then◌else◌}
use Rattle.std.specs.List.{list_any}
use Rattle.std.specs.Option.{option_map_or}
use Rattle.std.specs.Ordering.{int_eq}
use Rattle.std.specs.Str.{bytes_eq}
use Rattle.std.specs.declared.cmp.Ordering.{Ordering}
use Rattle.std.specs.declared.cmp.Ordering.TheVariants.{Less, Equal, Greater}
use Rattle.ifc_base.specs.declared.value.Decimal.{Decimal}
use Rattle.ifc_base.specs.declared.value.Value.{Value}
use Rattle.ifc_base.specs.declared.value.ValueNode.TheOpen.{ValueNode-F}
use Rattle.ifc_base.specs.Tree.{Level, fold_value}
use Rattle.decimal_fix.specs.Comparing.{is_near, comparison}
use Rattle.pattern_tree.specs.Matching.{Text}
use Rattle.restrictions.specs.Matching.{does_match}
use Rattle.restrictions.specs.Numbers.{number_of}
use Rattle.restrictions.specs.declared.condition.Bounds.{Bounds}
use Rattle.restrictions.specs.declared.condition.Condition.{Condition}
use Rattle.restrictions.specs.declared.condition.Condition.TheVariants.{Simple, Restricted}
use Rattle.restrictions.specs.declared.condition.Constraints.{Constraints}
use Rattle.restrictions.specs.declared.condition.Lengths.{Lengths}
use Rattle.restrictions.specs.declared.number.Number.{Number}
use Rattle.restrictions.specs.declared.number.Number.TheVariants.{Whole, Real}

-- ---- what a value is compared as

-- a number or a text
pub data Compared : Type 0 where
  as_number : Number → Compared
  as_text : Text → Compared

-- The text under which an enumeration's name is compared: truth values are `true`, `false` and `unknown`.
abbrev pub enumeration_text : Text → Text
enumeration_text name =
    if bytes_eq name (codes "T") then codes "true"
    else if bytes_eq name (codes "F") then codes "false"
    else if bytes_eq name (codes "U") then codes "unknown"
    else name

-- ditto at one level, where a value within is what it is compared as
abbrev pub compared_at : Level (Option Compared) → Option Compared
compared_at (ValueNode-F.Int n) = Some (as_number (Whole n))
compared_at (ValueNode-F.Real a) = Some (as_number (Real a))
compared_at (ValueNode-F.Text t) = Some (as_text t)
compared_at (ValueNode-F.Enumer name) = Some (as_text (enumeration_text name))
compared_at (ValueNode-F.Typed keyword inner) = inner
compared_at _ = None

-- What a value is compared as, its typed wrappers taken off. A value that is absent or derived, a binary, a reference and a list are
-- compared as nothing.
abbrev pub compared : Value → Option Compared
compared = fold_value compared_at

-- the decimal of so many units of 10^-15
abbrev pub of_units : ℤ → Decimal
of_units n = record { units = n; beyond = false }

-- a whole number, in units of 10^-15
abbrev pub whole_units : ℤ → ℤ
whole_units n = n *ℤ pos (10 ^ 15)

-- the number as a decimal
abbrev pub amount : Number → Decimal
amount (Whole n) = of_units (whole_units n)
amount (Real a) = a

-- the number, if it is one
abbrev pub number_in : Compared → Option Decimal
number_in (as_number n) = Some (amount n)
number_in (as_text t) = None

-- the text, if it is one
abbrev pub text_in : Compared → Option Text
text_in (as_number n) = None
text_in (as_text t) = Some t

-- ---- a literal: a simple text, or one of an enumeration

-- the number equals the one that a literal writes: a whole number exactly, a real one within the tolerance of decimals
abbrev pub equals_number : Number → Decimal → Bool
equals_number (Whole n) literal = not literal.beyond && int_eq (whole_units n) literal.units
equals_number (Real a) literal = is_near a literal

-- The literal equals a number where it is a numeral that does, and a text where the characters are the same.
abbrev pub equals : Text → Compared → Bool
equals literal (as_number n) = option_map_or (equals_number n) (number_of literal) false
equals literal (as_text t) = bytes_eq literal t

-- ---- bounds, which admit numbers alone and have no tolerance

-- the one order
abbrev pub is_less : Ordering → Bool
is_less Less = true
is_less Equal = false
is_less Greater = false

-- the other order
abbrev pub is_greater : Ordering → Bool
is_greater Less = false
is_greater Equal = false
is_greater Greater = true

-- where a number stands to a bound, which is in units of 10^-15
abbrev pub stands : Decimal → ℤ → Ordering
stands a bound = comparison a (of_units bound)

-- a number that passes the test
abbrev pub is_number_where : (Decimal → Bool) → Compared → Bool
is_number_where test c = option_map_or test (number_in c) false

-- a number that isn't below the bound
abbrev pub from : ℤ → Compared → Bool
from bound c = is_number_where (λ a. not (is_less (stands a bound))) c

-- a number that isn't above the bound
abbrev pub up_to : ℤ → Compared → Bool
up_to bound c = is_number_where (λ a. not (is_greater (stands a bound))) c

-- a number above the bound
abbrev pub above : ℤ → Compared → Bool
above bound c = is_number_where (λ a. is_greater (stands a bound)) c

-- a number below the bound
abbrev pub below : ℤ → Compared → Bool
below bound c = is_number_where (λ a. is_less (stands a bound)) c

-- ---- patterns and lengths, which admit texts alone

-- a text that passes the test
abbrev pub is_text_where : (Text → Bool) → Compared → Bool
is_text_where test c = option_map_or test (text_in c) false

-- a text of so many characters
abbrev pub has_length : ℕ → Compared → Bool
has_length n c = is_text_where (λ t. nat_eq (length t) n) c

-- a text of so many characters or more
abbrev pub has_at_least : ℕ → Compared → Bool
has_at_least n c = is_text_where (λ t. nat_le n (length t)) c

-- a text of so many characters or fewer
abbrev pub has_at_most : ℕ → Compared → Bool
has_at_most n c = is_text_where (λ t. nat_le (length t) n) c

-- ---- conditions

-- what isn't asked for is met
abbrev pub asked : {A : Type 0} → Option A → (A → Bool) → Bool
asked part test = option_map_or test part true

-- some of the list passes, if it has any
abbrev pub some_if_any : {A : Type 0} → List A → (A → Bool) → Bool
some_if_any xs test = length xs == 0 || list_any test xs

-- all bounds admit it
abbrev pub keeps_bounds : Bounds → Compared → Bool
keeps_bounds b c =
    asked b.min_inclusive (λ bound. from bound c)
    && (asked b.max_inclusive (λ bound. up_to bound c)
    && (asked b.min_exclusive (λ bound. above bound c)
    && asked b.max_exclusive (λ bound. below bound c)))

-- all lengths admit it
abbrev pub keeps_lengths : Lengths → Compared → Bool
keeps_lengths l c =
    asked l.length (λ n. has_length n c) && (asked l.min_length (λ n. has_at_least n c) && asked l.max_length (λ n. has_at_most n c))

-- some enumeration equals it, if there is one
abbrev pub keeps_enumeration : Constraints → Compared → Bool
keeps_enumeration p c = some_if_any p.enumeration (λ literal. equals literal c)

-- some pattern matches it, if there is one
abbrev pub keeps_patterns : Constraints → Compared → Bool
keeps_patterns p c = some_if_any p.patterns (λ tree. is_text_where (does_match tree) c)

-- What the condition admits of what a value is compared as. A simple text admits what equals it. A restriction admits where all its bounds and lengths do, some enumeration equals if it has any,
-- and some pattern matches if it has any.
abbrev pub admits_compared : Condition → Compared → Bool
admits_compared (Simple literal) c = equals literal c
admits_compared (Restricted p) c = keeps_bounds p.bounds c && (keeps_lengths p.lengths c && (keeps_enumeration p c && keeps_patterns p c))

-- The condition admits the value. A value that is compared as nothing is admitted by nothing.
unfoldable pub admits : Condition → Value → Bool
admits condition value = option_map_or (admits_compared condition) (compared value) false

-- the condition admits a string of these characters, as it admits a name
unfoldable pub admits_text : Condition → Text → Bool
admits_text condition t = admits_compared condition (as_text t)
