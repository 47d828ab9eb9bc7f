-- The parts of a restriction: which is their fault, if one is, and the condition that they make (IDS 1.0, xs:restriction).
use Rattle.std.specs.Prelude.{ℕ, ◌+◌, ℤ, pos, min, List, [], ◌∷◌, ◌++◌, length, Bool, true, false, not, ◌&&◌, ◌||◌, Option, Some, None, is_some, option_map, option_to_list, flat_map, codes, nat_le, nat_lt, Result, Ok, Err, if◌then◌else◌}
use Rattle.std.specs.List.{list_any, list_all}
use Rattle.std.specs.Option.{option_map_or}
use Rattle.std.specs.Char.{is_ascii_digit}
use Rattle.std.specs.Str.{bytes_eq}
use Rattle.decimal_fix.specs.Numerals.{digits}
use Rattle.decimal_fix.specs.Rounding.{number}
use Rattle.pattern_tree.specs.declared.tree.Tree.{Tree}
use Rattle.pattern_tree.specs.Matching.{Text}
use Rattle.xsd_pattern.specs.declared.fault.PatternFault.{PatternFault}
use Rattle.xsd_pattern.specs.Reading.{reading}
use Rattle.restrictions.specs.declared.condition.Bounds.{Bounds}
use Rattle.restrictions.specs.declared.condition.Condition.{Condition}
use Rattle.restrictions.specs.declared.condition.Condition.TheVariants.{Restricted}
use Rattle.restrictions.specs.declared.condition.Lengths.{Lengths}
use Rattle.restrictions.specs.declared.parts.RestrictionParts.{RestrictionParts}
use Rattle.restrictions.specs.declared.parts.RestrictionFault.{RestrictionFault}
use Rattle.restrictions.specs.declared.parts.RestrictionFault.TheVariants.{BadBase, EmptyRestriction, BadBound, BadLength, Pattern}
use Rattle.restrictions.specs.Numbers.{number_of}

-- ---- the base

-- the bases that bounds may stand with
abbrev pub number_bases : List Text
number_bases = codes "xs:integer" ∷ codes "xs:double" ∷ codes "xs:decimal" ∷ []

-- the other ones
abbrev pub other_bases : List Text
other_bases = codes "xs:string" ∷ codes "xs:boolean" ∷ codes "xs:date" ∷ codes "xs:dateTime" ∷ codes "xs:time" ∷ codes "xs:duration" ∷ []

-- bounds may stand with the base
unfoldable pub is_number_base : Text → Bool
is_number_base base = list_any (bytes_eq base) number_bases

-- the base is one that is built
unfoldable pub is_base : Text → Bool
is_base base = is_number_base base || list_any (bytes_eq base) other_bases

-- ---- the parts besides the base

-- the texts of the bounds that are there
abbrev pub all_bounds : RestrictionParts → List Text
all_bounds p = option_to_list p.min_inclusive ++ option_to_list p.max_inclusive ++ option_to_list p.min_exclusive ++ option_to_list p.max_exclusive

-- the texts of the lengths that are there
abbrev pub all_lengths : RestrictionParts → List Text
all_lengths p = option_to_list p.length ++ option_to_list p.min_length ++ option_to_list p.max_length

-- there is no text
abbrev pub is_none_left : List Text → Bool
is_none_left [] = true
is_none_left (text ∷ texts) = false

-- there is no part besides the base
abbrev pub is_without_parts : RestrictionParts → Bool
is_without_parts p = is_none_left p.enumeration && (is_none_left p.pattern && (is_none_left (all_bounds p) && is_none_left (all_lengths p)))

-- ---- bounds

-- a bound is a numeral whose number isn't Beyond
unfoldable pub is_bound : Text → Bool
is_bound text = option_map_or (λ a. not a.beyond) (number_of text) false

-- its number, in units of 10^-15
unfoldable pub bound_of : Text → ℤ
bound_of text = option_map_or (λ a. a.units) (number_of text) (pos 0)

-- the bounds that parts without a fault ask for
abbrev pub bounds_of : RestrictionParts → Bounds
bounds_of p = record {
  min_inclusive = option_map bound_of p.min_inclusive;
  max_inclusive = option_map bound_of p.max_inclusive;
  min_exclusive = option_map bound_of p.min_exclusive;
  max_exclusive = option_map bound_of p.max_exclusive;
}

-- bounds stand with a base that has none, or both bounds of one side are there
abbrev pub has_misplaced_bound : RestrictionParts → Bool
has_misplaced_bound p =
    (not (is_none_left (all_bounds p)) && not (is_number_base p.base))
    || ((is_some p.min_inclusive && is_some p.min_exclusive) || (is_some p.max_inclusive && is_some p.max_exclusive))

-- a bound isn't one, or is misplaced
abbrev pub has_bad_bound : RestrictionParts → Bool
has_bad_bound p = not (list_all is_bound (all_bounds p)) || has_misplaced_bound p

-- ---- lengths

-- a length is one to nine digits
unfoldable pub is_length : Text → Bool
is_length text = nat_le 1 (length text) && (nat_le (length text) 9 && list_all is_ascii_digit text)

-- the number that they write
unfoldable pub length_of : Text → ℕ
length_of text = number (digits text)

-- the lengths that parts without a fault ask for
abbrev pub lengths_of : RestrictionParts → Lengths
lengths_of p = record {
  length = option_map length_of p.length;
  min_length = option_map length_of p.min_length;
  max_length = option_map length_of p.max_length;
}

-- the least number is over the greatest, if both are there
abbrev pub is_over : Option ℕ → Option ℕ → Bool
is_over None most = false
is_over (Some least) None = false
is_over (Some least) (Some most) = nat_lt most least

-- a whole length stands beside another, or the least is over the greatest
abbrev pub are_misplaced : Lengths → Bool
are_misplaced l = (is_some l.length && (is_some l.min_length || is_some l.max_length)) || is_over l.min_length l.max_length

-- a length isn't one, or lengths are misplaced
abbrev pub has_bad_length : RestrictionParts → Bool
has_bad_length p = not (list_all is_length (all_lengths p)) || are_misplaced (lengths_of p)

-- ---- patterns

-- the tree of a text that is a pattern
abbrev pub tree_of : Result Tree PatternFault → List Tree
tree_of (Ok tree) = tree ∷ []
tree_of (Err fault) = []

-- the trees of the texts that are patterns, in their order
abbrev pub trees : List Text → List Tree
trees texts = flat_map (λ text. tree_of (reading text)) texts

-- the fault of the text of this number
abbrev pub pattern_fault_at : ℕ → PatternFault → RestrictionFault
pattern_fault_at which fault = Pattern (min which 0xFFFF_FFFF) fault

-- the fault of the text of this number, or else what comes behind it
abbrev pub fault_or : ℕ → Result Tree PatternFault → Option RestrictionFault → Option RestrictionFault
fault_or which (Ok tree) later = later
fault_or which (Err fault) later = Some (pattern_fault_at which fault)

-- The fault of the first text that is no pattern, where the texts are numbered from this number on. It carries 4,294,967,295 for a
-- number above that.
abbrev pub pattern_fault : ℕ → List Text → Option RestrictionFault
pattern_fault which [] = None
pattern_fault which (text ∷ texts) = fault_or which (reading text) (pattern_fault (which + 1) texts)

-- ---- all together

-- the first cause that doesn't lie in a pattern
abbrev pub shape_fault : RestrictionParts → Option RestrictionFault
shape_fault p =
    if not (is_base p.base) then Some BadBase
    else if is_without_parts p then Some EmptyRestriction
    else if has_bad_bound p then Some BadBound
    else if has_bad_length p then Some BadLength
    else None

-- the first of two causes, if there is one
abbrev pub or_later : Option RestrictionFault → Option RestrictionFault → Option RestrictionFault
or_later None later = later
or_later (Some fault) later = Some fault

-- The first cause for which the parts are no restriction. The patterns come last.
unfoldable pub parts_fault : RestrictionParts → Option RestrictionFault
parts_fault p = or_later (shape_fault p) (pattern_fault 1 p.pattern)

-- The condition that parts without a fault make. The base changes nothing else.
unfoldable pub condition_of : RestrictionParts → Condition
condition_of p = Restricted (record { enumeration = p.enumeration; patterns = trees p.pattern; bounds = bounds_of p; lengths = lengths_of p })
