-- A set as it is searched: its ranges in order, and its classes.
use Rattle.std.specs.Prelude.{◌≡◌, ℕ, max, map, Bool, not, ◌||◌, if◌then◌else◌, List, [], ◌∷◌}
use Rattle.std.specs.List.{list_any, All}
use Rattle.std.specs.List.Sorted.{IsNonDecreasingBy}
use Rattle.pattern_tree.specs.declared.tree.Class.{Class}
use Rattle.pattern_tree.specs.declared.tree.Set.{Set}
use Rattle.pattern_tree.specs.declared.range.Range.{Range}
use Rattle.pattern_tree.specs.declared.search.SearchSet.{SearchSet}
use Rattle.pattern_tree.specs.Trees.{is_within, is_of_class, is_of}

-- the character is in the range
abbrev pub is_in_range : ℕ → Range → Bool
is_in_range c range = is_within range.first range.last c

-- neither the first characters of the ranges fall nor the last ones
pub record AreRising (ranges : List Range) : Type 0 where
  pub firsts : IsNonDecreasingBy (λ range. range.first) ranges
  pub lasts : IsNonDecreasingBy (λ range. range.last) ranges

-- the range, ended by this character
abbrev pub ended_by : Range → ℕ → Range
ended_by range last = record { first = range.first; last = last }

-- the ranges, each ended by the greatest last character up to it
abbrev pub raised : ℕ → List Range → List Range
raised top [] = []
raised top (range ∷ ranges) = ended_by range (max top range.last) ∷ raised (max top range.last) ranges

-- the character is in one of the ranges or of one of the classes
abbrev pub is_among : List Range → List Class → ℕ → Bool
is_among ranges classes c = list_any (is_in_range c) ranges || list_any (λ class. is_of_class class c) classes

-- what the set says of the character
abbrev pub is_found : SearchSet → ℕ → Bool
is_found set c = if set.negated then not (is_among set.ranges.items set.classes.items c) else is_among set.ranges.items set.classes.items c

-- what each of the sets says of the character
abbrev pub found_in : List SearchSet → ℕ → List Bool
found_in sets c = map (λ set. is_found set c) sets

-- the ranges of each set rise
abbrev pub AreInOrder : List SearchSet → Type 0
AreInOrder sets = All (λ set. AreRising set.ranges.items) sets

-- it is searched for what the set holds
pub record Serves (search : SearchSet) (set : Set) : Type 0 where
  pub rising : AreRising search.ranges.items
  pub same : (c : ℕ) → is_found search c ≡ is_of set c
