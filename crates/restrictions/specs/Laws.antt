-- Laws of the definitions.
use Rattle.std.specs.Prelude.{◌≡◌, ◌⊎◌, ◌↔◌, ℕ, List, [], ◌∷◌, ◌++◌, map, Option, None, Ok, IsTrue}
use Rattle.ifc_base.specs.declared.value.Value.{Value}
use Rattle.ifc_base.specs.Tree.{text_value}
use Rattle.pattern_tree.specs.declared.tree.Tree.{Tree}
use Rattle.pattern_tree.specs.Matching.{Text, Matches}
use Rattle.restrictions.specs.declared.condition.Bounds.{Bounds}
use Rattle.restrictions.specs.declared.condition.Condition.{Condition}
use Rattle.restrictions.specs.declared.condition.Condition.TheVariants.{Simple, Restricted}
use Rattle.restrictions.specs.declared.condition.Constraints.{Constraints}
use Rattle.restrictions.specs.declared.condition.Lengths.{Lengths}
use Rattle.xsd_pattern.specs.Reading.{reading}
use Rattle.restrictions.specs.Admitting.{admits, admits_text}
use Rattle.restrictions.specs.Building.{pattern_fault, trees}
use Rattle.restrictions.specs.Matching.{does_match}

-- The test by splits is true exactly where the pattern matches.
abbrev pub DecidesMatches : Type 0
DecidesMatches = (tree : Tree) (text : Text) → IsTrue (does_match tree text) ↔ Matches tree text

-- A condition admits a name as the string of its characters.
abbrev pub NamesAreTexts : Type 0
NamesAreTexts = (condition : Condition) (name : List ℕ) → admits condition (text_value name) ≡ admits_text condition name

-- ---- conditions that admit the same, or no less

-- the other condition admits every value that the one does
abbrev pub NoLess : Condition → Condition → Type 0
NoLess one other = (value : Value) → IsTrue (admits one value) → IsTrue (admits other value)

-- no bound, and no length
abbrev pub no_bounds : Bounds
no_bounds = record { min_inclusive = None; max_inclusive = None; min_exclusive = None; max_exclusive = None }

abbrev pub no_lengths : Lengths
no_lengths = record { length = None; min_length = None; max_length = None }

-- the restriction that has this enumeration alone
abbrev pub enumerated : List Text → Constraints
enumerated texts = record { enumeration = texts; patterns = []; bounds = no_bounds; lengths = no_lengths }

-- A simple text admits what an enumeration of that one text admits.
abbrev pub SimpleIsOne : Type 0
SimpleIsOne = (literal : Text) (value : Value) → admits (Simple literal) value ≡ admits (Restricted (enumerated (literal ∷ []))) value

-- A further enumeration beside others never admits less.
abbrev pub EnumerationsWiden : Type 0
EnumerationsWiden = (p : Constraints) (first further : Text) (others : List Text) → p.enumeration ≡ first ∷ others
    → NoLess (Restricted p) (Restricted (record p { enumeration = p.enumeration ++ further ∷ [] }))

-- Nor does a further pattern beside others.
abbrev pub PatternsWiden : Type 0
PatternsWiden = (p : Constraints) (first further : Tree) (others : List Tree) → p.patterns ≡ first ∷ others
    → NoLess (Restricted p) (Restricted (record p { patterns = p.patterns ++ further ∷ [] }))

-- a part that isn't there, or the same one
abbrev pub IsPartOf : {A : Type 0} → Option A → Option A → Type 0
IsPartOf less more = (less ≡ None) ⊎ (less ≡ more)

-- all parts of the one are parts of the other, which may have further bounds and lengths
pub record HasFurther (more less : Constraints) : Type 0 where
  pub enumeration : less.enumeration ≡ more.enumeration
  pub patterns : less.patterns ≡ more.patterns
  pub min_inclusive : IsPartOf less.bounds.min_inclusive more.bounds.min_inclusive
  pub max_inclusive : IsPartOf less.bounds.max_inclusive more.bounds.max_inclusive
  pub min_exclusive : IsPartOf less.bounds.min_exclusive more.bounds.min_exclusive
  pub max_exclusive : IsPartOf less.bounds.max_exclusive more.bounds.max_exclusive
  pub length : IsPartOf less.lengths.length more.lengths.length
  pub min_length : IsPartOf less.lengths.min_length more.lengths.min_length
  pub max_length : IsPartOf less.lengths.max_length more.lengths.max_length

-- Further bounds and lengths never admit more.
abbrev pub BoundsNarrow : Type 0
BoundsNarrow = (more less : Constraints) → HasFurther more less → NoLess (Restricted more) (Restricted less)

-- ---- parts

-- Where no text of these is a fault, each of them is read, in its order.
abbrev pub PatternsAreRead : Type 0
PatternsAreRead = (which : ℕ) (texts : List Text) → pattern_fault which texts ≡ None → map reading texts ≡ map (λ tree. Ok tree) (trees texts)
