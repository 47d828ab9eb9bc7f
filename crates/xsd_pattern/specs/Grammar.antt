-- What a text is as a pattern, by cases. In each relation the last text is what follows what was read.
use Rattle.std.specs.Prelude.{◌≡◌, ℕ, suc, ◌-◌, ◌≤◌, Bool, true, false, List, [], ◌∷◌, Some, None, length, ◌==◌}
use Rattle.reading.specs.Reading.{Text}
use Rattle.reading.specs.Runs.{begins, IsRun}
use Rattle.pattern_tree.specs.declared.tree.Class.{Class}
use Rattle.pattern_tree.specs.declared.tree.Part.{Part}
use Rattle.pattern_tree.specs.declared.tree.Part.TheVariants as part_of
use Rattle.pattern_tree.specs.declared.tree.Set.{Set}
use Rattle.pattern_tree.specs.declared.tree.Times.{Times}
use Rattle.pattern_tree.specs.declared.tree.Tree.{Tree}
use Rattle.pattern_tree.specs.declared.tree.Tree.TheVariants as tree_of
use Rattle.pattern_tree.specs.Trees.{weight}
use Rattle.xsd_pattern.specs.Characters.{is_reserved, escaped, class_of, is_plain, is_digit}
use Rattle.xsd_pattern.specs.Sets.{range, one, set, literal, any_character}
use Rattle.xsd_pattern.specs.Repeats.{times, most_repeats, number_from}
use Rattle.xsd_pattern.specs.Reading.{most_characters, most_groups, most_weight}

-- ---- sets

-- a character of a class between brackets: one that stands for itself, or an escape
pub data Member : Text → ℕ → Text → Type 0 where
  plain : (c : ℕ) (t : Text) → is_plain c ≡ true → Member (c ∷ t) c t
  escape : (e c : ℕ) (t : Text) → escaped e ≡ Some c → Member (92 ∷ e ∷ t) c t  -- \e

-- a part of a class that isn't a dash
pub data IsPart : Text → Part → Text → Type 0 where
  character : (t : Text) (c : ℕ) (u : Text) → Member t c u → IsPart t (one c) u
  from_to : (t : Text) (a : ℕ) (r : Text) (b : ℕ) (u : Text) → Member t a (45 ∷ r) → Member r b u → a ≤ b → IsPart t (range a b) u  -- a-b
  class : (e : ℕ) (k : Class) (t : Text) → class_of e ≡ Some k → IsPart (92 ∷ e ∷ t) (part_of.Class k) t  -- \d

-- further parts of a class, up to its bracket
pub data Further : Text → List Part → Text → Type 0 where
  ends : (t : Text) → Further (93 ∷ t) [] t  -- ]
  dash : (t : Text) → Further (45 ∷ 93 ∷ t) (one 45 ∷ []) t  -- -]
  more : (t : Text) (p : Part) (r : Text) (ps : List Part) (u : Text) → IsPart t p r → Further r ps u → Further t (p ∷ ps) u

-- the parts of a class, one or more
pub data AllParts : Text → List Part → Text → Type 0 where
  dash : (t : Text) (ps : List Part) (u : Text) → Further t ps u → AllParts (45 ∷ t) (one 45 ∷ ps) u  -- -
  part : (t : Text) (p : Part) (r : Text) (ps : List Part) (u : Text) → IsPart t p r → Further r ps u → AllParts t (p ∷ ps) u

abbrev pub is_caret : ℕ → Bool
is_caret c = c == 94

-- one character of a set
pub data IsSet : Text → Set → Text → Type 0 where
  itself : (c : ℕ) (t : Text) → is_reserved c ≡ false → IsSet (c ∷ t) (literal c) t
  any : (t : Text) → IsSet (46 ∷ t) any_character t  -- .
  escape : (e c : ℕ) (t : Text) → escaped e ≡ Some c → IsSet (92 ∷ e ∷ t) (literal c) t  -- \n
  class : (e : ℕ) (k : Class) (t : Text) → class_of e ≡ Some k → IsSet (92 ∷ e ∷ t) (set false (part_of.Class k ∷ [])) t  -- \d
  among : (t : Text) (ps : List Part) (u : Text) → begins is_caret t ≡ false → AllParts t ps u → IsSet (91 ∷ t) (set false ps) u  -- [abc]
  beside : (t : Text) (ps : List Part) (u : Text) → AllParts t ps u → IsSet (91 ∷ 94 ∷ t) (set true ps) u  -- [^abc]

-- ---- repeats

-- one or more digits, and no more of them
pub data Bound : Text → ℕ → Text → Type 0 where
  bound : (c : ℕ) (t ds u : Text) → is_digit c ≡ true → IsRun is_digit t ds u → number_from (c - 48) ds ≤ most_repeats → Bound (c ∷ t) (number_from (c - 48) ds) u

pub data IsTimes : Text → Times → Text → Type 0 where
  star : (t : Text) → IsTimes (42 ∷ t) (times 0 None) t  -- *
  plus : (t : Text) → IsTimes (43 ∷ t) (times 1 None) t  -- +
  maybe : (t : Text) → IsTimes (63 ∷ t) (times 0 (Some 1)) t  -- ?
  exactly : (t : Text) (n : ℕ) (u : Text) → Bound t n (125 ∷ u) → IsTimes (123 ∷ t) (times n (Some n)) u  -- {n}
  at_least : (t : Text) (n : ℕ) (u : Text) → Bound t n (44 ∷ 125 ∷ u) → IsTimes (123 ∷ t) (times n None) u  -- {n,}
  between : (t : Text) (n : ℕ) (r : Text) (m : ℕ) (u : Text) → Bound t n (44 ∷ r) → Bound r m (125 ∷ u) → n ≤ m → IsTimes (123 ∷ t) (times n (Some m)) u  -- {n,m}

-- ---- parts and sides, in which groups nest no deeper than the number

mutual
  -- what a repeat may stand behind
  pub data IsAtom : ℕ → Text → Tree → Text → Type 0 where
    single : (d : ℕ) (t : Text) (s : Set) (u : Text) → IsSet t s u → IsAtom d t (tree_of.Set s) u
    group : (d : ℕ) (t : Text) (parts others : List Tree) (u : Text) → IsChoice d t parts others (41 ∷ u) → IsAtom (suc d) (40 ∷ t) (tree_of.Choice (tree_of.Sequence parts ∷ others)) u  -- ( )

  -- with its repeat, if one stands behind it
  pub data IsPiece : ℕ → Text → Tree → Text → Type 0 where
    once : (d : ℕ) (t : Text) (x : Tree) (u : Text) → IsAtom d t x u → IsPiece d t x u
    repeated : (d : ℕ) (t : Text) (x : Tree) (r : Text) (n : Times) (u : Text) → IsAtom d t x r → IsTimes r n u → IsPiece d t (tree_of.Repeat x n) u

  -- sides: the parts of the first, and the others, each of which is a sequence
  pub data IsChoice : ℕ → Text → List Tree → List Tree → Text → Type 0 where
    end : (d : ℕ) (t : Text) → IsChoice d t [] [] t
    bar : (d : ℕ) (t : Text) (parts others : List Tree) (u : Text) → IsChoice d t parts others u → IsChoice d (124 ∷ t) [] (tree_of.Sequence parts ∷ others) u  -- |
    piece : (d : ℕ) (t : Text) (x : Tree) (r : Text) (parts others : List Tree) (u : Text) → IsPiece d t x r → IsChoice d r parts others u → IsChoice d t (x ∷ parts) others u

-- ---- a whole text

-- The text is the pattern of this tree, and keeps the limits: on its length, on how deep groups nest, on the bounds of repeats (in `Bound`)
-- and on the weight.
pub record Parses (text : Text) (x : Tree) : Type 0 where
  pub parts : List Tree
  pub others : List Tree
  pub is : x ≡ tree_of.Choice (tree_of.Sequence parts ∷ others)
  pub spelled : IsChoice most_groups text parts others []
  pub short : length text ≤ most_characters
  pub light : weight x ≤ most_weight
