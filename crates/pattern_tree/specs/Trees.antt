-- Patterns as trees: which characters a set holds, and how much a pattern weighs.
use Rattle.std.specs.Prelude.{ℕ, ◌*◌, max, map, unwrap_or, Bool, not, ◌&&◌, ◌||◌, ◌==◌, nat_le, if◌then◌else◌}
use Rattle.std.specs.Prelude.{List, [], ◌∷◌, ◌++◌, sum}
use Rattle.std.specs.List.{list_any}
use Rattle.std.specs.Borrow.{Bor}
use Rattle.pattern_tree.specs.declared.tree.Class.{Class}
use Rattle.pattern_tree.specs.declared.tree.Class.TheVariants as class
use Rattle.pattern_tree.specs.declared.tree.Part.{Part}
use Rattle.pattern_tree.specs.declared.tree.Part.TheVariants as part
use Rattle.pattern_tree.specs.declared.tree.Set.{Set}
use Rattle.pattern_tree.specs.declared.tree.Times.{Times}
use Rattle.pattern_tree.specs.declared.tree.Tree.{Tree}
use Rattle.pattern_tree.specs.declared.tree.Tree.TheOpen.{Tree-F}
use Rattle.pattern_tree.specs.declared.tree.Tree.TheFolds.{fold-Tree}

-- the character is one from the first to the last
abbrev pub is_within : ℕ → ℕ → ℕ → Bool
is_within first last c = nat_le first c && nat_le c last

-- a digit: 0 to 9
abbrev pub is_digit : ℕ → Bool
is_digit c = is_within 48 57 c

-- an ASCII letter or digit, or one of $ + < = > ^ | ~ and the grave accent; the underscore is none
abbrev pub is_word : ℕ → Bool
is_word c =
    is_digit c || is_within 65 90 c || is_within 97 122 c
    || c == 36 || c == 43 || is_within 60 62 c || c == 94 || c == 96 || c == 124 || c == 126

-- a tab, a line feed, a carriage return or a space
abbrev pub is_space : ℕ → Bool
is_space c = c == 9 || c == 10 || c == 13 || c == 32

-- the character is of the class
unfoldable pub is_of_class : Class → ℕ → Bool
is_of_class class.Digit c = is_digit c
is_of_class class.Word c = is_word c
is_of_class class.Space c = is_space c
is_of_class class.NotDigit c = not (is_digit c)
is_of_class class.NotWord c = not (is_word c)
is_of_class class.NotSpace c = not (is_space c)

-- the character is in the part of a set
unfoldable pub is_in_part : ℕ → Part → Bool
is_in_part c (part.Range first last) = is_within first last c
is_in_part c (part.Class class) = is_of_class class c

-- the set holds the character: one of its parts does, or, where it is negated, none does
abbrev pub is_of : Set → ℕ → Bool
is_of set c = if set.negated then not (list_any (is_in_part c) set.parts) else list_any (is_in_part c) set.parts

-- how often a repeat counts what it repeats: as often as its greatest number says, or its least where
-- there is no greatest, but once at least
abbrev pub repeat_weight : Times → ℕ
repeat_weight times = max (unwrap_or times.most times.least) 1

-- one level of a pattern, with an A in the place of each pattern within
abbrev pub Level : Type 0 → Type 0
Level A = Tree-F A

-- the function of patterns whose answer comes by this step from the answers at the patterns within
abbrev pub fold_tree : {A : Type 0} → (Level A → A) → Tree → A
fold_tree {A} step tree = fold-Tree A step tree

-- the weight at one level
abbrev pub weight_at : Level ℕ → ℕ
weight_at (Tree-F.Set set) = 1
weight_at (Tree-F.Sequence parts) = sum parts
weight_at (Tree-F.Choice sides) = sum sides
weight_at (Tree-F.Repeat part times) = part * repeat_weight times

-- The weight of a pattern: how many single-character parts it has, each as often as the repeats around
-- it say.
abbrev pub weight : Tree → ℕ
weight = fold_tree weight_at

-- the lists one behind the other
abbrev pub one_after_another : List (List Set) → List Set
one_after_another [] = []
one_after_another (sets ∷ others) = sets ++ one_after_another others

-- at one level: the set of a single-character part, and of any other pattern those of the patterns within
abbrev pub sets_at : Level (List Set) → List Set
sets_at (Tree-F.Set set) = set ∷ []
sets_at (Tree-F.Sequence parts) = one_after_another parts
sets_at (Tree-F.Choice sides) = one_after_another sides
sets_at (Tree-F.Repeat part times) = part

-- the sets of a pattern's single-character parts, from left to right
abbrev pub sets_of : Tree → List Set
sets_of = fold_tree sets_at

-- the sets that are referred to
abbrev pub values : List (Bor Set) → List Set
values sets = map (λ set. set.now) sets

-- what each of the sets says of the character
abbrev pub hits_in : List Set → ℕ → List Bool
hits_in sets c = map (λ set. is_of set c) sets
