-- Whether a pattern matches a text as a whole, as a test by the splits of the text. It says the same as the relation `Matches`.
use Rattle.std.specs.Prelude.{ℕ, zero, suc, ◌+◌, List, [], ◌∷◌, map, length, Bool, true, false, ◌&&◌, Option, Some, None, nat_le}
use Rattle.std.specs.List.{list_any, range_with_len}
use Rattle.pattern_tree.specs.declared.tree.Set.{Set}
use Rattle.pattern_tree.specs.declared.tree.Times.{Times}
use Rattle.pattern_tree.specs.declared.tree.Tree.{Tree}
use Rattle.pattern_tree.specs.declared.tree.Tree.TheOpen.{Tree-F}
use Rattle.pattern_tree.specs.Matching.{Text}
use Rattle.pattern_tree.specs.Trees.{Level, fold_tree, is_of}

-- a test of texts
abbrev pub Test : Type 0
Test = Text → Bool

-- the empty text
abbrev pub is_empty : Test
is_empty [] = true
is_empty (c ∷ text) = false

-- a split of a text with one more character at its front
abbrev pub with_first : ℕ → Text × Text → Text × Text
with_first c split = (c ∷ split.0, split.1)

-- all ways to split the text in two
abbrev pub splits : Text → List (Text × Text)
splits [] = ([], []) ∷ []
splits (c ∷ text) = ([], c ∷ text) ∷ map (with_first c) (splits text)

-- the text splits in two, of which the first passes the one test and the rest the other
abbrev pub splits_by : Test → Test → Test
splits_by first rest text = list_any (λ split. first split.0 && rest split.1) (splits text)

-- the text is one character of the set
abbrev pub is_one_of : Set → Test
is_one_of set [] = false
is_one_of set (c ∷ text) = is_of set c && is_empty text

-- the text splits into texts that pass the tests, one after the other
abbrev pub in_turn : List Test → Test
in_turn [] text = is_empty text
in_turn (part ∷ parts) text = splits_by part (in_turn parts) text

-- the text is the join of so many texts that pass the test
abbrev pub joins : ℕ → Test → Test
joins zero part text = is_empty text
joins (suc n) part text = splits_by part (joins n part) text

-- the number is not above the greatest, if there is one
abbrev pub is_at_most : Option ℕ → ℕ → Bool
is_at_most None n = true
is_at_most (Some most) n = nat_le n most

-- the number is not below the least and not above the greatest, if there is one
abbrev pub permits : Times → ℕ → Bool
permits times n = nat_le times.least n && is_at_most times.most n

-- The text is the join of a permitted number of texts that pass the test. Only numbers up to the least and the length of the text
-- together are tried: of more texts some beyond the least number would be empty, and a join stays what it is without these.
abbrev pub repeats : Times → Test → Test
repeats times part text = list_any (λ n. permits times n && joins n part text) (range_with_len 0 (times.least + length text + 1))

-- the test at one level of a pattern, where each pattern within is its test
abbrev pub match_at : Level Test → Test
match_at (Tree-F.Set set) text = is_one_of set text
match_at (Tree-F.Sequence parts) text = in_turn parts text
match_at (Tree-F.Choice sides) text = list_any (λ side. side text) sides
match_at (Tree-F.Repeat part times) text = repeats times part text

-- the pattern matches the text as a whole
unfoldable pub does_match : Tree → Text → Bool
does_match tree text = fold_tree match_at tree text
