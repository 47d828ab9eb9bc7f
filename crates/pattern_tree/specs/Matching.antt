-- What a pattern matches: whole texts, by cases.
use Rattle.std.specs.Prelude.{◌≡◌, ℕ, suc, ◌≤◌, ◌++◌, List, [], ◌∷◌, true, IfSome}
use Rattle.pattern_tree.specs.declared.tree.Set.{Set}
use Rattle.pattern_tree.specs.declared.tree.Times.{Times}
use Rattle.pattern_tree.specs.declared.tree.Tree.{Tree}
use Rattle.pattern_tree.specs.declared.tree.Tree.TheVariants as pattern
use Rattle.pattern_tree.specs.Trees.{is_of}

-- a text, by its characters
abbrev pub Text : Type 0
Text = List ℕ

-- the number is not below the least and not above the greatest, if there is one
pub record Permits (times : Times) (n : ℕ) : Type 0 where
  pub enough : times.least ≤ n
  pub few : IfSome times.most (λ most. n ≤ most)

mutual
  -- the pattern matches the text as a whole
  pub data Matches : Tree → Text → Type 0 where
    -- a single-character part matches one character of its set
    one : (set : Set) (c : ℕ) → is_of set c ≡ true → Matches (pattern.Set set) (c ∷ [])
    -- a sequence matches what its parts match one behind the other
    sequence : (parts : List Tree) (text : Text) → InTurn parts text → Matches (pattern.Sequence parts) text
    -- an alternation matches what one of its sides matches
    choice : (sides : List Tree) (text : Text) → OfASide sides text → Matches (pattern.Choice sides) text
    -- a repeat matches the join of a permitted number of texts that its part matches
    repeat : (part : Tree) (times : Times) (n : ℕ) (text : Text) → Permits times n → Joined part n text
        → Matches (pattern.Repeat part times) text

  -- the text splits into texts that the patterns match, one after the other
  pub data InTurn : List Tree → Text → Type 0 where
    no_part : InTurn [] []
    next_part : (part : Tree) (parts : List Tree) (first rest text : Text)
        → text ≡ first ++ rest → Matches part first → InTurn parts rest → InTurn (part ∷ parts) text

  -- one of the patterns matches the text
  pub data OfASide : List Tree → Text → Type 0 where
    first_side : (side : Tree) (sides : List Tree) (text : Text) → Matches side text → OfASide (side ∷ sides) text
    later_side : (side : Tree) (sides : List Tree) (text : Text) → OfASide sides text → OfASide (side ∷ sides) text

  -- the text is the join of so many texts that the pattern matches
  pub data Joined : Tree → ℕ → Text → Type 0 where
    no_text : (part : Tree) → Joined part 0 []
    next_text : (part : Tree) (n : ℕ) (first rest text : Text) → text ≡ first ++ rest → Matches part first → Joined part n rest
        → Joined part (suc n) text
