-- What a text spells, by cases. In each relation the last text is what follows what was read.
use Rattle.std.specs.Prelude.{◌≡◌, ℕ, suc, ◌-◌, ◌≤◌, Bool, true, false, ◌&&◌, ◌||◌, List, [], ◌∷◌, ◌==◌}
use Rattle.reading.specs.Codes.{codes_of}
use Rattle.reading.specs.Reading.{Text}
use Rattle.reading.specs.Runs.{begins, IsRun}
use Rattle.reading_tests.specs.declared.tree.Tree.{Tree}
use Rattle.reading_tests.specs.declared.tree.Tree.TheVariants as tree_of
use Rattle.reading_tests.specs.declared.token.Token.{Token}
use Rattle.reading_tests.specs.declared.token.Token.TheVariants as k
use Rattle.reading_tests.specs.Nest.{is_blank, is_digit, number_from, most, max_depth}

-- ---- blanks and comments

-- Inside a comment. It ends at the first slash behind a star; the flag says that a star came before.
pub data Comment : Bool → Text → Text → Type 0 where
  ends : (t : Text) → Comment true (47 ∷ t) t
  goes_on : (star : Bool) (c : ℕ) (t u : Text) → (star && c == 47) ≡ false → Comment (c == 42) t u → Comment star (c ∷ t) u

-- a blank, or a slash, which only comments have
abbrev pub is_gap : ℕ → Bool
is_gap c = c == 47 || is_blank c

-- blanks and comments, and no more of them
pub data Gap : Text → Text → Type 0 where
  none : (t : Text) → begins is_gap t ≡ false → Gap t t
  blank : (c : ℕ) (t u : Text) → (c == 47) ≡ false → is_blank c ≡ true → Gap t u → Gap (c ∷ t) u
  comment : (t v u : Text) → Comment false t v → Gap v u → Gap (47 ∷ 42 ∷ t) u

-- ---- tokens

pub data IsToken : Text → Token → Text → Type 0 where
  end : IsToken [] k.End []
  open_ : (t : Text) → IsToken (40 ∷ t) k.Open t
  close : (t : Text) → IsToken (41 ∷ t) k.Close t
  comma : (t : Text) → IsToken (44 ∷ t) k.Comma t
  number : (c : ℕ) (t ds u : Text) → is_digit c ≡ true → IsRun is_digit t ds u → number_from (c - 48) ds ≤ most → IsToken (c ∷ t) (k.Number (number_from (c - 48) ds)) u

-- the next token
pub data Next : Text → Token → Text → Type 0 where
  next : (t s : Text) (token : Token) (u : Text) → Gap t s → IsToken s token u → Next t token u

-- ---- trees, in which parentheses nest no deeper than the number

mutual
  pub data Spells : ℕ → Text → Tree → Text → Type 0 where
    number : (d n : ℕ) (t u : Text) → Next t (k.Number n) u → Spells d t (tree_of.Number n) u
    list : (d : ℕ) (items : List Tree) (t r u : Text) → Next t k.Open r → Items d r items u → Spells (suc d) t (tree_of.List items) u

  -- behind the parenthesis of a list
  pub data Items : ℕ → Text → List Tree → Text → Type 0 where
    none : (d : ℕ) (t u : Text) → Next t k.Close u → Items d t [] u
    some : (d : ℕ) (item : Tree) (items : List Tree) (t r u : Text) → Spells d t item r → More d r items u → Items d t (item ∷ items) u

  -- behind an item of a list
  pub data More : ℕ → Text → List Tree → Text → Type 0 where
    ends : (d : ℕ) (t u : Text) → Next t k.Close u → More d t [] u
    goes_on : (d : ℕ) (item : Tree) (items : List Tree) (t r s u : Text) → Next t k.Comma r → Spells d r item s → More d s items u → More d t (item ∷ items) u

-- ---- a whole text: behind the tree nothing stands but blanks and comments

pub record Reads (bytes : List ℕ) (x : Tree) : Type 0 where
  pub rest : Text
  pub tree : Spells max_depth (codes_of bytes) x rest
  pub end : Next rest k.End []
