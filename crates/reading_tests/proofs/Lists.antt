-- Turns of the reader of lists.
use Rattle.std.proofs.Common.{◌≡◌, ℕ, ◌<◌, ◌≤◌, cond, List, length, Option, Ok, subst, arith}
use Rattle.reading.specs.Reading.{Text, Shortens, ◌>>=◌, all_turns}
use Rattle.reading.proofs.Tools.{bound}
use Rattle.reading.proofs.Turns.{first_turn}
use Rattle.reading_tests.specs.declared.tree.Cause.TheVariants.{BadToken}
use Rattle.reading_tests.specs.declared.token.Token.{Token}
use Rattle.reading_tests.specs.declared.token.Token.TheVariants.{Comma}
use Rattle.reading_tests.specs.declared.tree.Tree.{Tree}
use Rattle.reading_tests.specs.Nest.{Lexed, token, list_turn, tree}
use Rattle.reading_tests.specs.Grammar.{Next}
use Rattle.reading_tests.proofs.TokenLaws.{token_sound, Next-shorter, Comma-shorter}
use Rattle.reading_tests.proofs.Trees.{tree_laws}
use Rattle.reading_tests.proofs.TreeLaws.{step_more, tree_sound}
use Rattle.reading_tests.proofs.TreeComplete.{spells_shorter}

-- a turn that goes on leaves less
list_shortens : (d : ℕ) (at : Text) → Shortens (list_turn (tree d) at)
unfolding list_turn
list_shortens d at s t r u e =
    let b = bound {r = token t} e in
    let p = step_more d (tree d) (tree_sound d) at b.0.0.token b.0.0.at t b.0.1 s r u (token_sound t b.0.0 b.0.1 b.1) b.2 in
    omega (arith, Comma-shorter p.2, spells_shorter p.3)

-- the same by its steps
pub comma_less : (t m : Text) (x : Lexed) → token t ≡ Ok (x, m) → x.token ≡ Comma → length m < length t
comma_less t m x e is = Comma-shorter (subst (λ (k : Token). Next t k m) is (token_sound t x m e))

pub token_less : (t m : Text) (x : Lexed) → token t ≡ Ok (x, m) → length m ≤ length t
token_less t m x e = Next-shorter (token_sound t x m e)

pub item_less : (d : ℕ) (outer : Option Text) (t m u : Text) (x : Lexed) (f : Tree) → token t ≡ Ok (x, m) → tree d outer x m ≡ Ok (f, u) → length u ≤ length t
item_less d outer t m u x f next item = spells_shorter (tree_sound d outer x t m f u (token_sound t x m next) item)

-- one turn, and then all turns from what it left
pub list_turns : (d : ℕ) (at : Text) (s : List Tree) (t : Text)
    → all_turns BadToken (list_turn (tree d) at) s t ≡ (list_turn (tree d) at s t >>= λ x. cond x.0.0 (all_turns BadToken (list_turn (tree d) at) x.0.1 x.1) (Ok (x.0.1, x.1)))
list_turns d at s t = first_turn (list_turn (tree d) at) (list_shortens d at) BadToken s t

pub ruleset list_laws = (tree_laws, list_turns)
