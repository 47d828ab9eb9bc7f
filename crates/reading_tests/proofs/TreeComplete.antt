-- What is spelled as a tree is read as that tree.
use Rattle.std.proofs.Common.{◌≡◌, ℕ, ◌≤◌, true, List, [], ◌∷◌, ◌++◌, length, Option, Some, Ok, refl, sym, ap, ◌∙◌, subst, append_assoc, arith}
use Rattle.std.proofs.lemmas.List.{append-nil}
use Rattle.reading.specs.Reading.{Text, Refused, Read, ◌>>=◌, all_turns}
use Rattle.reading.proofs.Tools.{bound, ok_is, Run, all_run}
use Rattle.reading_tests.specs.declared.tree.Cause.{Cause}
use Rattle.reading_tests.specs.declared.tree.Cause.TheVariants.{BadToken}
use Rattle.reading_tests.specs.declared.token.Token.{Token}
use Rattle.reading_tests.specs.declared.token.Token.TheVariants.{Open, Close, Number}
use Rattle.reading_tests.specs.declared.tree.Tree.{Tree}
use Rattle.reading_tests.specs.declared.tree.Tree.TheVariants as tree_of
use Rattle.reading_tests.specs.Nest.{Lexed, token, Reader, list_end, list_turn, list_from, list, tree}
use Rattle.reading_tests.specs.Grammar.{Next, Spells, Items, More}
use Rattle.reading_tests.proofs.Trees.{tree_is}
use Rattle.reading_tests.proofs.TokenLaws.{token_complete, Next-shorter, Comma-shorter}

-- the next token, and the tree that begins with it
abbrev pub tree_at : ℕ → Option Text → Text → Read Cause Tree
tree_at d outer t = token t >>= λ x. tree d outer x.0 x.1

mutual
  pub spells_shorter : {d : ℕ} {t : Text} {x : Tree} {u : Text} → Spells d t x u → length u ≤ length t
  spells_shorter (Spells.number d m t u n) = Next-shorter n
  spells_shorter (Spells.list d items t r u n inside) = omega (arith, Next-shorter n, items_shorter inside)

  items_shorter : {d : ℕ} {t : Text} {x : List Tree} {u : Text} → Items d t x u → length u ≤ length t
  items_shorter (Items.none d t u n) = Next-shorter n
  items_shorter (Items.some d item items t r u first others) = omega (arith, spells_shorter first, more_shorter others)

  more_shorter : {d : ℕ} {t : Text} {x : List Tree} {u : Text} → More d t x u → length u ≤ length t
  more_shorter (More.ends d t u n) = Next-shorter n
  more_shorter (More.goes_on d item items t r s u n first others) = omega (arith, Next-shorter n, spells_shorter first, more_shorter others)

-- the first token of a tree is not the parenthesis that closes a list
abbrev Begins : Text → Type 0
Begins t = (k : Token) × (s : Text) × Next t k s × (k ≡ Close → ⊥)

begins_tree : {d : ℕ} {t : Text} {x : Tree} {u : Text} → Spells d t x u → Begins t
begins_tree (Spells.number d m t u n) = (Number m, u, n, λ e. cc)
begins_tree (Spells.list d items t r u n inside) = (Open, r, n, λ e. cc)

list_from_item : (inner : Reader) (at : Text) (k : Token) (x : Lexed) (t : Text) → (k ≡ Close → ⊥)
    → list_from inner at k x t ≡ (inner (Some at) x t >>= λ f. all_turns BadToken (list_turn inner at) (f.0 ∷ []) f.1 >>= λ s. list_end s)
list_from_item inner at Close x t no_close = absurd (no_close refl)
list_from_item inner at k x t no_close = refl

-- a list, whose first token and item were read so
list_by : (inner : Reader) (at t : Text) (k : Token) (here s : Text) (f : Tree) (r : Text) → token t ≡ Ok (record { token = k; at = here }, s) → (k ≡ Close → ⊥)
    → inner (Some at) (record { token = k; at = here }) s ≡ Ok (f, r) → list inner at t ≡ (all_turns BadToken (list_turn inner at) (f ∷ []) r >>= λ s. list_end s)
unfolding list
list_by inner at t k here s f r first no_close item = rw (first, list_from_item inner at k (record { token = k; at = here }) s no_close, item) refl

mutual
  unfolding tree list list_turn

  pub tree_complete : {d : ℕ} {t : Text} {x : Tree} {u : Text} (outer : Option Text) → Spells d t x u → tree_at d outer t ≡ Ok (x, u)
  tree_complete outer (Spells.number d m t u n) = let k = token_complete n in rw (k.1, tree_is d outer (record { token = Number m; at = k.0 }) u) refl
  tree_complete outer (Spells.list d items t r u n inside) = let k = token_complete n in rw (k.1, list_complete k.0 inside) refl

  list_complete : {d : ℕ} {t : Text} {items : List Tree} {u : Text} (at : Text) → Items d t items u → list (tree d) at t ≡ Ok (tree_of.List items, u)
  list_complete at (Items.none d t u n) = let k = token_complete n in rw k.1 refl
  list_complete at (Items.some d item items t r u first others) =
      let begin = begins_tree first in
      let k = token_complete begin.2 in
      let b = bound {r = token t} (tree_complete (Some at) first) in
      let same = ok_is {E = Refused Cause} (record { token = begin.0; at = k.0 }, begin.1) b.0 (sym k.1 ∙ b.1) in
      let read : tree d (Some at) (record { token = begin.0; at = k.0 }) begin.1 ≡ Ok (item, r) = ap (λ (x : Lexed × Text). tree d (Some at) x.0 x.1) same ∙ b.2 in
      let loop = all_run BadToken (list_turn (tree d) at) (more_runs at (item ∷ []) others) in
      list_by (tree d) at t begin.0 k.0 begin.1 item r k.1 begin.3 read ∙ rw loop refl

  more_runs : {d : ℕ} {t : Text} {items : List Tree} {u : Text} (at : Text) (before : List Tree) → More d t items u → Run (list_turn (tree d) at) before t (before ++ items) u
  more_runs at before (More.ends d t u n) =
      let k = token_complete n in
      rw (append-nil before) (Run.last before t before u (rw k.1 refl))
  more_runs at before (More.goes_on d item items t r s u n first others) =
      let k = token_complete n in
      let b = bound {r = token r} (tree_complete (Some at) first) in
      let turn : list_turn (tree d) at before t ≡ Ok ((true, before ++ item ∷ []), s) = rw (k.1, b.1, b.2) refl in
      let rest = more_runs at (before ++ item ∷ []) others in
      subst (λ (all : List Tree). Run (list_turn (tree d) at) before t all u) (append_assoc before (item ∷ []) items)
      (Run.more before t (before ++ item ∷ []) s ((before ++ item ∷ []) ++ items) u turn (omega (arith, Comma-shorter n, spells_shorter first)) rest)
