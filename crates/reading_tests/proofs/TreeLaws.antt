-- Trees: what is read is spelled so.
use Rattle.std.proofs.Common.{◌≡◌, ℕ, zero, suc, Bool, true, false, List, [], ◌∷◌, ◌++◌, Option, Some, None, Ok, refl, sym, ap, ◌∙◌, subst, append_assoc}
use Rattle.std.proofs.lemmas.List.{append-nil}
use Rattle.reading.specs.Reading.{Text, Refused, turns, all_turns}
use Rattle.reading.proofs.Tools.{bound, ok_is, each_sound}
use Rattle.reading_tests.specs.declared.tree.Cause.{Cause}
use Rattle.reading_tests.specs.declared.tree.Cause.TheVariants.{BadToken}
use Rattle.reading_tests.specs.declared.token.Token.{Token}
use Rattle.reading_tests.specs.declared.token.Token.TheVariants.{Open, Close, Comma, Number}
use Rattle.reading_tests.specs.declared.tree.Tree.{Tree}
use Rattle.reading_tests.specs.declared.tree.Tree.TheVariants as tree_of
use Rattle.reading_tests.specs.Nest.{Lexed, token, Reader, list_step, list_turn, list_from, list, tree_by, tree}
use Rattle.reading_tests.specs.Grammar.{Next, Spells, Items, More}
use Rattle.reading_tests.proofs.TokenLaws.{token_sound}

-- What the reader reads is spelled so.
abbrev pub IsSound : ℕ → Reader → Type 0
IsSound d r = (outer : Option Text) (x : Lexed) (t s : Text) (f : Tree) (u : Text) → Next t x.token s → r outer x s ≡ Ok (f, u) → Spells d t f u

abbrev Step : Type 0
Step = (Bool × List Tree) × Text

module _ (d : ℕ) (inner : Reader) (inner_sound : IsSound d inner) (at : Text) where
  step_last : (k : Token) (here t m : Text) (s r : List Tree) (u : Text) → Next t k m → list_step inner at s k here m ≡ Ok ((false, r), u) → (s ≡ r) × Next t Close u
  step_last Close here t m s r u n e =
      let same = ok_is {E = Refused Cause} ((false, s), m) ((false, r), u) e in
      (ap (λ (x : Step). x.0.1) same, subst (λ (w : Text). Next t Close w) (ap (λ (x : Step). x.1) same) n)
  step_last Comma here t m s r u n e =
      let b = bound {r = token m} e in
      let c = bound {r = inner (Some at) b.0.0 b.0.1} b.2 in
      let wrong : true ≡ false = ap (λ (x : Step). x.0.0) (ok_is {E = Refused Cause} ((true, s ++ c.0.0 ∷ []), c.0.1) ((false, r), u) c.2) in absurd cc
  step_last k here t m s r u n e = absurd cc

  pub step_more : (k : Token) (here t m : Text) (s r : List Tree) (u : Text) → Next t k m → list_step inner at s k here m ≡ Ok ((true, r), u)
      → (f : Tree) × (s ++ f ∷ [] ≡ r) × Next t Comma m × Spells d m f u
  step_more Close here t m s r u n e =
      let wrong : false ≡ true = ap (λ (x : Step). x.0.0) (ok_is {E = Refused Cause} ((false, s), m) ((true, r), u) e) in absurd cc
  step_more Comma here t m s r u n e =
      let b = bound {r = token m} e in
      let c = bound {r = inner (Some at) b.0.0 b.0.1} b.2 in
      let same = ok_is {E = Refused Cause} ((true, s ++ c.0.0 ∷ []), c.0.1) ((true, r), u) c.2 in
      let next = token_sound m b.0.0 b.0.1 b.1 in
      (c.0.0, ap (λ (x : Step). x.0.1) same, n, subst (λ (w : Text). Spells d m c.0.0 w) (ap (λ (x : Step). x.1) same) (inner_sound (Some at) b.0.0 m b.0.1 c.0.0 c.0.1 next c.1))
  step_more k here t m s r u n e = absurd cc

  -- the items that the loop adds
  abbrev Adds : List Tree → Text → List Tree → Text → Type 0
  Adds s t r u = (items : List Tree) × More d t items u × (r ≡ s ++ items)

  turn_last : (s : List Tree) (t : Text) (r : List Tree) (u : Text) → list_turn inner at s t ≡ Ok ((false, r), u) → Adds s t r u
  unfolding list_turn
  turn_last s t r u e =
      let b = bound {r = token t} e in
      let q = step_last b.0.0.token b.0.0.at t b.0.1 s r u (token_sound t b.0.0 b.0.1 b.1) b.2 in
      ([], More.ends d t u q.1, sym (append-nil s ∙ q.0))

  turn_more : (s : List Tree) (t : Text) (r : List Tree) (u : Text) (q : List Tree) (w : Text) → list_turn inner at s t ≡ Ok ((true, r), u) → Adds r u q w → Adds s t q w
  unfolding list_turn
  turn_more s t r u q w e rest =
      let b = bound {r = token t} e in
      let p = step_more b.0.0.token b.0.0.at t b.0.1 s r u (token_sound t b.0.0 b.0.1 b.1) b.2 in
      (p.0 ∷ rest.0, More.goes_on d p.0 rest.0 t b.0.1 u w p.2 p.3 rest.1, rest.2 ∙ ap (λ (x : List Tree). x ++ rest.0) (sym p.1) ∙ append_assoc s (p.0 ∷ []) rest.0)

  from_sound : (k : Token) (x : Lexed) (t m : Text) (f : Tree) (u : Text) → Next t k m → Next t x.token m → list_from inner at k x m ≡ Ok (f, u)
      → (items : List Tree) × Items d t items u × (tree_of.List items ≡ f)
  from_sound Close x t m f u n nx e =
      let same = ok_is {E = Refused Cause} (tree_of.List [], m) (f, u) e in
      ([], Items.none d t u (subst (λ (w : Text). Next t Close w) (ap (λ (y : Tree × Text). y.1) same) n), ap (λ (y : Tree × Text). y.0) same)
  from_sound k x t m f u n nx e =
      let b = bound {r = inner (Some at) x m} e in
      let c = bound {r = all_turns BadToken (list_turn inner at) (b.0.0 ∷ []) b.0.1} b.2 in
      let same = ok_is {E = Refused Cause} (tree_of.List c.0.0, c.0.1) (f, u) c.2 in
      let adds = each_sound BadToken (list_turn inner at) Adds turn_last turn_more (turns b.0.1) (b.0.0 ∷ []) b.0.1 c.0.0 c.0.1 c.1 in
      let item = inner_sound (Some at) x t m b.0.0 b.0.1 nx b.1 in (
        b.0.0 ∷ adds.0,
        Items.some d b.0.0 adds.0 t b.0.1 u item (subst (λ (w : Text). More d b.0.1 adds.0 w) (ap (λ (y : Tree × Text). y.1) same) adds.1),
        ap (λ (vs : List Tree). tree_of.List vs) (sym adds.2) ∙ ap (λ (y : Tree × Text). y.0) same,
      )

  list_sound : (t : Text) (f : Tree) (u : Text) → list inner at t ≡ Ok (f, u) → (items : List Tree) × Items d t items u × (tree_of.List items ≡ f)
  unfolding list
  list_sound t f u e =
      let b = bound {r = token t} e in
      let n = token_sound t b.0.0 b.0.1 b.1 in
      from_sound b.0.0.token b.0.0 t b.0.1 f u n n b.2

abbrev SoundInside : ℕ → Option Reader → Type 0
SoundInside d None = Unit {0}
SoundInside d (Some r) = (p : ℕ) × (d ≡ suc p) × IsSound p r

by_sound : (d : ℕ) (inner : Option Reader) (sound : SoundInside d inner) (outer : Option Text) (k : Token) (at t s : Text) (f : Tree) (u : Text)
    → Next t k s → tree_by inner outer k at s ≡ Ok (f, u) → Spells d t f u
by_sound d inner sound outer (Number m) at t s f u n e =
    subst (λ (y : Tree × Text). Spells d t y.0 y.1) (ok_is {E = Refused Cause} (tree_of.Number m, s) (f, u) e) (Spells.number d m t s n)
by_sound d None sound outer Open at t s f u n e = absurd cc
by_sound d (Some inner) sound outer Open at t s f u n e =
    let p = list_sound sound.0 inner sound.2 at s f u e in
    rw (sound.1, ← p.2) (Spells.list sound.0 p.0 t s u n p.1)
by_sound d inner sound outer k at t s f u n e = absurd cc

pub tree_sound : (d : ℕ) → IsSound d (tree d)
unfolding tree
tree_sound zero outer x t s f u n e = by_sound zero None tt outer x.token x.at t s f u n e
tree_sound (suc d) outer x t s f u n e = by_sound (suc d) (Some (tree d)) (d, refl, tree_sound d) outer x.token x.at t s f u n e
