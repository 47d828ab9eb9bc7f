-- What is spelled as a value is read as that value.
use Rattle.std.proofs.Common.{◌≡◌, ℕ, ◌≤◌, true, List, [], ◌∷◌, ◌++◌, length, Option, Some, None, Ok, refl, sym, ap, ◌∙◌, subst, append_assoc, arith}
use Rattle.std.proofs.lemmas.List.{append-nil}
use Rattle.ifc_base.specs.declared.value.Value.{Value}
use Rattle.ifc_base.specs.declared.value.ValueNode.TheVariants as v
use Rattle.reading.specs.Reading.{Text, Refused, Read, ◌>>=◌, all_turns}
use Rattle.reading.proofs.Tools.{bound, ok_is, Run, all_run}
use Rattle.p21_read.specs.declared.fault.P21Cause.{P21Cause}
use Rattle.p21_read.specs.declared.fault.P21Cause.TheVariants.{BadToken}
use Rattle.p21_read.specs.declared.word.Word.{Word}
use Rattle.p21_read.specs.declared.token.Token.{Token}
use Rattle.p21_read.specs.declared.token.Token.TheVariants as k
use Rattle.p21_read.specs.Tokens.{Lexed, token}
use Rattle.p21_read.specs.Values.{Found, Series, Reader, series_turn, one_item, series_from, series, typed, value_by, below, value}
use Rattle.p21_read.specs.TokenGrammar.{Next}
use Rattle.p21_read.specs.Grammar.{of_node, Spells, Items, More}
use Rattle.p21_read.proofs.Depths.{value_is}
use Rattle.p21_read.proofs.TokenLaws.{token_complete, next_shorter, comma_shorter}

abbrev pub good : Value → Found
good x = record { value = x; late = None }

-- the next token, and the value that begins with it
abbrev pub value_at : ℕ → Option Text → Text → Read P21Cause Found
value_at d outer t = token t >>= λ x. value d outer x.0 x.1

mutual
  pub spells_shorter : {d : ℕ} {t : Text} {x : Value} {u : Text} → Spells d t x u → length u ≤ length t
  spells_shorter (Spells.absent d t u n) = next_shorter n
  spells_shorter (Spells.derived d t u n) = next_shorter n
  spells_shorter (Spells.number d m t u n) = next_shorter n
  spells_shorter (Spells.reference d m t u n is) = next_shorter n
  spells_shorter (Spells.text d s t u n) = next_shorter n
  spells_shorter (Spells.enumer d s t u n) = next_shorter n
  spells_shorter (Spells.binary d s t u n) = next_shorter n
  spells_shorter (Spells.list d items t r u n inside) = omega (arith, next_shorter n, items_shorter inside)
  spells_shorter (Spells.typed d word item t r s q u n is m inside end) = omega (arith, next_shorter n, next_shorter m, spells_shorter inside, next_shorter end)

  pub items_shorter : {d : ℕ} {t : Text} {x : List Value} {u : Text} → Items d t x u → length u ≤ length t
  items_shorter (Items.none d t u n) = next_shorter n
  items_shorter (Items.some d item items t r u first others) = omega (arith, spells_shorter first, more_shorter others)

  more_shorter : {d : ℕ} {t : Text} {x : List Value} {u : Text} → More d t x u → length u ≤ length t
  more_shorter (More.ends d t u n) = next_shorter n
  more_shorter (More.goes_on d item items t r s u n first others) = omega (arith, next_shorter n, spells_shorter first, more_shorter others)

-- the first token of a value is not the parenthesis that closes a list
abbrev Begins : Text → Type 0
Begins t = (token_of : Token) × (s : Text) × Next t token_of s × (token_of ≡ k.Close → ⊥)

begins_value : {d : ℕ} {t : Text} {x : Value} {u : Text} → Spells d t x u → Begins t
begins_value (Spells.absent d t u n) = (k.Dollar, u, n, λ e. cc)
begins_value (Spells.derived d t u n) = (k.Star, u, n, λ e. cc)
begins_value (Spells.number d m t u n) = (k.Number m, u, n, λ e. cc)
begins_value (Spells.reference d m t u n is) = (k.Id m, u, n, λ e. cc)
begins_value (Spells.text d s t u n) = (k.Quoted s, u, n, λ e. cc)
begins_value (Spells.enumer d s t u n) = (k.Enumer s, u, n, λ e. cc)
begins_value (Spells.binary d s t u n) = (k.Binary s, u, n, λ e. cc)
begins_value (Spells.list d items t r u n inside) = (k.Open, r, n, λ e. cc)
begins_value (Spells.typed d w item t r s q u n is m inside end) = (k.Word w, r, n, λ e. cc)

series_from_item : (inner : Reader) (at : Text) (token_of : Token) (x : Lexed) (t : Text) → (token_of ≡ k.Close → ⊥)
    → series_from inner at token_of x t ≡ (inner (Some at) x t >>= λ f. all_turns BadToken (series_turn inner at) (one_item f.0) f.1)
series_from_item inner at k.Close x t no_close = absurd (no_close refl)
series_from_item inner at other x t no_close = refl

-- values in parentheses, where the first token and value were read so
series_by : (inner : Reader) (at t : Text) (token_of : Token) (here s : Text) (f : Found) (r : Text) → token t ≡ Ok (record { token = token_of; at = here }, s) → (token_of ≡ k.Close → ⊥)
    → inner (Some at) (record { token = token_of; at = here }) s ≡ Ok (f, r) → series inner at t ≡ all_turns BadToken (series_turn inner at) (one_item f) r
unfolding series
series_by inner at t token_of here s f r first no_close item = rw (first, series_from_item inner at token_of (record { token = token_of; at = here }) s no_close, item) refl

abbrev pub so_far : List Value → Series
so_far items = record { values = items; late = None }

typed_reads : {q u : Text} (d : ℕ) (at : Text) (keyword : List ℕ) (s : Text) (item : Value) → value_at d (Some at) s ≡ Ok (good item, q) → Next q k.Close u
    → typed (value d) keyword at s ≡ Ok (good (of_node (v.Typed keyword item)), u)
unfolding typed
typed_reads {q = q} d at keyword s item read end =
    let e = token_complete end in
    let b = bound {r = token s} read in
    rw (b.1, b.2, e.1) refl

typed_value : (d : ℕ) (outer : Option Text) (w : Word) (at r o s : Text) (x : Found × Text) → w.plain ≡ true → token r ≡ Ok (record { token = k.Open; at = o }, s) → typed (value d) w.name o s ≡ Ok x
    → value_by (Some (value d)) outer (k.Word w) at r ≡ Ok x
typed_value d outer w at r o s x is opens read = rw (is, opens, read) refl

mutual
  unfolding value below series series_turn

  pub value_complete : {d : ℕ} {t : Text} {x : Value} {u : Text} (outer : Option Text) → Spells d t x u → value_at d outer t ≡ Ok (good x, u)
  value_complete outer (Spells.absent d t u n) = let c = token_complete n in rw (c.1, value_is d outer (record { token = k.Dollar; at = c.0 }) u) refl
  value_complete outer (Spells.derived d t u n) = let c = token_complete n in rw (c.1, value_is d outer (record { token = k.Star; at = c.0 }) u) refl
  value_complete outer (Spells.number d m t u n) = let c = token_complete n in rw (c.1, value_is d outer (record { token = k.Number m; at = c.0 }) u) refl
  value_complete outer (Spells.reference d m t u n is) = let c = token_complete n in rw (c.1, value_is d outer (record { token = k.Id m; at = c.0 }) u, is) refl
  value_complete outer (Spells.text d s t u n) = let c = token_complete n in rw (c.1, value_is d outer (record { token = k.Quoted s; at = c.0 }) u) refl
  value_complete outer (Spells.enumer d s t u n) = let c = token_complete n in rw (c.1, value_is d outer (record { token = k.Enumer s; at = c.0 }) u) refl
  value_complete outer (Spells.binary d s t u n) = let c = token_complete n in rw (c.1, value_is d outer (record { token = k.Binary s; at = c.0 }) u) refl
  value_complete outer (Spells.list d items t r u n inside) = let c = token_complete n in rw (c.1, items_complete c.0 inside) refl
  value_complete outer (Spells.typed d w item t r s q u n is m inside end) =
      let c = token_complete n in
      let o = token_complete m in
      let read = typed_reads d o.0 w.name s item (value_complete (Some o.0) inside) end in
      rw c.1 (typed_value d outer w c.0 r o.0 s (good (of_node (v.Typed w.name item)), u) is o.1 read)

  pub items_complete : {d : ℕ} {t : Text} {items : List Value} {u : Text} (at : Text) → Items d t items u → series (value d) at t ≡ Ok (so_far items, u)
  items_complete at (Items.none d t u n) = let c = token_complete n in rw c.1 refl
  items_complete at (Items.some d item items t r u first others) =
      let begin = begins_value first in
      let c = token_complete begin.2 in
      let b = bound {r = token t} (value_complete (Some at) first) in
      let same = ok_is {E = Refused P21Cause} (record { token = begin.0; at = c.0 }, begin.1) b.0 (sym c.1 ∙ b.1) in
      let read : value d (Some at) (record { token = begin.0; at = c.0 }) begin.1 ≡ Ok (good item, r) = ap (λ (x : Lexed × Text). value d (Some at) x.0 x.1) same ∙ b.2 in
      let loop = all_run BadToken (series_turn (value d) at) (more_runs at (item ∷ []) others) in
      series_by (value d) at t begin.0 c.0 begin.1 (good item) r c.1 begin.3 read ∙ loop

  more_runs : {d : ℕ} {t : Text} {items : List Value} {u : Text} (at : Text) (before : List Value) → More d t items u → Run (series_turn (value d) at) (so_far before) t (so_far (before ++ items)) u
  more_runs at before (More.ends d t u n) =
      let c = token_complete n in
      rw (append-nil before) (Run.last (so_far before) t (so_far before) u (rw c.1 refl))
  more_runs at before (More.goes_on d item items t r s u n first others) =
      let c = token_complete n in
      let b = bound {r = token r} (value_complete (Some at) first) in
      let turn : series_turn (value d) at (so_far before) t ≡ Ok ((true, so_far (before ++ item ∷ [])), s) = rw (c.1, b.1, b.2) refl in
      let rest = more_runs at (before ++ item ∷ []) others in
      subst (λ (all : List Value). Run (series_turn (value d) at) (so_far before) t (so_far all) u) (append_assoc before (item ∷ []) items)
      (Run.more (so_far before) t (so_far (before ++ item ∷ [])) s (so_far ((before ++ item ∷ []) ++ items)) u turn (omega (arith, comma_shorter n, spells_shorter first)) rest)
