-- Values: each turn of the loop over values in parentheses that goes on leaves less.
use Rattle.std.proofs.Common.{◌≡◌, ℕ, zero, suc, ◌<◌, ◌≤◌, Bool, true, false, List, [], length, Option, Some, None, Ok, refl, ap, ◌∙◌, inl, inr, arith}
use Rattle.ifc_base.specs.declared.value.ValueNode.{ValueNode}
use Rattle.ifc_base.specs.declared.value.ValueNode.TheVariants as v
use Rattle.reading.specs.Reading.{Text, Refused, Shortens, ◌>>=◌, turns, all_turns}
use Rattle.reading.proofs.Tools.{bound, chosen, kept, ok_is, each_sound}
use Rattle.p21_read.specs.declared.fault.P21Cause.{P21Cause}
use Rattle.p21_read.specs.declared.fault.P21Cause.TheVariants.{BadToken}
use Rattle.p21_read.specs.declared.word.Word.{Word}
use Rattle.p21_read.specs.declared.token.Token.{Token}
use Rattle.p21_read.specs.declared.token.Token.TheVariants as k
use Rattle.p21_read.specs.Tokens.{Lexed, token}
use Rattle.p21_read.specs.Values.{Found, Series, Reader, plain, with_item, series_step, series_turn, one_item, series_from, series, as_list, typed_end, typed, typed_from, typed_by, is_id, reference, number_node, value_by, value}
use Rattle.p21_read.specs.TokenGrammar.{Next}
use Rattle.p21_read.proofs.TokenLaws.{token_sound, next_shorter, comma_shorter}

abbrev Turn : Type 0
Turn = (Bool × Series) × Text

abbrev Had : Type 0
Had = Series × Text

abbrev Read-value : Type 0
Read-value = Found × Text

-- what a reader leaves is no longer than what it found
abbrev Keeps : Reader → Type 0
Keeps r = (outer : Option Text) (x : Lexed) (s : Text) (y : Read-value) → r outer x s ≡ Ok y → length y.1 ≤ length s

token_keeps : (t : Text) (x : Lexed × Text) → token t ≡ Ok x → length x.1 ≤ length t
token_keeps t x e = next_shorter (token_sound t x.0 x.1 e)

-- ---- values in parentheses

-- a turn leaves no more, and less where it goes on
record Leaves (t : Text) (x : Turn) : Type 0 where
  most : length x.1 ≤ length t
  less : x.0.0 ≡ true → length x.1 < length t

module _ (inner : Reader) (keeps : Keeps inner) (at : Text) where
  step_leaves : (token_of : Token) (here t m : Text) (s : Series) (x : Turn) → Next t token_of m → series_step inner at s token_of here m ≡ Ok x → Leaves t x
  step_leaves k.Close here t m s x n e =
      let same = ok_is {E = Refused P21Cause} ((false, s), m) x e in
      record { most = omega (arith, next_shorter n, ap (λ (y : Turn). length y.1) same); less = λ yes. let wrong : false ≡ true = ap (λ (y : Turn). y.0.0) same ∙ yes in absurd cc }
  step_leaves k.Comma here t m s x n e =
      let b = bound {r = token m} e in
      let c = bound {r = inner (Some at) b.0.0 b.0.1} b.2 in
      let same = ok_is {E = Refused P21Cause} ((true, with_item s c.0.0), c.0.1) x c.2 in
      let less : length x.1 < length t = omega (arith, comma_shorter n, token_keeps m b.0 b.1, keeps (Some at) b.0.0 b.0.1 c.0 c.1, ap (λ (y : Turn). length y.1) same) in
      record { most = omega (arith, less); less = λ yes. less }
  step_leaves other here t m s x n e = absurd cc

  turn_leaves : (s : Series) (t : Text) (x : Turn) → series_turn inner at s t ≡ Ok x → Leaves t x
  unfolding series_turn
  turn_leaves s t x e =
      let b = bound {r = token t} e in
      step_leaves b.0.0.token b.0.0.at t b.0.1 s x (token_sound t b.0.0 b.0.1 b.1) b.2

  pub series_shortens : Shortens (series_turn inner at)
  series_shortens s t r u e = (turn_leaves s t ((true, r), u) e).less refl

  loop_keeps : (s : Series) (t : Text) (x : Had) → all_turns BadToken (series_turn inner at) s t ≡ Ok x → length x.1 ≤ length t
  loop_keeps s t x e =
      each_sound BadToken (series_turn inner at) (λ s t r u. length u ≤ length t) (λ s t r u went. (turn_leaves s t ((false, r), u) went).most)
      (λ s t r u q w went rest. let first = (turn_leaves s t ((true, r), u) went).most in omega (arith, first, rest)) (turns t) s t x.0 x.1 e

  from_keeps : (token_of : Token) (x : Lexed) (m : Text) (y : Had) → series_from inner at token_of x m ≡ Ok y → length y.1 ≤ length m
  from_keeps k.Close x m y e = let same = ok_is {E = Refused P21Cause} (record { values = []; late = None }, m) y e in omega (arith, ap (λ (z : Had). length z.1) same)
  from_keeps other x m y e =
      let b = bound {r = inner (Some at) x m} e in
      omega (arith, keeps (Some at) x m b.0 b.1, loop_keeps (one_item b.0.0) b.0.1 y b.2)

  series_keeps : (t : Text) (y : Had) → series inner at t ≡ Ok y → length y.1 ≤ length t
  unfolding series
  series_keeps t y e =
      let b = bound {r = token t} e in
      omega (arith, token_keeps t b.0 b.1, from_keeps b.0.0.token b.0.0 b.0.1 y b.2)

  end_keeps : (keyword : List ℕ) (g : Found) (token_of : Token) (here m : Text) (y : Read-value) → typed_end keyword at g token_of here m ≡ Ok y → length y.1 ≤ length m
  end_keeps keyword g k.Close here m y e =
      let same = ok_is {E = Refused P21Cause} (record { value = record { node = v.Typed keyword g.value }; late = g.late }, m) y e in omega (arith, ap (λ (z : Read-value). length z.1) same)
  end_keeps keyword g other here m y e = absurd cc

  typed_keeps : (keyword : List ℕ) (t : Text) (y : Read-value) → typed inner keyword at t ≡ Ok y → length y.1 ≤ length t
  unfolding typed
  typed_keeps keyword t y e =
      let b = bound {r = token t} e in
      let c = bound {r = inner (Some at) b.0.0 b.0.1} b.2 in
      let q = bound {r = token c.0.1} c.2 in
      omega (arith, token_keeps t b.0 b.1, keeps (Some at) b.0.0 b.0.1 c.0 c.1, token_keeps c.0.1 q.0 q.1, end_keeps keyword c.0.0 q.0.0.token q.0.0.at q.0.1 y q.2)

-- ---- all values

abbrev KeepsInside : Option Reader → Type 0
KeepsInside None = Unit {0}
KeepsInside (Some r) = Keeps r

plain_keeps : (x : ValueNode) (s : Text) (y : Read-value) → plain x s ≡ Ok y → length y.1 ≤ length s
plain_keeps x s y e = omega (arith, ap (λ (z : Read-value). length z.1) (ok_is {E = Refused P21Cause} (record { value = record { node = x }; late = None }, s) y e))

reference_keeps : (n : ℕ) (at s : Text) (y : Read-value) → reference n at s ≡ Ok y → length y.1 ≤ length s
reference_keeps n at s y e =
    elim (chosen (is_id n) (plain (v.Ref n) s) (Ok (record { value = record { node = v.Absent }; late = Some at }, s)) (Ok y) e) [
      | inl h ↦ plain_keeps (v.Ref n) s y h.1
      | inr h ↦ omega (arith, ap (λ (z : Read-value). length z.1) (ok_is {E = Refused P21Cause} (record { value = record { node = v.Absent }; late = Some at }, s) y h.1))
    ]

typed_from_keeps : (inner : Option Reader) (keeps : KeepsInside inner) (outer : Option Text) (keyword : List ℕ) (token_of : Token) (at s : Text) (y : Read-value)
    → typed_from inner outer keyword token_of at s ≡ Ok y → length y.1 ≤ length s
typed_from_keeps None keeps outer keyword k.Open at s y e = absurd cc
typed_from_keeps (Some inner) keeps outer keyword k.Open at s y e = typed_keeps inner keeps at keyword s y e
typed_from_keeps inner keeps outer keyword other at s y e = absurd cc

typed_by_keeps : (inner : Option Reader) (keeps : KeepsInside inner) (outer : Option Text) (w : Word) (at s : Text) (y : Read-value) → typed_by inner outer w at s ≡ Ok y → length y.1 ≤ length s
typed_by_keeps inner keeps outer w at s y e =
    let h = kept w.plain (token s >>= λ x. typed_from inner outer w.name x.0.token x.0.at x.1) BadToken at y e in
    let b = bound {r = token s} h.1 in
    omega (arith, token_keeps s b.0 b.1, typed_from_keeps inner keeps outer w.name b.0.0.token b.0.0.at b.0.1 y b.2)

list_keeps : (inner : Reader) (keeps : Keeps inner) (at s : Text) (y : Read-value) → (series inner at s >>= as_list) ≡ Ok y → length y.1 ≤ length s
list_keeps inner keeps at s y e =
    let b = bound {r = series inner at s} e in
    let same = ok_is {E = Refused P21Cause} (record { value = record { node = v.List b.0.0.values }; late = b.0.0.late }, b.0.1) y b.2 in
    omega (arith, series_keeps inner keeps at s b.0 b.1, ap (λ (z : Read-value). length z.1) same)

by_keeps : (inner : Option Reader) (keeps : KeepsInside inner) (outer : Option Text) (token_of : Token) (at s : Text) (y : Read-value) → value_by inner outer token_of at s ≡ Ok y → length y.1 ≤ length s
by_keeps inner keeps outer k.Dollar at s y e = plain_keeps v.Absent s y e
by_keeps inner keeps outer k.Star at s y e = plain_keeps v.Derived s y e
by_keeps inner keeps outer (k.Number m) at s y e = plain_keeps (number_node m) s y e
by_keeps inner keeps outer (k.Id m) at s y e = reference_keeps m at s y e
by_keeps inner keeps outer (k.Quoted m) at s y e = plain_keeps (v.Text m) s y e
by_keeps inner keeps outer (k.Enumer m) at s y e = plain_keeps (v.Enumer m) s y e
by_keeps inner keeps outer (k.Binary m) at s y e = plain_keeps (v.Binary m) s y e
by_keeps None keeps outer k.Open at s y e = absurd cc
by_keeps (Some inner) keeps outer k.Open at s y e = list_keeps inner keeps at s y e
by_keeps inner keeps outer (k.Word w) at s y e = typed_by_keeps inner keeps outer w at s y e
by_keeps inner keeps outer other at s y e = absurd cc

value_keeps : (d : ℕ) → Keeps (value d)
unfolding value
value_keeps zero outer x s y e = by_keeps None tt outer x.token x.at s y e
value_keeps (suc d) outer x s y e = by_keeps (Some (value d)) (value_keeps d) outer x.token x.at s y e

pub values_shorten : (d : ℕ) (at : Text) → Shortens (series_turn (value d) at)
values_shorten d at = series_shortens (value d) (value_keeps d) at
