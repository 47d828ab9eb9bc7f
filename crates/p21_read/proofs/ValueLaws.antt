-- Values: what is read, with no reference out of range, is spelled so.
use Rattle.std.proofs.Common.{◌≡◌, ℕ, zero, suc, Bool, true, false, List, [], ◌∷◌, ◌++◌, Option, Some, None, Ok, refl, sym, ap, ◌∙◌, subst, inl, inr, append_assoc}
use Rattle.std.proofs.lemmas.List.{append-nil}
use Rattle.ifc_base.specs.declared.value.Value.{Value}
use Rattle.ifc_base.specs.declared.value.ValueNode.{ValueNode}
use Rattle.ifc_base.specs.declared.value.ValueNode.TheVariants as v
use Rattle.reading.specs.Reading.{Text, Refused, ◌>>=◌, turns}
use Rattle.reading.proofs.Tools.{bound, chosen, kept, ok_is, each_sound}
use Rattle.p21_read.specs.declared.fault.P21Cause.{P21Cause}
use Rattle.p21_read.specs.declared.fault.P21Cause.TheVariants.{BadToken}
use Rattle.p21_read.specs.declared.word.Word.{Word}
use Rattle.p21_read.specs.declared.token.Token.{Token}
use Rattle.p21_read.specs.declared.token.Token.TheVariants as k
use Rattle.p21_read.specs.Tokens.{Lexed, token}
use Rattle.p21_read.specs.Values.{Found, Series, Reader, plain, earlier, with_item, series_step, series_turn, one_item, series_from, series, as_list, typed_end, typed, typed_from, typed_by, is_id, reference, number_node, value_by, value}
use Rattle.p21_read.specs.TokenGrammar.{Next}
use Rattle.p21_read.specs.Grammar.{of_node, Spells, Items, More}
use Rattle.p21_read.proofs.TokenLaws.{token_sound}

-- What the reader reads, with no reference out of range, is spelled so.
abbrev pub IsSound : ℕ → Reader → Type 0
IsSound d r = (outer : Option Text) (x : Lexed) (t s : Text) (f : Found) (u : Text) → Next t x.token s → r outer x s ≡ Ok (f, u) → f.late ≡ None → Spells d t f.value u

earlier_none : (a b : Option Text) → earlier a b ≡ None → (a ≡ None) × (b ≡ None)
earlier_none None b e = (refl, e)
earlier_none (Some a) b e = absurd cc

abbrev Turn : Type 0
Turn = (Bool × Series) × Text

-- ---- values in parentheses

module _ (d : ℕ) (inner : Reader) (inner_sound : IsSound d inner) (at : Text) where
  step_last : (token_of : Token) (here t m : Text) (s r : Series) (u : Text) → Next t token_of m → series_step inner at s token_of here m ≡ Ok ((false, r), u) → (s ≡ r) × Next t k.Close u
  step_last k.Close here t m s r u n e =
      let same = ok_is {E = Refused P21Cause} ((false, s), m) ((false, r), u) e in
      (ap (λ (x : Turn). x.0.1) same, subst (λ (w : Text). Next t k.Close w) (ap (λ (x : Turn). x.1) same) n)
  step_last k.Comma here t m s r u n e =
      let b = bound {r = token m} e in
      let c = bound {r = inner (Some at) b.0.0 b.0.1} b.2 in
      let wrong : true ≡ false = ap (λ (x : Turn). x.0.0) (ok_is {E = Refused P21Cause} ((true, with_item s c.0.0), c.0.1) ((false, r), u) c.2) in absurd cc
  step_last other here t m s r u n e = absurd cc

  step_more : (token_of : Token) (here t m : Text) (s r : Series) (u : Text) → Next t token_of m → series_step inner at s token_of here m ≡ Ok ((true, r), u)
      → (f : Found) × (with_item s f ≡ r) × Next t k.Comma m × (f.late ≡ None → Spells d m f.value u)
  step_more k.Close here t m s r u n e =
      let wrong : false ≡ true = ap (λ (x : Turn). x.0.0) (ok_is {E = Refused P21Cause} ((false, s), m) ((true, r), u) e) in absurd cc
  step_more k.Comma here t m s r u n e =
      let b = bound {r = token m} e in
      let c = bound {r = inner (Some at) b.0.0 b.0.1} b.2 in
      let same = ok_is {E = Refused P21Cause} ((true, with_item s c.0.0), c.0.1) ((true, r), u) c.2 in
      let next = token_sound m b.0.0 b.0.1 b.1 in
      (c.0.0, ap (λ (x : Turn). x.0.1) same, n, λ good. subst (λ (w : Text). Spells d m c.0.0.value w) (ap (λ (x : Turn). x.1) same) (inner_sound (Some at) b.0.0 m b.0.1 c.0.0 c.0.1 next c.1 good))
  step_more other here t m s r u n e = absurd cc

  -- the values that the loop adds
  abbrev Adds : Series → Text → Series → Text → Type 0
  Adds s t r u = r.late ≡ None → (items : List Value) × (s.late ≡ None) × More d t items u × (r.values ≡ s.values ++ items)

  turn_last : (s : Series) (t : Text) (r : Series) (u : Text) → series_turn inner at s t ≡ Ok ((false, r), u) → Adds s t r u
  unfolding series_turn
  turn_last s t r u e good =
      let b = bound {r = token t} e in
      let q = step_last b.0.0.token b.0.0.at t b.0.1 s r u (token_sound t b.0.0 b.0.1 b.1) b.2 in
      ([], ap (λ (x : Series). x.late) q.0 ∙ good, More.ends d t u q.1, sym (append-nil s.values ∙ ap (λ (x : Series). x.values) q.0))

  turn_more : (s : Series) (t : Text) (r : Series) (u : Text) (q : Series) (w : Text) → series_turn inner at s t ≡ Ok ((true, r), u) → Adds r u q w → Adds s t q w
  unfolding series_turn
  turn_more s t r u q w e more good =
      let b = bound {r = token t} e in
      let p = step_more b.0.0.token b.0.0.at t b.0.1 s r u (token_sound t b.0.0 b.0.1 b.1) b.2 in
      let rest = more good in
      let none : earlier s.late p.0.late ≡ None = ap (λ (x : Series). x.late) p.1 ∙ rest.1 in
      let both = earlier_none s.late p.0.late none in (
        p.0.value ∷ rest.0,
        both.0,
        More.goes_on d p.0.value rest.0 t b.0.1 u w p.2 (p.3 both.1) rest.2,
        rest.3 ∙ ap (λ (x : Series). x.values ++ rest.0) (sym p.1) ∙ append_assoc s.values (p.0.value ∷ []) rest.0,
      )

  abbrev Had : Type 0
  Had = Series × Text

  from_sound : (token_of : Token) (x : Lexed) (t m : Text) (f : Series) (u : Text) → Next t token_of m → Next t x.token m → series_from inner at token_of x m ≡ Ok (f, u) → f.late ≡ None
      → Items d t f.values u
  from_sound k.Close x t m f u n nx e good =
      let same = ok_is {E = Refused P21Cause} (record { values = []; late = None }, m) (f, u) e in
      subst (λ (y : Had). Items d t y.0.values y.1) same (Items.none d t m n)
  from_sound other x t m f u n nx e good =
      let b = bound {r = inner (Some at) x m} e in
      let adds = each_sound BadToken (series_turn inner at) Adds turn_last turn_more (turns b.0.1) (one_item b.0.0) b.0.1 f u b.2 good in
      let item = inner_sound (Some at) x t m b.0.0 b.0.1 nx b.1 adds.1 in
      subst (λ (xs : List Value). Items d t xs u) (sym adds.3) (Items.some d b.0.0.value adds.0 t b.0.1 u item adds.2)

  pub series_sound : (t : Text) (f : Series) (u : Text) → series inner at t ≡ Ok (f, u) → f.late ≡ None → Items d t f.values u
  unfolding series
  series_sound t f u e good =
      let b = bound {r = token t} e in
      let n = token_sound t b.0.0 b.0.1 b.1 in
      from_sound b.0.0.token b.0.0 t b.0.1 f u n n b.2 good

  -- ---- typed parameters

  end_sound : (keyword : List ℕ) (g : Found) (token_of : Token) (here t m : Text) (f : Found) (u : Text) → Next t token_of m → typed_end keyword at g token_of here m ≡ Ok (f, u)
      → Next t k.Close u × (record { value = of_node (v.Typed keyword g.value); late = g.late } ≡ f)
  end_sound keyword g k.Close here t m f u n e =
      let same = ok_is {E = Refused P21Cause} (record { value = of_node (v.Typed keyword g.value); late = g.late }, m) (f, u) e in
      (subst (λ (w : Text). Next t k.Close w) (ap (λ (y : Found × Text). y.1) same) n, ap (λ (y : Found × Text). y.0) same)
  end_sound keyword g other here t m f u n e = absurd cc

  typed_sound : (keyword : List ℕ) (t : Text) (f : Found) (u : Text) → typed inner keyword at t ≡ Ok (f, u) → f.late ≡ None
      → (item : Value) × (q : Text) × Spells d t item q × Next q k.Close u × (of_node (v.Typed keyword item) ≡ f.value)
  unfolding typed
  typed_sound keyword t f u e good =
      let b = bound {r = token t} e in
      let c = bound {r = inner (Some at) b.0.0 b.0.1} b.2 in
      let q = bound {r = token c.0.1} c.2 in
      let end = end_sound keyword c.0.0 q.0.0.token q.0.0.at c.0.1 q.0.1 f u (token_sound c.0.1 q.0.0 q.0.1 q.1) q.2 in
      let item = inner_sound (Some at) b.0.0 t b.0.1 c.0.0 c.0.1 (token_sound t b.0.0 b.0.1 b.1) c.1 (ap (λ (y : Found). y.late) end.1 ∙ good) in
      (c.0.0.value, c.0.1, item, end.0, ap (λ (y : Found). y.value) end.1)

-- ---- all values

abbrev SoundInside : ℕ → Option Reader → Type 0
SoundInside d None = Unit {0}
SoundInside d (Some r) = (p : ℕ) × (d ≡ suc p) × IsSound p r

plain_sound : (d : ℕ) (x : ValueNode) (t s : Text) (f : Found) (u : Text) → Spells d t (of_node x) s → plain x s ≡ Ok (f, u) → Spells d t f.value u
plain_sound d x t s f u h e = subst (λ (y : Found × Text). Spells d t y.0.value y.1) (ok_is {E = Refused P21Cause} (record { value = of_node x; late = None }, s) (f, u) e) h

reference_sound : (d n : ℕ) (at t s : Text) (f : Found) (u : Text) → Next t (k.Id n) s → reference n at s ≡ Ok (f, u) → f.late ≡ None → Spells d t f.value u
reference_sound d n at t s f u m e good =
    elim (chosen (is_id n) (plain (v.Ref n) s) (Ok (record { value = of_node v.Absent; late = Some at }, s)) (Ok (f, u)) e) [
      | inl h ↦ plain_sound d (v.Ref n) t s f u (Spells.reference d n t s m h.0) h.1
      | inr h ↦
          let wrong : Some at ≡ None = ap (λ (y : Found × Text). y.0.late) (ok_is {E = Refused P21Cause} (record { value = of_node v.Absent; late = Some at }, s) (f, u) h.1) ∙ good in absurd cc
    ]

typed_from_sound : (d : ℕ) (inner : Option Reader) (sound : SoundInside d inner) (outer : Option Text) (w : Word) (token_of : Token) (at t r s : Text) (f : Found) (u : Text)
    → Next t (k.Word w) r → w.plain ≡ true → Next r token_of s → typed_from inner outer w.name token_of at s ≡ Ok (f, u) → f.late ≡ None → Spells d t f.value u
typed_from_sound d None sound outer w k.Open at t r s f u n is m e good = absurd cc
typed_from_sound d (Some inner) sound outer w k.Open at t r s f u n is m e good =
    let p = typed_sound sound.0 inner sound.2 at w.name s f u e good in
    rw (sound.1, ← p.4) (Spells.typed sound.0 w p.0 t r s p.1 u n is m p.2 p.3)
typed_from_sound d inner sound outer w other at t r s f u n is m e good = absurd cc

typed_by_sound : (d : ℕ) (inner : Option Reader) (sound : SoundInside d inner) (outer : Option Text) (w : Word) (at t s : Text) (f : Found) (u : Text)
    → Next t (k.Word w) s → typed_by inner outer w at s ≡ Ok (f, u) → f.late ≡ None → Spells d t f.value u
typed_by_sound d inner sound outer w at t s f u n e good =
    let h = kept w.plain (token s >>= λ x. typed_from inner outer w.name x.0.token x.0.at x.1) BadToken at (f, u) e in
    let b = bound {r = token s} h.1 in
    typed_from_sound d inner sound outer w b.0.0.token b.0.0.at t s b.0.1 f u n h.0 (token_sound s b.0.0 b.0.1 b.1) b.2 good

list_of_sound : (d : ℕ) (inner : Reader) (inner_sound : IsSound d inner) (at t s : Text) (f : Found) (u : Text) → Next t k.Open s → (series inner at s >>= as_list) ≡ Ok (f, u) → f.late ≡ None
    → Spells (suc d) t f.value u
list_of_sound d inner inner_sound at t s f u n e good =
    let b = bound {r = series inner at s} e in
    let same = ok_is {E = Refused P21Cause} (record { value = of_node (v.List b.0.0.values); late = b.0.0.late }, b.0.1) (f, u) b.2 in
    let inside = series_sound d inner inner_sound at s b.0.0 b.0.1 b.1 (ap (λ (y : Found × Text). y.0.late) same ∙ good) in
    subst (λ (y : Found × Text). Spells (suc d) t y.0.value y.1) same (Spells.list d b.0.0.values t s b.0.1 n inside)

by_sound : (d : ℕ) (inner : Option Reader) (sound : SoundInside d inner) (outer : Option Text) (token_of : Token) (at t s : Text) (f : Found) (u : Text)
    → Next t token_of s → value_by inner outer token_of at s ≡ Ok (f, u) → f.late ≡ None → Spells d t f.value u
by_sound d inner sound outer k.Dollar at t s f u n e good = plain_sound d v.Absent t s f u (Spells.absent d t s n) e
by_sound d inner sound outer k.Star at t s f u n e good = plain_sound d v.Derived t s f u (Spells.derived d t s n) e
by_sound d inner sound outer (k.Number m) at t s f u n e good = plain_sound d (number_node m) t s f u (Spells.number d m t s n) e
by_sound d inner sound outer (k.Id m) at t s f u n e good = reference_sound d m at t s f u n e good
by_sound d inner sound outer (k.Quoted m) at t s f u n e good = plain_sound d (v.Text m) t s f u (Spells.text d m t s n) e
by_sound d inner sound outer (k.Enumer m) at t s f u n e good = plain_sound d (v.Enumer m) t s f u (Spells.enumer d m t s n) e
by_sound d inner sound outer (k.Binary m) at t s f u n e good = plain_sound d (v.Binary m) t s f u (Spells.binary d m t s n) e
by_sound d None sound outer k.Open at t s f u n e good = absurd cc
by_sound d (Some inner) sound outer k.Open at t s f u n e good = rw sound.1 (list_of_sound sound.0 inner sound.2 at t s f u n e good)
by_sound d inner sound outer (k.Word w) at t s f u n e good = typed_by_sound d inner sound outer w at t s f u n e good
by_sound d inner sound outer other at t s f u n e good = absurd cc

pub value_sound : (d : ℕ) → IsSound d (value d)
unfolding value
value_sound zero outer x t s f u n e good = by_sound zero None tt outer x.token x.at t s f u n e good
value_sound (suc d) outer x t s f u n e good = by_sound (suc d) (Some (value d)) (d, refl, value_sound d) outer x.token x.at t s f u n e good
