-- Instances and parameters: what is read, with no number out of range, is spelled so, and what is spelled so is read.
use Rattle.std.proofs.Common.{◌≡◌, ℕ, ◌≤◌, ◌<◌, true, List, length, Option, Some, None, Ok, refl, ap, ◌∙◌, subst, arith}
use Rattle.ifc_base.specs.declared.value.Value.{Value}
use Rattle.ifc_base.specs.declared.value.Instance.{Instance}
use Rattle.reading.specs.Reading.{Text, Refused}
use Rattle.reading.proofs.Tools.{bound, kept, ok_is}
use Rattle.p21_read.specs.declared.fault.P21Cause.{P21Cause}
use Rattle.p21_read.specs.declared.fault.P21Cause.TheVariants.{BadToken, IdRange}
use Rattle.p21_read.specs.declared.word.Word.{Word}
use Rattle.p21_read.specs.declared.token.Token.{Token}
use Rattle.p21_read.specs.declared.token.Token.TheVariants as k
use Rattle.p21_read.specs.Tokens.{token}
use Rattle.p21_read.specs.Values.{Series, series, value, max_depth, is_id, in_range}
use Rattle.p21_read.specs.Instances.{semicolon_by, semicolon, equals_by, equals, opening_by, opening, entity_by, entity, closed, Row, row_of, row, instance_from, instance_of}
use Rattle.p21_read.specs.TokenGrammar.{Next}
use Rattle.p21_read.specs.Grammar.{Items, Parameters, IsInstance}
use Rattle.p21_read.proofs.TokenLaws.{token_sound, token_complete, next_shorter, id_shorter}
use Rattle.p21_read.proofs.ValueLaws.{value_sound, series_sound}
use Rattle.p21_read.proofs.ValueComplete.{so_far, items_complete, items_shorter}

abbrev Done : Type 0
Done = Unit {0} × Text

-- ---- single tokens

semicolon_by_sound : (w : Token) (at t s : Text) (x : Done) → Next t w s → semicolon_by w at s ≡ Ok x → Next t k.Semicolon x.1
semicolon_by_sound k.Semicolon at t s x n e = subst (λ (y : Done). Next t k.Semicolon y.1) (ok_is {E = Refused P21Cause} (tt, s) x e) n
semicolon_by_sound other at t s x n e = absurd cc

pub semicolon_sound : (t : Text) (x : Done) → semicolon t ≡ Ok x → Next t k.Semicolon x.1
unfolding semicolon
semicolon_sound t x e =
    let b = bound {r = token t} e in
    semicolon_by_sound b.0.0.token b.0.0.at t b.0.1 x (token_sound t b.0.0 b.0.1 b.1) b.2

pub semicolon_complete : {t u : Text} → Next t k.Semicolon u → semicolon t ≡ Ok (tt, u)
unfolding semicolon
semicolon_complete n = let c = token_complete n in rw c.1 refl

equals_by_sound : (w : Token) (at t s : Text) (x : Done) → Next t w s → equals_by w at s ≡ Ok x → Next t k.Equals x.1
equals_by_sound k.Equals at t s x n e = subst (λ (y : Done). Next t k.Equals y.1) (ok_is {E = Refused P21Cause} (tt, s) x e) n
equals_by_sound other at t s x n e = absurd cc

equals_sound : (t : Text) (x : Done) → equals t ≡ Ok x → Next t k.Equals x.1
unfolding equals
equals_sound t x e =
    let b = bound {r = token t} e in
    equals_by_sound b.0.0.token b.0.0.at t b.0.1 x (token_sound t b.0.0 b.0.1 b.1) b.2

equals_complete : {t u : Text} → Next t k.Equals u → equals t ≡ Ok (tt, u)
unfolding equals
equals_complete n = let c = token_complete n in rw c.1 refl

opening_by_sound : (w : Token) (at t s : Text) (x : Text × Text) → Next t w s → opening_by w at s ≡ Ok x → Next t k.Open x.1
opening_by_sound k.Open at t s x n e = subst (λ (y : Text × Text). Next t k.Open y.1) (ok_is {E = Refused P21Cause} (at, s) x e) n
opening_by_sound other at t s x n e = absurd cc

pub opening_sound : (t : Text) (x : Text × Text) → opening t ≡ Ok x → Next t k.Open x.1
unfolding opening
opening_sound t x e =
    let b = bound {r = token t} e in
    opening_by_sound b.0.0.token b.0.0.at t b.0.1 x (token_sound t b.0.0 b.0.1 b.1) b.2

opening_complete : {t u : Text} → Next t k.Open u → (at : Text) × (opening t ≡ Ok (at, u))
unfolding opening
opening_complete n = let c = token_complete n in (c.0, rw c.1 refl)

abbrev Named : Type 0
Named = List ℕ × Text

-- the keyword of an instance
record IsKeyword (t : Text) (x : Named) : Type 0 where
  word : Word
  next : Next t (k.Word word) x.1
  plain : word.plain ≡ true
  name : word.name ≡ x.0

entity_by_sound : (w : Token) (at t s : Text) (x : Named) → Next t w s → entity_by w at s ≡ Ok x → IsKeyword t x
entity_by_sound (k.Word w) at t s x n e =
    let h = kept w.plain (Ok (w.name, s)) BadToken at x e in
    subst (λ (y : Named). IsKeyword t y) (ok_is {E = Refused P21Cause} (w.name, s) x h.1) (record { word = w; next = n; plain = h.0; name = refl })
entity_by_sound other at t s x n e = absurd cc

entity_sound : (t : Text) (x : Named) → entity t ≡ Ok x → IsKeyword t x
unfolding entity
entity_sound t x e =
    let b = bound {r = token t} e in
    entity_by_sound b.0.0.token b.0.0.at t b.0.1 x (token_sound t b.0.0 b.0.1 b.1) b.2

entity_by_is : (w : Word) (at s : Text) → w.plain ≡ true → entity_by (k.Word w) at s ≡ Ok (w.name, s)
entity_by_is w at s is = rw is refl

entity_complete : {t u : Text} (w : Word) → Next t (k.Word w) u → w.plain ≡ true → entity t ≡ Ok (w.name, u)
unfolding entity
entity_complete {u = u} w n is = let c = token_complete n in rw c.1 (entity_by_is w c.0 u is)

-- ---- parameters

-- behind the opening parenthesis
record IsClosed (t : Text) (params : List Value) (u : Text) : Type 0 where
  behind : Text
  items : Items max_depth t params behind
  ends : Next behind k.Semicolon u

abbrev Had : Type 0
Had = Series × Text

closed_sound : (at t : Text) (x : Had) → closed at t ≡ Ok x → x.0.late ≡ None → IsClosed t x.0.values x.1
unfolding closed
closed_sound at t x e good =
    let b = bound {r = series (value max_depth) at t} e in
    let c = bound {r = semicolon b.0.1} b.2 in
    let same = ok_is {E = Refused P21Cause} (b.0.0, c.0.1) x c.2 in
    let items = series_sound max_depth (value max_depth) (value_sound max_depth) at t b.0.0 b.0.1 b.1 (ap (λ (y : Had). y.0.late) same ∙ good) in
    subst (λ (y : Had). IsClosed t y.0.values y.1) same (record { behind = b.0.1; items = items; ends = semicolon_sound b.0.1 c.0 c.1 })

pub parameters_from : (t at s : Text) (x : Had) → Next t k.Open s → closed at s ≡ Ok x → x.0.late ≡ None → Parameters t x.0.values x.1
parameters_from t at s x n e good =
    let p = closed_sound at s x e good in
    record { inside = s; behind = p.behind; opens = n; items = p.items; ends = p.ends }

pub closed_complete : {t : Text} {params : List Value} {u w : Text} (at : Text) → Items max_depth t params u → Next u k.Semicolon w → closed at t ≡ Ok (so_far params, w)
unfolding closed
closed_complete at items ends = rw (items_complete at items, semicolon_complete ends) refl

-- the parenthesis and what is behind it
pub record Opened (t : Text) (params : List Value) (u : Text) : Type 0 where
  pub at : Text
  pub inside : Text
  pub opens : opening t ≡ Ok (at, inside)
  pub ends : closed at inside ≡ Ok (so_far params, u)

pub opened : {t : Text} {params : List Value} {u : Text} → Parameters t params u → Opened t params u
opened p = let o = opening_complete p.opens in record { at = o.0; inside = p.inside; opens = o.1; ends = closed_complete o.0 p.items p.ends }

pub parameters_shorter : {t : Text} {params : List Value} {u : Text} → Parameters t params u → length u ≤ length t
parameters_shorter p = omega (arith, next_shorter p.opens, items_shorter p.items, next_shorter p.ends)

pub in_range_is : {A : Type 0} (x : A) (late : Option Text) (y : A) → in_range x late ≡ Ok y → (late ≡ None) × (x ≡ y)
in_range_is x None y e = (refl, ok_is {E = Refused P21Cause} x y e)
in_range_is x (Some at) y e = absurd cc

-- ---- instances

abbrev Numbered : Type 0
Numbered = Row × Text

-- what is read behind a number, if it and each reference is in range
pub row_sound : (n : ℕ) (at t s : Text) (x : Numbered) → Next t (k.Id n) s → row n at s ≡ Ok x → is_id x.0.number ≡ true → x.0.late ≡ None → IsInstance t (instance_from x.0) x.1
unfolding row
row_sound n at t s x number e is good =
    let b1 = bound {r = equals s} e in
    let b2 = bound {r = entity b1.0.1} b1.2 in
    let b3 = bound {r = opening b2.0.1} b2.2 in
    let b4 = bound {r = closed b3.0.0 b3.0.1} b3.2 in
    let same = ok_is {E = Refused P21Cause} (row_of n at b2.0.0 b4.0.0, b4.0.1) x b4.2 in
    let keyword = entity_sound b1.0.1 b2.0 b2.1 in
    let none : b4.0.0.late ≡ None = ap (λ (y : Numbered). y.0.late) same ∙ good in
    let in_it : is_id n ≡ true = ap (λ (y : Numbered). is_id y.0.number) same ∙ is in
    let values = parameters_from b2.0.1 b3.0.0 b3.0.1 b4.0 (opening_sound b2.0.1 b3.0 b3.1) b4.1 none in
    let spelled : IsInstance t (instance_from (row_of n at b2.0.0 b4.0.0)) b4.0.1 = record {
      sign = s;
      keyword = b1.0.1;
      params = b2.0.1;
      word = keyword.word;
      number = number;
      in_range = in_it;
      equals = equals_sound s b1.0 b1.1;
      entity = keyword.next;
      plain = keyword.plain;
      name = keyword.name;
      values = values;
    } in
    subst (λ (y : Numbered). IsInstance t (instance_from y.0) y.1) same spelled

pub instance_of_is : (r : Row) (y : Instance) → instance_of r ≡ Ok y → (is_id r.number ≡ true) × (r.late ≡ None) × (instance_from r ≡ y)
unfolding instance_of
instance_of_is r y e =
    let h = kept (is_id r.number) (in_range (instance_from r) r.late) IdRange r.at y e in
    let i = in_range_is (instance_from r) r.late y h.1 in
    (h.0, i.0, i.1)

pub instance_sound : (n : ℕ) (at t s : Text) (x : Numbered) (y : Instance) → Next t (k.Id n) s → row n at s ≡ Ok x → instance_of x.0 ≡ Ok y → IsInstance t y x.1
instance_sound n at t s x y number e made =
    let i = instance_of_is x.0 y made in
    subst (λ (z : Instance). IsInstance t z x.1) i.2 (row_sound n at t s x number e i.0 i.1)

abbrev pub good_row : Text → Instance → Row
good_row at x = row_of x.id at x.entity (so_far x.params)

-- the number, and what is behind it
pub record RowRead (t : Text) (x : Instance) (u : Text) : Type 0 where
  pub at : Text
  pub behind : Text
  pub number : token t ≡ Ok (record { token = k.Id x.id; at = at }, behind)
  pub read : row x.id at behind ≡ Ok (good_row at x, u)
  pub made : instance_of (good_row at x) ≡ Ok x

row_reads : (n : ℕ) (at s t v u : Text) (word : Word) (name : List ℕ) (params : List Value) → equals s ≡ Ok (tt, t) → entity t ≡ Ok (word.name, v) → word.name ≡ name → Opened v params u
    → row n at s ≡ Ok (row_of n at name (so_far params), u)
unfolding row
row_reads n at s t v u word name params sign keyword same o = rw (sign, keyword, o.opens, o.ends, same) refl

pub row_complete : {t : Text} {x : Instance} {u : Text} → IsInstance t x u → RowRead t x u
unfolding instance_of
row_complete {x = x} {u = u} i =
    let c = token_complete i.number in
    record {
      at = c.0;
      behind = i.sign;
      number = c.1;
      read = row_reads x.id c.0 i.sign i.keyword i.params u i.word x.entity x.params (equals_complete i.equals) (entity_complete i.word i.entity i.plain) i.name (opened i.values);
      made = rw i.in_range refl;
    }

pub instance_shorter : {t : Text} {x : Instance} {u : Text} → IsInstance t x u → length u < length t
instance_shorter i = omega (arith, id_shorter i.number, next_shorter i.equals, next_shorter i.entity, parameters_shorter i.values)
