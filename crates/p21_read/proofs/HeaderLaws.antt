-- The header of a file: what is read is spelled so, and what is spelled so is read.
use Rattle.std.proofs.Common.{◌≡◌, ℕ, ◌<◌, ◌≤◌, Bool, true, false, cond, List, length, Ok, refl, sym, ap, ◌∙◌, subst, arith}
use Rattle.std.specs.Prelude.{codes}
use Rattle.std.specs.Str.{bytes_eq}
use Rattle.std.proofs.lemmas.Slice.Eq.{bytes_eq-Decides}
use Rattle.ifc_base.specs.declared.value.Value.{Value}
use Rattle.reading.specs.Reading.{Text, Refused, Shortens, ◌>>=◌, refuse, turns}
use Rattle.reading.proofs.Tools.{bound, kept, ok_is, each_sound, Run, all_run}
use Rattle.p21_read.specs.declared.fault.P21Cause.{P21Cause}
use Rattle.p21_read.specs.declared.fault.P21Cause.TheVariants.{BadToken}
use Rattle.p21_read.specs.declared.word.Word.{Word}
use Rattle.p21_read.specs.declared.token.Token.{Token}
use Rattle.p21_read.specs.declared.token.Token.TheVariants as k
use Rattle.p21_read.specs.declared.section.SectionWord.{SectionWord}
use Rattle.p21_read.specs.declared.section.SectionWord.TheVariants as w
use Rattle.p21_read.specs.Tokens.{token}
use Rattle.p21_read.specs.Values.{in_range}
use Rattle.p21_read.specs.Instances.{semicolon, opening, closed}
use Rattle.p21_read.specs.Headers.{section_word, Heading, heading_by, heading, opening_word, opened, header_word, header_opened, parameters, named_by, named, further_word, further_by, further_turn, rest, schema_id, entities, header}
use Rattle.p21_read.specs.TokenGrammar.{Next}
use Rattle.p21_read.specs.Grammar.{Parameters}
use Rattle.p21_read.specs.FileGrammar.{IsHeading, IsLine, IsEntity, Further, IsHeader}
use Rattle.p21_read.proofs.TokenLaws.{token_sound, token_complete, next_shorter, word_shorter}
use Rattle.p21_read.proofs.InstanceLaws.{semicolon_sound, semicolon_complete, opening_sound, parameters_from, parameters_shorter, in_range_is}
use Rattle.p21_read.proofs.InstanceLaws as instance

abbrev Done : Type 0
Done = Unit {0} × Text

-- ---- words of the file's structure

abbrev Headed : Type 0
Headed = Heading × Text

heading_by_sound : (token_of : Token) (at t s : Text) (x : Headed) → Next t token_of s → heading_by token_of at s ≡ Ok x → IsHeading x.0.word t x.1
heading_by_sound (k.Word written) at t s x n e =
    subst (λ (y : Headed). IsHeading y.0.word t y.1) (ok_is {E = Refused P21Cause} (record { word = section_word written; at = at }, s) x e) (record { written = written; next = n; is = refl })
heading_by_sound other at t s x n e = absurd cc

pub heading_sound : (t : Text) (x : Headed) → heading t ≡ Ok x → IsHeading x.0.word t x.1
unfolding heading
heading_sound t x e =
    let b = bound {r = token t} e in
    heading_by_sound b.0.0.token b.0.0.at t b.0.1 x (token_sound t b.0.0 b.0.1 b.1) b.2

pub heading_complete : {word : SectionWord} {t u : Text} → IsHeading word t u → (at : Text) × (heading t ≡ Ok (record { word = word; at = at }, u))
unfolding heading
heading_complete h = let c = token_complete h.next in (c.0, rw (c.1, h.is) refl)

-- the word and the semicolon
pub record LineRead (word : SectionWord) (t u : Text) : Type 0 where
  pub at : Text
  pub behind : Text
  pub word_read : heading t ≡ Ok (record { word = word; at = at }, behind)
  pub ends : semicolon behind ≡ Ok (tt, u)

pub line_complete : {word : SectionWord} {t u : Text} → IsLine word t u → LineRead word t u
line_complete l = let h = heading_complete l.heading in record { at = h.0; behind = l.behind; word_read = h.1; ends = semicolon_complete l.ends }

pub line_from : (word : SectionWord) (t s : Text) (x : Done) → IsHeading word t s → semicolon s ≡ Ok x → IsLine word t x.1
line_from word t s x h e = record { behind = s; heading = h; ends = semicolon_sound s x e }

pub line_shorter : {word : SectionWord} {t u : Text} → IsLine word t u → length u ≤ length t
line_shorter l = omega (arith, next_shorter l.heading.next, next_shorter l.ends)

opening_word_is : (word : SectionWord) (at s : Text) (x : Done) → opening_word word at s ≡ Ok x → (word ≡ w.Opening) × (semicolon s ≡ Ok x)
opening_word_is w.Opening at s x e = (refl, e)
opening_word_is other at s x e = absurd cc

opened_sound : (t : Text) (x : Done) → opened t ≡ Ok x → IsLine w.Opening t x.1
unfolding opened
opened_sound t x e =
    let b = bound {r = heading t} e in
    let p = opening_word_is b.0.0.word b.0.0.at b.0.1 x b.2 in
    line_from w.Opening t b.0.1 x (subst (λ (y : SectionWord). IsHeading y t b.0.1) p.0 (heading_sound t b.0 b.1)) p.1

opened_complete : {t u : Text} → IsLine w.Opening t u → opened t ≡ Ok (tt, u)
unfolding opened
opened_complete l = let r = line_complete l in rw r.word_read r.ends

header_word_is : (word : SectionWord) (at s : Text) (x : Done) → header_word word at s ≡ Ok x → (word ≡ w.Header) × (semicolon s ≡ Ok x)
header_word_is w.Header at s x e = (refl, e)
header_word_is other at s x e = absurd cc

header_opened_sound : (t : Text) (x : Done) → header_opened t ≡ Ok x → IsLine w.Header t x.1
unfolding header_opened
header_opened_sound t x e =
    let b = bound {r = heading t} e in
    let p = header_word_is b.0.0.word b.0.0.at b.0.1 x b.2 in
    line_from w.Header t b.0.1 x (subst (λ (y : SectionWord). IsHeading y t b.0.1) p.0 (heading_sound t b.0 b.1)) p.1

header_opened_complete : {t u : Text} → IsLine w.Header t u → header_opened t ≡ Ok (tt, u)
unfolding header_opened
header_opened_complete l = let r = line_complete l in rw r.word_read r.ends

-- ---- header entities

abbrev Had : Type 0
Had = List Value × Text

pub parameters_sound : (t : Text) (x : Had) → parameters t ≡ Ok x → Parameters t x.0 x.1
unfolding parameters
parameters_sound t x e =
    let b = bound {r = opening t} e in
    let c = bound {r = closed b.0.0 b.0.1} b.2 in
    let d = bound {r = in_range c.0.0.values c.0.0.late} c.2 in
    let i = in_range_is c.0.0.values c.0.0.late d.0 d.1 in
    let same : (c.0.0.values, c.0.1) ≡ x = ap (λ (xs : List Value). (xs, c.0.1)) i.1 ∙ ok_is {E = Refused P21Cause} (d.0, c.0.1) x d.2 in
    subst (λ (y : Had). Parameters t y.0 y.1) same (parameters_from t b.0.0 b.0.1 c.0 (opening_sound t b.0 b.1) c.1 i.0)

pub parameters_complete : {t : Text} {params : List Value} {u : Text} → Parameters t params u → parameters t ≡ Ok (params, u)
unfolding parameters
parameters_complete p = let o = instance.opened p in rw (o.opens, o.ends) refl

named_by_sound : (name : List ℕ) (token_of : Token) (at t s : Text) (x : Had) → Next t token_of s → named_by name token_of at s ≡ Ok x → IsEntity name t x.0 x.1
named_by_sound name (k.Word written) at t s x n e =
    let h = kept (bytes_eq written.name name) (parameters s) BadToken at x e in
    record { written = written; behind = s; keyword = n; is = (bytes_eq-Decides written.name name).0 h.0; values = parameters_sound s x h.1 }
named_by_sound name other at t s x n e = absurd cc

named_sound : (name : List ℕ) (t : Text) (x : Had) → named name t ≡ Ok x → IsEntity name t x.0 x.1
unfolding named
named_sound name t x e =
    let b = bound {r = token t} e in
    named_by_sound name b.0.0.token b.0.0.at t b.0.1 x (token_sound t b.0.0 b.0.1 b.1) b.2

named_complete : {name : List ℕ} {t : Text} {params : List Value} {u : Text} → IsEntity name t params u → named name t ≡ Ok (params, u)
unfolding named
named_complete {name = name} i =
    let c = token_complete i.keyword in
    let same = (bytes_eq-Decides i.written.name name).1 i.is in
    rw (c.1, same) (parameters_complete i.values)

-- ---- further entities

abbrev Turn : Type 0
Turn = (Bool × Unit {0}) × Text

-- a further entity before what follows
record IsFurther (t : Text) (u : Text) : Type 0 where
  written : Word
  params : List Value
  behind : Text
  keyword : Next t (k.Word written) behind
  plain : written.plain ≡ true
  other : section_word written ≡ w.EndSection → ⊥
  values : Parameters behind params u

-- the section's end, or a further entity
abbrev Went : Text → Turn → Type 0
Went t ((false, r), u) = IsLine w.EndSection t u
Went t ((true, r), u) = IsFurther t u

end_went : (t s : Text) (x : Turn) → IsHeading w.EndSection t s → (semicolon s >>= λ e. Ok ((false, tt), e.1)) ≡ Ok x → Went t x
end_went t s x h e =
    let b = bound {r = semicolon s} e in
    subst (λ (y : Turn). Went t y) (ok_is {E = Refused P21Cause} ((false, tt), b.0.1) x b.2) (line_from w.EndSection t s b.0 h b.1)

entity_went : (written : Word) (at t s : Text) (x : Turn) → Next t (k.Word written) s → (section_word written ≡ w.EndSection → ⊥)
    → cond written.plain (parameters s >>= λ p. Ok ((true, tt), p.1)) (refuse BadToken at) ≡ Ok x → Went t x
entity_went written at t s x n other e =
    let h = kept written.plain (parameters s >>= λ p. Ok ((true, tt), p.1)) BadToken at x e in
    let b = bound {r = parameters s} h.1 in
    let one : IsFurther t b.0.1 = record { written = written; params = b.0.0; behind = s; keyword = n; plain = h.0; other = other; values = parameters_sound s b.0 b.1 } in
    subst (λ (y : Turn). Went t y) (ok_is {E = Refused P21Cause} ((true, tt), b.0.1) x b.2) one

further_word_went : (word : SectionWord) (written : Word) (at t s : Text) (x : Turn) → section_word written ≡ word → Next t (k.Word written) s → further_word written.plain word at s ≡ Ok x → Went t x
further_word_went w.EndSection written at t s x is n e = end_went t s x (record { written = written; next = n; is = is }) e
further_word_went other written at t s x is n e = entity_went written at t s x n (λ end. let wrong = sym is ∙ end in cc) e

further_by_went : (token_of : Token) (at t s : Text) (x : Turn) → Next t token_of s → further_by token_of at s ≡ Ok x → Went t x
further_by_went (k.Word written) at t s x n e = further_word_went (section_word written) written at t s x refl n e
further_by_went other at t s x n e = absurd cc

turn_went : (t : Text) (x : Turn) → further_turn tt t ≡ Ok x → Went t x
unfolding further_turn
turn_went t x e =
    let b = bound {r = token t} e in
    further_by_went b.0.0.token b.0.0.at t b.0.1 x (token_sound t b.0.0 b.0.1 b.1) b.2

further_from : {t u w : Text} → IsFurther t u → Further u w → Further t w
further_from {t = t} {u = u} {w = w} i more = Further.entity i.written i.params t i.behind u w i.keyword i.plain i.other i.values more

rest_sound : (t : Text) (x : Done) → rest t ≡ Ok x → Further t x.1
unfolding rest
rest_sound t x e =
    each_sound BadToken further_turn (λ s t r u. Further t u) (λ s t r u went. Further.ends t u (turn_went t ((false, r), u) went))
    (λ s t r u q w went more. further_from (turn_went t ((true, r), u) went) more) (turns t) tt t x.0 x.1 e

further_word_other : (plain : Bool) (word : SectionWord) (at s : Text) → (word ≡ w.EndSection → ⊥)
    → further_word plain word at s ≡ cond plain (parameters s >>= λ p. Ok ((true, tt), p.1)) (refuse BadToken at)
further_word_other plain w.EndSection at s other = absurd (other refl)
further_word_other plain word at s other = refl

end_turn : {t u : Text} → IsLine w.EndSection t u → further_turn tt t ≡ Ok ((false, tt), u)
unfolding further_turn
end_turn l =
    let c = token_complete l.heading.next in
    rw (c.1, l.heading.is, semicolon_complete l.ends) refl

further_by_is : (written : Word) (at r : Text) (x : Had) → written.plain ≡ true → (section_word written ≡ w.EndSection → ⊥) → parameters r ≡ Ok x → further_by (k.Word written) at r ≡ Ok ((true, tt), x.1)
further_by_is written at r x plain other read = further_word_other written.plain (section_word written) at r other ∙ rw (plain, read) refl

entity_turn : (written : Word) {params : List Value} {t r s : Text} → Next t (k.Word written) r → written.plain ≡ true → (section_word written ≡ w.EndSection → ⊥) → Parameters r params s
    → further_turn tt t ≡ Ok ((true, tt), s)
unfolding further_turn
entity_turn written {params = params} {r = r} {s = s} n plain other p =
    let c = token_complete n in
    rw c.1 (further_by_is written c.0 r (params, s) plain other (parameters_complete p))

further_runs : {t u : Text} → Further t u → Run further_turn tt t tt u
further_runs (Further.ends t u l) = Run.last tt t tt u (end_turn l)
further_runs (Further.entity written params t r s u n plain other p more) =
    Run.more tt t tt s tt u (entity_turn written n plain other p) (omega (arith, word_shorter n, parameters_shorter p)) (further_runs more)

rest_complete : {t u : Text} → Further t u → rest t ≡ Ok (tt, u)
unfolding rest
rest_complete f = all_run BadToken further_turn (further_runs f)

-- ---- the header

pub header_sound : (t : Text) (x : List ℕ × Text) → header t ≡ Ok x → IsHeader t x.0 x.1
unfolding header entities
header_sound t x e =
    let b1 = bound {r = opened t} e in
    let b2 = bound {r = header_opened b1.0.1} b1.2 in
    let b3 = bound {r = entities b2.0.1} b2.2 in
    let c1 = bound {r = named (codes "FILE_DESCRIPTION") b2.0.1} b3.1 in
    let c2 = bound {r = named (codes "FILE_NAME") c1.0.1} c1.2 in
    let b4 = bound {r = rest b3.0.1} b3.2 in
    let same = ok_is {E = Refused P21Cause} (schema_id b3.0.0, b4.0.1) x b4.2 in
    let spelled : IsHeader t (schema_id b3.0.0) b4.0.1 = record {
      start = b1.0.1;
      front = b2.0.1;
      second = c1.0.1;
      third = c2.0.1;
      rest = b3.0.1;
      description = c1.0.0;
      name = c2.0.0;
      schema = b3.0.0;
      opened = opened_sound t b1.0 b1.1;
      header = header_opened_sound b1.0.1 b2.0 b2.1;
      file_description = named_sound (codes "FILE_DESCRIPTION") b2.0.1 c1.0 c1.1;
      file_name = named_sound (codes "FILE_NAME") c1.0.1 c2.0 c2.1;
      file_schema = named_sound (codes "FILE_SCHEMA") c2.0.1 b3.0 c2.2;
      further = rest_sound b3.0.1 b4.0 b4.1;
      kept = refl;
    } in
    subst (λ (y : List ℕ × Text). IsHeader t y.0 y.1) same spelled

pub header_complete : {t : Text} {id : List ℕ} {u : Text} → IsHeader t id u → header t ≡ Ok (id, u)
unfolding header entities
header_complete {u = u} h =
    rw (opened_complete h.opened, header_opened_complete h.header, named_complete h.file_description, named_complete h.file_name, named_complete h.file_schema, rest_complete h.further)
    (ap (λ (i : List ℕ). Ok (i, u)) h.kept)

-- ---- turns that go on leave less

further_shorter : {t u : Text} → IsFurther t u → length u < length t
further_shorter i = omega (arith, word_shorter i.keyword, parameters_shorter i.values)

pub further_shortens : Shortens further_turn
further_shortens s t r u e = further_shorter (turn_went t ((true, r), u) e)
