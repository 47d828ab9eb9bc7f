-- Whole files: what is read is spelled so, and what is spelled so is read.
use Rattle.std.proofs.Common.{◌≡◌, ℕ, ◌<◌, ◌≤◌, Bool, true, false, cond, eqb, List, [], ◌∷◌, ◌++◌, length, Result, Ok, Err, refl, sym, ap, ◌∙◌, subst, append_assoc, length-append, arith}
use Rattle.std.proofs.lemmas.Bool.{or_parts}
use Rattle.std.specs.Prelude.{IfOk, ◌||◌, nat_le}
use Rattle.std.proofs.lemmas.List.{append-nil}
use Rattle.std.proofs.lemmas.List.Folds.{list_any-append}
use Rattle.std.proofs.lemmas.Bool.Decides.{nat_tests}
use Rattle.ifc_base.specs.declared.memory.Refusal.{Refusal}
use Rattle.ifc_base.specs.declared.value.Instance.{Instance}
use Rattle.reading.specs.declared.fault.Fault.{Fault}
use Rattle.reading.specs.Codes.{codes_of}
use Rattle.reading.specs.Lines.{with_line, Answers}
use Rattle.reading.specs.Reading.{Text, Refused, Shortens, refuse, turns, all_turns}
use Rattle.reading.proofs.Lines.{with_line_ok}
use Rattle.reading.proofs.Tools.{bound, passed, ok_is, each_sound, Run, all_run}
use Rattle.p21_read.specs.declared.fault.P21Cause.{P21Cause}
use Rattle.p21_read.specs.declared.fault.P21Cause.TheVariants.{BadToken, IdTwice, TooManyInstances}
use Rattle.p21_read.specs.declared.token.Token.{Token}
use Rattle.p21_read.specs.declared.token.Token.TheVariants as k
use Rattle.p21_read.specs.declared.section.SectionWord.{SectionWord}
use Rattle.p21_read.specs.declared.section.SectionWord.TheVariants as w
use Rattle.p21_read.specs.declared.file.P21File.{P21File}
use Rattle.p21_read.specs.Tokens.{token}
use Rattle.p21_read.specs.Values.{in_range}
use Rattle.p21_read.specs.Instances.{semicolon, closed, row, instance_of}
use Rattle.p21_read.specs.Headers.{section_word, heading, header}
use Rattle.ifc_base.specs.Ids.{has_id, HasDistinctIds}
use Rattle.p21_read.specs.Files.{placed, instance, data_word, data_by, data_turn, data_parameters, data_open_by, data_open, data_section, first_word, first_section, further_word, section_turn, sections, file_of, whole_file}
use Rattle.p21_read.specs.Readings.{file_reading}
use Rattle.p21_read.specs.TokenGrammar.{Next}
use Rattle.p21_read.specs.Grammar.{IsInstance}
use Rattle.p21_read.specs.FileGrammar.{IsHeading, IsLine, Opens, Rows, IsSection, Sections, ReadsFile}
use Rattle.p21_read.proofs.TokenLaws.{token_sound, token_complete, next_shorter, word_shorter}
use Rattle.p21_read.proofs.InstanceLaws.{semicolon_complete, parameters_from, parameters_shorter, closed_complete, in_range_is, instance_sound, row_complete, instance_shorter}
use Rattle.p21_read.proofs.HeaderLaws.{heading_sound, heading_complete, line_complete, line_from, line_shorter, header_sound, header_complete}

-- ---- ids and their number

-- what is asked of the instances of a file
pub record Fits (most : ℕ) (xs : List Instance) : Type 0 where
  pub distinct : HasDistinctIds xs
  pub few : length xs ≤ most

both_false : (a b : Bool) → a ≡ false → b ≡ false → (a || b) ≡ false
both_false a b p q = rw (p, q) refl

other_way : (m n : ℕ) → eqb m n ≡ false → eqb n m ≡ false
other_way m n e = grind (arith, nat_tests)

abbrev is_of : ℕ → Instance → Bool
is_of n x = eqb n x.id

distinct_one : (s : List Instance) (x : Instance) → HasDistinctIds s → has_id x.id s ≡ false → HasDistinctIds (s ++ x ∷ [])
distinct_one [] x d new = (refl, tt)
distinct_one (y ∷ s) x d new =
    let n = or_parts (eqb x.id y.id) (has_id x.id s) new in
    let last : has_id y.id (x ∷ []) ≡ false = both_false (eqb y.id x.id) false (other_way x.id y.id n.0) refl in
    (list_any-append (is_of y.id) s (x ∷ []) ∙ both_false (has_id y.id s) (has_id y.id (x ∷ [])) d.0 last, distinct_one s x d.1 n.1)

new_one : (s : List Instance) (x : Instance) (xs : List Instance) → HasDistinctIds (s ++ x ∷ xs) → has_id x.id s ≡ false
new_one [] x xs d = refl
new_one (y ∷ s) x xs d =
    let n = or_parts (has_id y.id s) (has_id y.id (x ∷ xs)) (sym (list_any-append (is_of y.id) s (x ∷ xs)) ∙ d.0) in
    let first = or_parts (eqb y.id x.id) (has_id y.id xs) n.1 in
    both_false (eqb x.id y.id) (has_id x.id s) (other_way y.id x.id first.0) (new_one s x xs d.1)

fits_one : (most : ℕ) (s : List Instance) (x : Instance) → Fits most s → has_id x.id s ≡ false → length s < most → Fits most (s ++ x ∷ [])
fits_one most s x f new lt = record { distinct = distinct_one s x f.distinct new; few = omega (arith, length-append s (x ∷ [])) }

abbrev Listed : Type 0
Listed = List Instance

-- a place for one more
record IsPlaced (most : ℕ) (s : Listed) (x : Instance) (y : Listed) : Type 0 where
  new : has_id x.id s ≡ false
  less : length s < most
  same : s ++ x ∷ [] ≡ y

room : (most n : ℕ) → nat_le most n ≡ false → n < most
room most n e = grind (arith, nat_tests)

no_room : (most n : ℕ) → n < most → nat_le most n ≡ false
no_room most n lt = grind (arith, nat_tests)

placed_is : (most : ℕ) (s : Listed) (at : Text) (x : Instance) (y : Listed) → placed most s at x ≡ Ok y → IsPlaced most s x y
unfolding placed
placed_is most s at x y e =
    let p = passed (has_id x.id s) (cond (nat_le most (length s)) (refuse TooManyInstances at) (Ok (s ++ x ∷ []))) IdTwice at y e in
    let q = passed (nat_le most (length s)) (Ok (s ++ x ∷ [])) TooManyInstances at y p.1 in
    record { new = p.0; less = room most (length s) q.0; same = ok_is {E = Refused P21Cause} (s ++ x ∷ []) y q.1 }

placed_reads : (most : ℕ) (s : Listed) (at : Text) (x : Instance) (xs : Listed) → Fits most (s ++ x ∷ xs) → placed most s at x ≡ Ok (s ++ x ∷ [])
unfolding placed
placed_reads most s at x xs f =
    let few = f.few in
    let lt : length s < most = omega (arith, length-append s (x ∷ xs), few) in
    rw (new_one s x xs f.distinct, no_room most (length s) lt) refl

-- ---- rows of a section

abbrev Had : Type 0
Had = Listed × Text

abbrev Turn : Type 0
Turn = (Bool × Listed) × Text

-- one instance, with its place
record IsRow (most : ℕ) (s : Listed) (t : Text) (y : Had) : Type 0 where
  row : Instance
  spelled : IsInstance t row y.1
  placed : IsPlaced most s row y.0

one_row : (most : ℕ) (s : Listed) (n : ℕ) (at t m : Text) (y : Had) → Next t (k.Id n) m → instance most s n at m ≡ Ok y → IsRow most s t y
unfolding instance
one_row most s n at t m y number e =
    let b = bound {r = row n at m} e in
    let c = bound {r = instance_of b.0.0} b.2 in
    let d = bound {r = placed most s at c.0} c.2 in
    let spelled = instance_sound n at t m b.0 c.0 number b.1 c.1 in
    subst (λ (z : Had). IsRow most s t z) (ok_is {E = Refused P21Cause} (d.0, b.0.1) y d.2) (record { row = c.0; spelled = spelled; placed = placed_is most s at c.0 d.0 d.1 })

-- the section's end, or one row
abbrev Went : ℕ → Listed → Text → Turn → Type 0
Went most s t ((false, r), u) = IsLine w.EndSection t u × (s ≡ r)
Went most s t ((true, r), u) = IsRow most s t (r, u)

data_word_went : (most : ℕ) (s : Listed) (word : SectionWord) (at t m : Text) (x : Turn) → IsHeading word t m → data_word s word at m ≡ Ok x → Went most s t x
data_word_went most s w.EndSection at t m x h e =
    let b = bound {r = semicolon m} e in
    subst (λ (y : Turn). Went most s t y) (ok_is {E = Refused P21Cause} ((false, s), b.0.1) x b.2) (line_from w.EndSection t m b.0 h b.1, refl)
data_word_went most s other at t m x h e = absurd cc

data_by_went : (most : ℕ) (s : Listed) (token_of : Token) (at t m : Text) (x : Turn) → Next t token_of m → data_by most s token_of at m ≡ Ok x → Went most s t x
data_by_went most s (k.Id n) at t m x number e =
    let b = bound {r = instance most s n at m} e in
    subst (λ (y : Turn). Went most s t y) (ok_is {E = Refused P21Cause} ((true, b.0.0), b.0.1) x b.2) (one_row most s n at t m b.0 number b.1)
data_by_went most s (k.Word written) at t m x n e = data_word_went most s (section_word written) at t m x (record { written = written; next = n; is = refl }) e
data_by_went most s other at t m x n e = absurd cc

turn_went : (most : ℕ) (s : Listed) (t : Text) (x : Turn) → data_turn most s t ≡ Ok x → Went most s t x
unfolding data_turn
turn_went most s t x e =
    let b = bound {r = token t} e in
    data_by_went most s b.0.0.token b.0.0.at t b.0.1 x (token_sound t b.0.0 b.0.1 b.1) b.2

-- instances that a part of the file adds
record AddsRows (most : ℕ) (s : Listed) (t : Text) (r : Listed) (u : Text) : Type 0 where
  xs : Listed
  rows : Rows t xs u
  same : s ++ xs ≡ r
  fits : Fits most r

abbrev RowsFrom : ℕ → Listed → Text → Listed → Text → Type 0
RowsFrom most s t r u = Fits most s → AddsRows most s t r u

rows_last : (most : ℕ) (s : Listed) (t : Text) (r : Listed) (u : Text) → Went most s t ((false, r), u) → RowsFrom most s t r u
rows_last most s t r u went f = record { xs = []; rows = Rows.ends t u went.0; same = append-nil s ∙ went.1; fits = subst (λ (y : Listed). Fits most y) went.1 f }

rows_more : (most : ℕ) (s : Listed) (t : Text) (r : Listed) (u : Text) (q : Listed) (v : Text) → IsRow most s t (r, u) → RowsFrom most r u q v → RowsFrom most s t q v
rows_more most s t r u q v i more f =
    let fits = subst (λ (y : Listed). Fits most y) i.placed.same (fits_one most s i.row f i.placed.new i.placed.less) in
    let m = more fits in
    record {
      xs = i.row ∷ m.xs;
      rows = Rows.more i.row m.xs t u v i.spelled m.rows;
      same = sym (append_assoc s (i.row ∷ []) m.xs) ∙ ap (λ (y : Listed). y ++ m.xs) i.placed.same ∙ m.same;
      fits = m.fits;
    }

rows_sound : (most : ℕ) (s : Listed) (t : Text) (x : Had) → all_turns BadToken (data_turn most) s t ≡ Ok x → RowsFrom most s t x.0 x.1
rows_sound most s t x e =
    each_sound BadToken (data_turn most) (RowsFrom most) (λ s t r u went. rows_last most s t r u (turn_went most s t ((false, r), u) went))
    (λ s t r u q v went more. rows_more most s t r u q v (turn_went most s t ((true, r), u) went) more) (turns t) s t x.0 x.1 e

rows_shorter : {t : Text} {xs : Listed} {u : Text} → Rows t xs u → length u ≤ length t
rows_shorter (Rows.ends t u l) = line_shorter l
rows_shorter (Rows.more x xs t r u i others) = omega (arith, instance_shorter i, rows_shorter others)

row_turn : (most : ℕ) (s : Listed) {x : Instance} (xs : Listed) {t u : Text} → IsInstance t x u → Fits most (s ++ x ∷ xs) → data_turn most s t ≡ Ok ((true, s ++ x ∷ []), u)
unfolding data_turn instance
row_turn most s {x = x} xs i f =
    let r = row_complete i in
    rw (r.number, r.read, r.made, placed_reads most s r.at x xs f) refl

end_turn : (most : ℕ) (s : Listed) {t u : Text} → IsLine w.EndSection t u → data_turn most s t ≡ Ok ((false, s), u)
unfolding data_turn
end_turn most s l =
    let c = token_complete l.heading.next in
    rw (c.1, l.heading.is, semicolon_complete l.ends) refl

rows_run : {t : Text} {xs : Listed} {u : Text} (most : ℕ) (s : Listed) → Rows t xs u → Fits most (s ++ xs) → Run (data_turn most) s t (s ++ xs) u
rows_run most s (Rows.ends t u l) f = rw (append-nil s) (Run.last s t s u (end_turn most s l))
rows_run most s (Rows.more x xs t r u i others) f =
    let same = append_assoc s (x ∷ []) xs in
    let fits = subst (λ (y : Listed). Fits most y) (sym same) f in
    subst (λ (y : Listed). Run (data_turn most) s t y u) same
    (Run.more s t (s ++ x ∷ []) r ((s ++ x ∷ []) ++ xs) u (row_turn most s xs i f) (instance_shorter i) (rows_run most (s ++ x ∷ []) others fits))

rows_complete : {t : Text} {xs : Listed} {u : Text} (most : ℕ) (s : Listed) → Rows t xs u → Fits most (s ++ xs) → all_turns BadToken (data_turn most) s t ≡ Ok (s ++ xs, u)
rows_complete most s rows f = all_run BadToken (data_turn most) (rows_run most s rows f)

-- ---- sections

abbrev Done : Type 0
Done = Unit {0} × Text

data_open_by_sound : (token_of : Token) (at t m : Text) (x : Done) → Next t token_of m → data_open_by token_of at m ≡ Ok x → Opens t x.1
unfolding data_parameters
data_open_by_sound k.Semicolon at t m x n e = subst (λ (y : Done). Opens t y.1) (ok_is {E = Refused P21Cause} (tt, m) x e) (Opens.plain t m n)
data_open_by_sound k.Open at t m x n e =
    let b = bound {r = closed at m} e in
    let c = bound {r = in_range tt b.0.0.late} b.2 in
    let i = in_range_is tt b.0.0.late c.0 c.1 in
    let p = parameters_from t at m b.0 n b.1 i.0 in
    subst (λ (y : Done). Opens t y.1) (ok_is {E = Refused P21Cause} (c.0, b.0.1) x c.2) (Opens.with_parameters b.0.0.values t b.0.1 p)
data_open_by_sound other at t m x n e = absurd cc

data_open_sound : (t : Text) (x : Done) → data_open t ≡ Ok x → Opens t x.1
unfolding data_open
data_open_sound t x e =
    let b = bound {r = token t} e in
    data_open_by_sound b.0.0.token b.0.0.at t b.0.1 x (token_sound t b.0.0 b.0.1 b.1) b.2

data_open_complete : {t u : Text} → Opens t u → data_open t ≡ Ok (tt, u)
unfolding data_open data_parameters
data_open_complete (Opens.plain t u n) = let c = token_complete n in rw c.1 refl
data_open_complete (Opens.with_parameters params t u p) = let c = token_complete p.opens in rw (c.1, closed_complete c.0 p.items p.ends) refl

opens_shorter : {t u : Text} → Opens t u → length u ≤ length t
opens_shorter (Opens.plain t u n) = next_shorter n
opens_shorter (Opens.with_parameters params t u p) = parameters_shorter p

-- what stands behind `DATA`, added to the instances before
record AddsSection (most : ℕ) (s : Listed) (t : Text) (r : Listed) (u : Text) : Type 0 where
  inside : Text
  opens : Opens t inside
  adds : AddsRows most s inside r u

section_sound : (most : ℕ) (s : Listed) (t : Text) (x : Had) → data_section most s t ≡ Ok x → Fits most s → AddsSection most s t x.0 x.1
unfolding data_section
section_sound most s t x e f =
    let b = bound {r = data_open t} e in
    record { inside = b.0.1; opens = data_open_sound t b.0 b.1; adds = rows_sound most s b.0.1 x b.2 f }

section_from : (most : ℕ) (s : Listed) (t m : Text) (r : Listed) (u : Text) → IsHeading w.Data t m → (a : AddsSection most s m r u) → IsSection t a.adds.xs u
section_from most s t m r u h a = record { behind = m; inside = a.inside; heading = h; opens = a.opens; rows = a.adds.rows }

section_complete : {t : Text} {xs : Listed} {u : Text} (most : ℕ) (s : Listed) (i : IsSection t xs u) → Fits most (s ++ xs) → data_section most s i.behind ≡ Ok (s ++ xs, u)
unfolding data_section
section_complete most s i f = rw (data_open_complete i.opens) (rows_complete most s i.rows f)

section_shorter : {t : Text} {xs : Listed} {u : Text} → IsSection t xs u → length u < length t
section_shorter i = omega (arith, word_shorter i.heading.next, opens_shorter i.opens, rows_shorter i.rows)

-- ---- all sections

-- the closing word, or a further section
abbrev Further : ℕ → Listed → Text → Turn → Type 0
Further most s t ((false, r), u) = IsLine w.Closing t u × (s ≡ r)
Further most s t ((true, r), u) = (m : Text) × IsHeading w.Data t m × (data_section most s m ≡ Ok (r, u))

further_word_went : (most : ℕ) (s : Listed) (word : SectionWord) (at t m : Text) (x : Turn) → IsHeading word t m → further_word most s word at m ≡ Ok x → Further most s t x
further_word_went most s w.Data at t m x h e =
    let b = bound {r = data_section most s m} e in
    subst (λ (y : Turn). Further most s t y) (ok_is {E = Refused P21Cause} ((true, b.0.0), b.0.1) x b.2) (m, h, b.1)
further_word_went most s w.Closing at t m x h e =
    let b = bound {r = semicolon m} e in
    subst (λ (y : Turn). Further most s t y) (ok_is {E = Refused P21Cause} ((false, s), b.0.1) x b.2) (line_from w.Closing t m b.0 h b.1, refl)
further_word_went most s other at t m x h e = absurd cc

section_went : (most : ℕ) (s : Listed) (t : Text) (x : Turn) → section_turn most s t ≡ Ok x → Further most s t x
unfolding section_turn
section_went most s t x e =
    let b = bound {r = heading t} e in
    further_word_went most s b.0.0.word b.0.0.at t b.0.1 x (heading_sound t b.0 b.1) b.2

-- the instances of the sections that follow
record AddsSections (most : ℕ) (s : Listed) (t : Text) (r : Listed) (u : Text) : Type 0 where
  xs : Listed
  sections : Sections t xs u
  same : s ++ xs ≡ r
  fits : Fits most r

abbrev SectionsFrom : ℕ → Listed → Text → Listed → Text → Type 0
SectionsFrom most s t r u = Fits most s → AddsSections most s t r u

sections_last : (most : ℕ) (s : Listed) (t : Text) (r : Listed) (u : Text) → Further most s t ((false, r), u) → SectionsFrom most s t r u
sections_last most s t r u went f = record { xs = []; sections = Sections.ends t u went.0; same = append-nil s ∙ went.1; fits = subst (λ (y : Listed). Fits most y) went.1 f }

sections_more : (most : ℕ) (s : Listed) (t : Text) (r : Listed) (u : Text) (q : Listed) (v : Text) → Further most s t ((true, r), u) → SectionsFrom most r u q v → SectionsFrom most s t q v
sections_more most s t r u q v went more f =
    let a = section_sound most s went.0 (r, u) went.2 f in
    let m = more a.adds.fits in
    record {
      xs = a.adds.xs ++ m.xs;
      sections = Sections.more a.adds.xs m.xs t u v (section_from most s t went.0 r u went.1 a) m.sections;
      same = sym (append_assoc s a.adds.xs m.xs) ∙ ap (λ (y : Listed). y ++ m.xs) a.adds.same ∙ m.same;
      fits = m.fits;
    }

sections_sound : (most : ℕ) (s : Listed) (t : Text) (x : Had) → all_turns BadToken (section_turn most) s t ≡ Ok x → SectionsFrom most s t x.0 x.1
sections_sound most s t x e =
    each_sound BadToken (section_turn most) (SectionsFrom most) (λ s t r u went. sections_last most s t r u (section_went most s t ((false, r), u) went))
    (λ s t r u q v went more. sections_more most s t r u q v (section_went most s t ((true, r), u) went) more) (turns t) s t x.0 x.1 e

first_word_is : (most : ℕ) (word : SectionWord) (at m : Text) (x : Had) → first_word most word at m ≡ Ok x → (word ≡ w.Data) × (data_section most [] m ≡ Ok x)
first_word_is most w.Data at m x e = (refl, e)
first_word_is most other at m x e = absurd cc

-- fewer instances, those at the front of others
front_distinct : (s xs : Listed) → HasDistinctIds (s ++ xs) → HasDistinctIds s
front_distinct [] xs d = tt
front_distinct (y ∷ s) xs d = let n = or_parts (has_id y.id s) (has_id y.id xs) (sym (list_any-append (is_of y.id) s xs) ∙ d.0) in (n.0, front_distinct s xs d.1)

front_fits : (most : ℕ) (s xs : Listed) → Fits most (s ++ xs) → Fits most s
front_fits most s xs f = let few = f.few in record { distinct = front_distinct s xs f.distinct; few = omega (arith, length-append s xs, few) }

section_turns : (most : ℕ) (s : Listed) {xs : Listed} {t u : Text} → IsSection t xs u → Fits most (s ++ xs) → section_turn most s t ≡ Ok ((true, s ++ xs), u)
unfolding section_turn
section_turns most s i f =
    let h = heading_complete i.heading in
    rw (h.1, section_complete most s i f) refl

closing_turn : (most : ℕ) (s : Listed) {t u : Text} → IsLine w.Closing t u → section_turn most s t ≡ Ok ((false, s), u)
unfolding section_turn
closing_turn most s l = let r = line_complete l in rw (r.word_read, r.ends) refl

sections_run : {t : Text} {xs : Listed} {u : Text} (most : ℕ) (s : Listed) → Sections t xs u → Fits most (s ++ xs) → Run (section_turn most) s t (s ++ xs) u
sections_run most s (Sections.ends t u l) f = rw (append-nil s) (Run.last s t s u (closing_turn most s l))
sections_run most s (Sections.more xs ys t r u i others) f =
    let same = append_assoc s xs ys in
    let fits = subst (λ (y : Listed). Fits most y) (sym same) f in
    subst (λ (y : Listed). Run (section_turn most) s t y u) same
    (Run.more s t (s ++ xs) r ((s ++ xs) ++ ys) u (section_turns most s i (front_fits most (s ++ xs) ys fits)) (section_shorter i) (sections_run most (s ++ xs) others fits))

-- ---- the file

none_fit : (most : ℕ) → Fits most []
none_fit most = record { distinct = tt; few = omega arith }

file_is : {most : ℕ} {bytes : List ℕ} {file : P21File} → ReadsFile most bytes file → Fits most file.instances
file_is r = record { distinct = r.distinct; few = r.few }

whole_sound : (most : ℕ) (bytes : List ℕ) (y : P21File) → whole_file most (codes_of bytes) ≡ Ok y → ReadsFile most bytes y
unfolding whole_file sections first_section
whole_sound most bytes y e =
    let b = bound {r = header (codes_of bytes)} e in
    let c = bound {r = sections most b.0.1} b.2 in
    let d = bound {r = first_section most b.0.1} c.1 in
    let h = bound {r = heading b.0.1} d.1 in
    let p = first_word_is most h.0.0.word h.0.0.at h.0.1 d.0 h.2 in
    let one = section_sound most [] h.0.1 d.0 p.1 (none_fit most) in
    let more = sections_sound most d.0.0 d.0.1 c.0 d.2 one.adds.fits in
    let heading_is = subst (λ (word : SectionWord). IsHeading word b.0.1 h.0.1) p.0 (heading_sound b.0.1 h.0 h.1) in
    let spelled : ReadsFile most bytes (file_of b.0.0 c.0.0) = record {
      sections = b.0.1;
      further = d.0.1;
      rest = c.0.1;
      first = one.adds.xs;
      others = more.xs;
      header = header_sound (codes_of bytes) b.0 b.1;
      one = section_from most [] b.0.1 h.0.1 d.0.0 d.0.1 heading_is one;
      more = more.sections;
      kept = sym (ap (λ (xs : Listed). xs ++ more.xs) one.adds.same ∙ more.same);
      distinct = more.fits.distinct;
      few = more.fits.few;
    } in
    subst (λ (f : P21File). ReadsFile most bytes f) (ok_is {E = Refused P21Cause} (file_of b.0.0 c.0.0) y c.2) spelled

sections_complete : {t : Text} {xs : Listed} {m : Text} {ys : Listed} {u : Text} (most : ℕ) → IsSection t xs m → Sections m ys u → Fits most (xs ++ ys) → sections most t ≡ Ok (xs ++ ys, u)
unfolding sections first_section
sections_complete {xs = xs} {ys = ys} most i others f =
    let h = heading_complete i.heading in
    let first = section_complete most [] i (front_fits most xs ys f) in
    let loop = all_run BadToken (section_turn most) (sections_run most xs others f) in
    rw (h.1, first) loop

whole_complete : (most : ℕ) (bytes : List ℕ) (y : P21File) → ReadsFile most bytes y → whole_file most (codes_of bytes) ≡ Ok y
unfolding whole_file
whole_complete most bytes y r =
    let fits = subst (λ (xs : Listed). Fits most xs) r.kept (file_is r) in
    let read : sections most r.sections ≡ Ok (y.instances, r.rest) = sections_complete most r.one r.more fits ∙ ap (λ (xs : Listed). Ok (xs, r.rest)) (sym r.kept) in
    rw (header_complete r.header, read) refl

pub file_reading_sound : (most : ℕ) (bytes : List ℕ) (y : P21File) → file_reading most bytes ≡ Ok y → ReadsFile most bytes y
unfolding file_reading
file_reading_sound most bytes y e = whole_sound most bytes y (with_line_ok (codes_of bytes) (whole_file most (codes_of bytes)) y e)

pub file_reading_complete : (most : ℕ) (bytes : List ℕ) (y : P21File) → ReadsFile most bytes y → file_reading most bytes ≡ Ok y
unfolding file_reading
file_reading_complete most bytes y r = ap (with_line (codes_of bytes)) (whole_complete most bytes y r)

pub one_file_reading : (most : ℕ) (bytes : List ℕ) (x y : P21File) → ReadsFile most bytes x → ReadsFile most bytes y → x ≡ y
one_file_reading most bytes x y p q = ok_is {E = Fault P21Cause} x y (sym (file_reading_complete most bytes x p) ∙ file_reading_complete most bytes y q)

pub file_found : (most : ℕ) (bytes : List ℕ) (r : Result P21File (Refusal (Fault P21Cause))) → Answers (λ x. x) r (file_reading most bytes) → IfOk r (λ x. ReadsFile most bytes x)
file_found most bytes (Ok x) given = file_reading_sound most bytes x given
file_found most bytes (Err e) given = tt

-- ---- turns that go on leave less

row_shorter : {most : ℕ} {s : Listed} {t : Text} {y : Had} → IsRow most s t y → length y.1 < length t
row_shorter i = instance_shorter i.spelled

pub rows_shorten : (most : ℕ) → Shortens (data_turn most)
rows_shorten most s t r u e = row_shorter (turn_went most s t ((true, r), u) e)

end_keeps : (most : ℕ) (s : Listed) (t : Text) (r : Listed) (u : Text) → data_turn most s t ≡ Ok ((false, r), u) → length u ≤ length t
end_keeps most s t r u e = let w = turn_went most s t ((false, r), u) e in line_shorter w.0

rows_keep : (most : ℕ) (s : Listed) (t : Text) (x : Had) → all_turns BadToken (data_turn most) s t ≡ Ok x → length x.1 ≤ length t
rows_keep most s t x e =
    each_sound BadToken (data_turn most) (λ s t r u. length u ≤ length t) (end_keeps most)
    (λ s t r u q w went others. let first = rows_shorten most s t r u went in omega (arith, first, others)) (turns t) s t x.0 x.1 e

section_keeps : (most : ℕ) (s : Listed) (t : Text) (x : Had) → data_section most s t ≡ Ok x → length x.1 ≤ length t
unfolding data_section
section_keeps most s t x e =
    let b = bound {r = data_open t} e in
    omega (arith, opens_shorter (data_open_sound t b.0 b.1), rows_keep most s b.0.1 x b.2)

pub sections_shorten : (most : ℕ) → Shortens (section_turn most)
sections_shorten most s t r u e =
    let f = section_went most s t ((true, r), u) e in
    omega (arith, word_shorter f.1.next, section_keeps most s f.0 (r, u) f.2)
