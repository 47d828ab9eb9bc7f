-- Strings in quotes: what is read is spelled so, and what is spelled so is read.
use Rattle.std.proofs.Common.{◌≡◌, ℕ, ◌+◌, ◌<◌, ◌≤◌, Bool, true, false, eqb, ltb, List, [], ◌∷◌, ◌++◌, length, Ok, refl, sym, ap, ◌∙◌, subst, inl, inr, ◌⊎◌, append_assoc, arith}
use Rattle.std.specs.Prelude.{◌==◌}
use Rattle.std.specs.Char.{is_ascii_hexdigit, is_ascii_alphabetic}
use Rattle.std.proofs.lemmas.Bool.{eqb-true, ltb-true, ltb-false, lt-ltb, le-ltb}
use Rattle.std.proofs.lemmas.List.{append-nil}
use Rattle.std.proofs.lemmas.Bool.Decides.{nat_tests}
use Rattle.reading.specs.Codes.{is_mark}
use Rattle.reading.specs.Reading.{Text, Refused, Shortens, ◌>>=◌, turns}
use Rattle.reading.specs.Runs.{begins}
use Rattle.reading.proofs.Tools.{chosen, kept, bound, ok_is, tested, each_sound, Run, all_run}
use Rattle.p21_read.specs.declared.fault.P21Cause.{P21Cause}
use Rattle.p21_read.specs.declared.fault.P21Cause.TheVariants.{BadDirective, BadToken}
use Rattle.p21_read.specs.Quoted.{next, exactly, byte, unit, long, is_scalar, is_high, is_low, joined, put, second_half, four, eight, group, groups_end, groups_turn, groups, coded, shifted, page, directive, quote, piece, text}
use Rattle.p21_read.specs.StringGrammar.{code2, code4, code8, AreHex, Coded, MoreCoded, Piece, Quoted}
use Rattle.p21_read.proofs.CodeLaws.{Had, IsNext, next_is, exactly_is, byte_is, unit_is, long_is, Out, put_is, hex_other, not_high, code2_scalar, joined_scalar, shift_character, byte_reads, unit_reads, long_reads, put_reads}

-- ---- groups

-- one coded character, added behind s
abbrev One : Bool → Text → List ℕ → Out → Type 0
One is_long t s x = (c : ℕ) × Coded is_long t c x.1 × (s ++ c ∷ [] ≡ x.0)

one : (is_long : Bool) (t : Text) (s : List ℕ) (c : ℕ) (u : Text) (x : Out) → Coded is_long t c u → (s ++ c ∷ [], u) ≡ x → One is_long t s x
one is_long t s c u x h same = subst (λ (y : Out). One is_long t s y) same (c, h, refl)

-- the same number, added
same_code : (s : List ℕ) (n m : ℕ) (u : Text) (x : Out) → n ≡ m → (s ++ m ∷ [], u) ≡ x → (s ++ n ∷ [], u) ≡ x
same_code s n m u x e same = ap (λ (c : ℕ). (s ++ c ∷ [], u)) e ∙ same

half_sound : (q : Text) (s : List ℕ) (a b c d : ℕ) (t : Text) (x : Out) → AreHex a b c d → is_high (code4 a b c d) ≡ true → second_half q s (code4 a b c d) t ≡ Ok x
    → One false (a ∷ b ∷ c ∷ d ∷ t) s x
unfolding second_half
half_sound q s a b c d t x are high e =
    let p = bound {r = unit q t} e in
    let k = kept (is_low p.0.0) (put q s (joined (code4 a b c d) p.0.0) p.0.1) BadDirective q x p.2 in
    let low = unit_is q t p.0 p.1 in
    let done = put_is q s (joined (code4 a b c d) p.0.0) p.0.1 x k.1 in
    let is_it : is_low (code4 low.a low.b low.c low.d) ≡ true = rw low.value k.0 in
    let spelled : Coded false (a ∷ b ∷ c ∷ d ∷ low.a ∷ low.b ∷ low.c ∷ low.d ∷ p.0.1) (joined (code4 a b c d) p.0.0) p.0.1 =
    subst (λ (n : ℕ). Coded false (a ∷ b ∷ c ∷ d ∷ low.a ∷ low.b ∷ low.c ∷ low.d ∷ p.0.1) (joined (code4 a b c d) n) p.0.1) low.value
    (Coded.pair a b c d low.a low.b low.c low.d p.0.1 are low.are high is_it) in
    one false (a ∷ b ∷ c ∷ d ∷ t) s (joined (code4 a b c d) p.0.0) p.0.1 x
    (subst (λ (r : Text). Coded false (a ∷ b ∷ c ∷ d ∷ r) (joined (code4 a b c d) p.0.0) p.0.1) (sym low.parts) spelled) done.1

four_sound : (q : Text) (s : List ℕ) (t : Text) (x : Out) → four q s t ≡ Ok x → One false t s x
unfolding four
four_sound q s t x e =
    let b = bound {r = unit q t} e in
    let u = unit_is q t b.0 b.1 in
    elim (chosen (is_high b.0.0) (second_half q s b.0.0 b.0.1) (put q s b.0.0 b.0.1) (Ok x) b.2) [
      | inl k ↦
          let high : is_high (code4 u.a u.b u.c u.d) ≡ true = rw u.value k.0 in
          let read : second_half q s (code4 u.a u.b u.c u.d) b.0.1 ≡ Ok x = rw u.value k.1 in
          subst (λ (r : Text). One false r s x) (sym u.parts) (half_sound q s u.a u.b u.c u.d b.0.1 x u.are high read)
      | inr k ↦
          let done = put_is q s b.0.0 b.0.1 x k.1 in
          let scalar : is_scalar (code4 u.a u.b u.c u.d) ≡ true = rw u.value done.0 in
          let spelled = Coded.four u.a u.b u.c u.d b.0.1 u.are scalar in
          let same = same_code s (code4 u.a u.b u.c u.d) b.0.0 b.0.1 x u.value done.1 in
          subst (λ (r : Text). One false r s x) (sym u.parts) (one false (u.a ∷ u.b ∷ u.c ∷ u.d ∷ b.0.1) s (code4 u.a u.b u.c u.d) b.0.1 x spelled same)
    ]

eight_sound : (q : Text) (s : List ℕ) (t : Text) (x : Out) → eight q s t ≡ Ok x → One true t s x
unfolding eight
eight_sound q s t x e =
    let b = bound {r = long q t} e in
    let u = long_is q t b.0 b.1 in
    let done = put_is q s b.0.0 b.0.1 x b.2 in
    let scalar : is_scalar (code8 u.a u.b u.c u.d u.e u.f u.g u.h) ≡ true = rw u.value done.0 in
    let spelled = Coded.eight u.a u.b u.c u.d u.e u.f u.g u.h b.0.1 u.are u.too scalar in
    let same = same_code s (code8 u.a u.b u.c u.d u.e u.f u.g u.h) b.0.0 b.0.1 x u.value done.1 in
    subst (λ (r : Text). One true r s x) (sym u.parts) (one true (u.a ∷ u.b ∷ u.c ∷ u.d ∷ u.e ∷ u.f ∷ u.g ∷ u.h ∷ b.0.1) s (code8 u.a u.b u.c u.d u.e u.f u.g u.h) b.0.1 x spelled same)

group_sound : (is_long : Bool) (q : Text) (s : List ℕ) (t : Text) (x : Out) → group is_long q s t ≡ Ok x → One is_long t s x
group_sound true q s t x e = eight_sound q s t x e
group_sound false q s t x e = four_sound q s t x e

abbrev Turn : Type 0
Turn = (Bool × List ℕ) × Text

groups_end_is : (q : Text) (s : List ℕ) (t : Text) (x : Turn) → groups_end q s t ≡ Ok x → (t ≡ 88 ∷ 48 ∷ 92 ∷ x.1) × ((false, s) ≡ x.0)
unfolding groups_end
groups_end_is q s t x e =
    let b1 = bound {r = exactly 88 q t} e in
    let b2 = bound {r = exactly 48 q b1.0.1} b1.2 in
    let b3 = bound {r = exactly 92 q b2.0.1} b2.2 in
    let same = ok_is {E = Refused P21Cause} ((false, s), b3.0.1) x b3.2 in (
      exactly_is 88 q t b1.0 b1.1 ∙ ap (λ (r : Text). 88 ∷ r) (exactly_is 48 q b1.0.1 b2.0 b2.1) ∙ ap (λ (r : Text). 88 ∷ 48 ∷ r) (exactly_is 92 q b2.0.1 b3.0 b3.1)
          ∙ ap (λ (y : Turn). 88 ∷ 48 ∷ 92 ∷ y.1) same,
      ap (λ (y : Turn). y.0) same,
    )

record Ends (t : Text) (s : List ℕ) (x : Turn) : Type 0 where
  parts : t ≡ 92 ∷ 88 ∷ 48 ∷ 92 ∷ x.1
  same : (false, s) ≡ x.0

record GoesOn (is_long : Bool) (t : Text) (s : List ℕ) (x : Turn) : Type 0 where
  one : One is_long t s (x.0.1, x.1)
  more : x.0.0 ≡ true

goes_on : (is_long : Bool) (t : Text) (s : List ℕ) (y : Out) (x : Turn) → One is_long t s y → ((true, y.0), y.1) ≡ x → GoesOn is_long t s x
goes_on is_long t s y x h same = subst (λ (z : Turn). GoesOn is_long t s z) same (record { one = h; more = refl })

groups_turn_is : (is_long : Bool) (q : Text) (s : List ℕ) (t : Text) (x : Turn) → groups_turn is_long q s t ≡ Ok x → Ends t s x ⊎ GoesOn is_long t s x
unfolding groups_turn
groups_turn_is is_long q s [] x e = absurd cc
groups_turn_is is_long q s (c ∷ t) x e =
    elim (tested (eqb c 92)) [
      | inl h ↦ let w = groups_end_is q s t x (rw h at e) in inl (record { parts = ap (λ (n : ℕ). n ∷ t) (eqb-true c 92 h) ∙ ap (λ (r : Text). 92 ∷ r) w.0; same = w.1 })
      | inr h ↦
          let b = bound {r = group is_long q s (c ∷ t)} (rw h at e) in
          inr (goes_on is_long (c ∷ t) s b.0 x (group_sound is_long q s (c ∷ t) b.0 b.1) (ok_is {E = Refused P21Cause} ((true, b.0.0), b.0.1) x b.2))
    ]

module _ (is_long : Bool) (q : Text) where
  abbrev Adds : List ℕ → Text → List ℕ → Text → Type 0
  Adds s t r u = (cs : List ℕ) × MoreCoded is_long t cs u × (s ++ cs ≡ r)

  groups_last : (s : List ℕ) (t : Text) (r : List ℕ) (u : Text) → groups_turn is_long q s t ≡ Ok ((false, r), u) → Adds s t r u
  groups_last s t r u e =
      elim (groups_turn_is is_long q s t ((false, r), u) e) [
        | inl h ↦ ([], subst (λ (w : Text). MoreCoded is_long w [] u) (sym h.parts) (MoreCoded.ends is_long u), append-nil s ∙ ap (λ (y : Bool × List ℕ). y.1) h.same)
        | inr h ↦ let wrong = h.more in absurd cc
      ]

  groups_more : (s : List ℕ) (t : Text) (r : List ℕ) (u : Text) (p : List ℕ) (w : Text) → groups_turn is_long q s t ≡ Ok ((true, r), u) → Adds r u p w → Adds s t p w
  groups_more s t r u p w e rest =
      elim (groups_turn_is is_long q s t ((true, r), u) e) [
        | inl h ↦ let wrong : false ≡ true = ap (λ (y : Bool × List ℕ). y.0) h.same in absurd cc
        | inr h ↦ (
          h.one.0 ∷ rest.0,
          MoreCoded.goes_on is_long h.one.0 rest.0 t u w h.one.1 rest.1,
          sym (append_assoc s (h.one.0 ∷ []) rest.0) ∙ ap (λ (y : List ℕ). y ++ rest.0) h.one.2 ∙ rest.2,
        )
      ]

  groups_sound : (s : List ℕ) (t : Text) (x : Out) → groups is_long q s t ≡ Ok x
      → (c : ℕ) × (cs : List ℕ) × (v : Text) × (r : Text) × (t ≡ 92 ∷ v) × Coded is_long v c r × MoreCoded is_long r cs x.1 × (s ++ c ∷ cs ≡ x.0)
  unfolding groups
  groups_sound s t x e =
      let b1 = bound {r = exactly 92 q t} e in
      let b2 = bound {r = group is_long q s b1.0.1} b1.2 in
      let first = group_sound is_long q s b1.0.1 b2.0 b2.1 in
      let more = each_sound BadToken (groups_turn is_long q) Adds groups_last groups_more (turns b2.0.1) b2.0.0 b2.0.1 x.0 x.1 b2.2 in (
        first.0,
        more.0,
        b1.0.1,
        b2.0.1,
        exactly_is 92 q t b1.0 b1.1,
        first.1,
        more.1,
        sym (append_assoc s (first.0 ∷ []) more.0) ∙ ap (λ (y : List ℕ). y ++ more.0) first.2 ∙ more.2,
      )

-- ---- pieces

abbrev Does : Text → List ℕ → Out → Type 0
Does t s x = (cs : List ℕ) × Piece t cs x.1 × (s ++ cs ≡ x.0)

does : (t : Text) (s cs : List ℕ) (u : Text) (x : Out) → Piece t cs u → (s ++ cs, u) ≡ x → Does t s x
does t s cs u x p same = subst (λ (y : Out). Does t s y) same (cs, p, refl)

nothing : (t : Text) (s : List ℕ) (u : Text) (x : Out) → Piece t [] u → (s, u) ≡ x → Does t s x
nothing t s u x p same = does t s [] u x p (ap (λ (r : List ℕ). (r, u)) (append-nil s) ∙ same)

-- the text begins with this code
begins_with : {t : Text} {x : Had} (n : ℕ) → IsNext t x → eqb x.0 n ≡ true → t ≡ n ∷ x.1
begins_with {x = x} n is e = is.parts ∙ ap (λ (m : ℕ). m ∷ x.1) (eqb-true x.0 n e)

latin_sound : (q : Text) (s : List ℕ) (t : Text) (x : Out) → (byte q t >>= λ b. put q s b.0 b.1) ≡ Ok x → Does (92 ∷ 88 ∷ 92 ∷ t) s x
latin_sound q s t x e =
    let p = bound {r = byte q t} e in
    let two = byte_is q t p.0 p.1 in
    let done = put_is q s p.0.0 p.0.1 x p.2 in
    let same = same_code s (code2 two.a two.b) p.0.0 p.0.1 x two.value done.1 in
    subst (λ (r : Text). Does (92 ∷ 88 ∷ 92 ∷ r) s x) (sym two.parts)
    (does (92 ∷ 88 ∷ 92 ∷ two.a ∷ two.b ∷ p.0.1) s (code2 two.a two.b ∷ []) p.0.1 x (Piece.latin two.a two.b p.0.1 two.first two.second) same)

fours_sound : (q : Text) (s : List ℕ) (t : Text) (x : Out) → groups false q s t ≡ Ok x → Does (92 ∷ 88 ∷ 50 ∷ t) s x
fours_sound q s t x e =
    let g = groups_sound false q s t x e in
    subst (λ (r : Text). Does (92 ∷ 88 ∷ 50 ∷ r) s x) (sym g.4) (g.0 ∷ g.1, Piece.fours g.0 g.1 g.2 g.3 x.1 g.5 g.6, g.7)

eights_sound : (q : Text) (s : List ℕ) (t : Text) (x : Out) → groups true q s t ≡ Ok x → Does (92 ∷ 88 ∷ 52 ∷ t) s x
eights_sound q s t x e =
    let g = groups_sound true q s t x e in
    subst (λ (r : Text). Does (92 ∷ 88 ∷ 52 ∷ r) s x) (sym g.4) (g.0 ∷ g.1, Piece.eights g.0 g.1 g.2 g.3 x.1 g.5 g.6, g.7)

coded_sound : (q : Text) (s : List ℕ) (t : Text) (x : Out) → coded q s t ≡ Ok x → Does (92 ∷ 88 ∷ t) s x
unfolding coded
coded_sound q s t x e =
    let b = bound {r = next q t} e in
    let is = next_is q t b.0 b.1 in
    elim (tested (eqb b.0.0 92)) [
      | inl h ↦ subst (λ (r : Text). Does (92 ∷ 88 ∷ r) s x) (sym (begins_with 92 is h)) (latin_sound q s b.0.1 x (rw h at b.2))
      | inr h ↦ let e1 = rw h at b.2 in elim (tested (eqb b.0.0 50)) [
        | inl k ↦ subst (λ (r : Text). Does (92 ∷ 88 ∷ r) s x) (sym (begins_with 50 is k)) (fours_sound q s b.0.1 x (rw k at e1))
        | inr k ↦ let e2 = rw k at e1 in elim (tested (eqb b.0.0 52)) [
          | inl l ↦ subst (λ (r : Text). Does (92 ∷ 88 ∷ r) s x) (sym (begins_with 52 is l)) (eights_sound q s b.0.1 x (rw l at e2))
          | inr l ↦ let wrong = rw l at e2 in absurd cc
        ]
      ]
    ]

shifted_sound : (q : Text) (s : List ℕ) (t : Text) (x : Out) → shifted q s t ≡ Ok x → Does (92 ∷ 83 ∷ t) s x
unfolding shifted
shifted_sound q s t x e =
    let b = bound {r = exactly 92 q t} e in
    let c = bound {r = next q b.0.1} b.2 in
    let done = put_is q s (c.0.0 + 128) c.0.1 x c.2 in
    let parts : t ≡ 92 ∷ c.0.0 ∷ c.0.1 = exactly_is 92 q t b.0 b.1 ∙ ap (λ (r : Text). 92 ∷ r) (next_is q b.0.1 c.0 c.1).parts in
    subst (λ (r : Text). Does (92 ∷ 83 ∷ r) s x) (sym parts) (does (92 ∷ 83 ∷ 92 ∷ c.0.0 ∷ c.0.1) s ((c.0.0 + 128) ∷ []) c.0.1 x (Piece.shifted c.0.0 c.0.1 done.0) done.1)

page_sound : (q : Text) (s : List ℕ) (t : Text) (x : Out) → page q s t ≡ Ok x → Does (92 ∷ 80 ∷ t) s x
unfolding page
page_sound q s t x e =
    let b = bound {r = next q t} e in
    elim (tested (eqb b.0.0 65)) [
      | inl h ↦
          let p = bound {r = exactly 92 q b.0.1} (rw h at b.2) in
          let parts : t ≡ 65 ∷ 92 ∷ p.0.1 = begins_with 65 (next_is q t b.0 b.1) h ∙ ap (λ (r : Text). 65 ∷ r) (exactly_is 92 q b.0.1 p.0 p.1) in
          subst (λ (r : Text). Does (92 ∷ 80 ∷ r) s x) (sym parts) (nothing (92 ∷ 80 ∷ 65 ∷ 92 ∷ p.0.1) s p.0.1 x (Piece.page_a p.0.1) (ok_is {E = Refused P21Cause} (s, p.0.1) x p.2))
      | inr h ↦ let e1 = rw h at b.2 in elim (tested (is_ascii_alphabetic b.0.0)) [ inl k ↦ let wrong = rw k at e1 in absurd cc | inr k ↦ let wrong = rw k at e1 in absurd cc ]
    ]

directive_sound : (q : Text) (s : List ℕ) (t : Text) (x : Out) → directive q s t ≡ Ok x → Does (92 ∷ t) s x
unfolding directive
directive_sound q s t x e =
    let b = bound {r = next q t} e in
    let is = next_is q t b.0 b.1 in
    elim (tested (eqb b.0.0 92)) [
      | inl h ↦
          let same = ok_is {E = Refused P21Cause} (s ++ 92 ∷ [], b.0.1) x (rw h at b.2) in
          subst (λ (r : Text). Does (92 ∷ r) s x) (sym (begins_with 92 is h)) (does (92 ∷ 92 ∷ b.0.1) s (92 ∷ []) b.0.1 x (Piece.backslash b.0.1) same)
      | inr h ↦ let e1 = rw h at b.2 in elim (tested (eqb b.0.0 88)) [
        | inl k ↦ subst (λ (r : Text). Does (92 ∷ r) s x) (sym (begins_with 88 is k)) (coded_sound q s b.0.1 x (rw k at e1))
        | inr k ↦ let e2 = rw k at e1 in elim (tested (eqb b.0.0 83)) [
          | inl l ↦ subst (λ (r : Text). Does (92 ∷ r) s x) (sym (begins_with 83 is l)) (shifted_sound q s b.0.1 x (rw l at e2))
          | inr l ↦ let e3 = rw l at e2 in elim (tested (eqb b.0.0 80)) [
            | inl m ↦ subst (λ (r : Text). Does (92 ∷ r) s x) (sym (begins_with 80 is m)) (page_sound q s b.0.1 x (rw m at e3))
            | inr m ↦ let wrong = rw m at e3 in absurd cc
          ]
        ]
      ]
    ]

-- the quote that ends the string
record Closes (t : Text) (s : List ℕ) (x : Turn) : Type 0 where
  parts : t ≡ 39 ∷ x.1
  alone : begins (λ c. c == 39) x.1 ≡ false
  same : (false, s) ≡ x.0

-- a turn that goes on
record Adds-piece (t : Text) (s : List ℕ) (x : Turn) : Type 0 where
  does : Does t s (x.0.1, x.1)
  more : x.0.0 ≡ true

adds : (t : Text) (s : List ℕ) (y : Out) (x : Turn) → Does t s y → ((true, y.0), y.1) ≡ x → Adds-piece t s x
adds t s y x h same = subst (λ (z : Turn). Adds-piece t s z) same (record { does = h; more = refl })

quote_sound : (s : List ℕ) (t : Text) (x : Turn) → quote s t ≡ Ok x → Adds-piece (39 ∷ t) s x ⊎ Closes (39 ∷ t) s x
unfolding quote
quote_sound s [] x e = inr (subst (λ (y : Turn). Closes (39 ∷ []) s y) (ok_is {E = Refused P21Cause} ((false, s), []) x e) (record { parts = refl; alone = refl; same = refl }))
quote_sound s (c ∷ t) x e =
    elim (tested (eqb c 39)) [
      | inl h ↦
          let same = ok_is {E = Refused P21Cause} ((true, s ++ 39 ∷ []), t) x (rw h at e) in
          let doubled = adds (39 ∷ 39 ∷ t) s (s ++ 39 ∷ [], t) x (39 ∷ [], Piece.quote t, refl) same in
          inl (subst (λ (n : ℕ). Adds-piece (39 ∷ n ∷ t) s x) (sym (eqb-true c 39 h)) doubled)
      | inr h ↦ inr (subst (λ (y : Turn). Closes (39 ∷ c ∷ t) s y) (ok_is {E = Refused P21Cause} ((false, s), c ∷ t) x (rw h at e)) (record { parts = refl; alone = h; same = refl }))
    ]

piece_sound : (q : Text) (s : List ℕ) (t : Text) (x : Turn) → piece q s t ≡ Ok x → Adds-piece t s x ⊎ Closes t s x
unfolding piece
piece_sound q s t x e =
    let b = bound {r = next q t} e in
    let is = next_is q t b.0 b.1 in
    elim (tested (eqb b.0.0 39)) [
      | inl h ↦ subst (λ (r : Text). Adds-piece r s x ⊎ Closes r s x) (sym (begins_with 39 is h)) (quote_sound s b.0.1 x (rw h at b.2))
      | inr h ↦ let e1 = rw h at b.2 in elim (tested (eqb b.0.0 92)) [
        | inl k ↦
            let p = bound {r = directive q s b.0.1} (rw k at e1) in
            let done = adds (92 ∷ b.0.1) s p.0 x (directive_sound q s b.0.1 p.0 p.1) (ok_is {E = Refused P21Cause} ((true, p.0.0), p.0.1) x p.2) in
            inl (subst (λ (r : Text). Adds-piece r s x) (sym (begins_with 92 is k)) done)
        | inr k ↦ let e2 = rw k at e1 in elim (tested (ltb b.0.0 32)) [
          | inl l ↦
              let same = ok_is {E = Refused P21Cause} ((true, s), b.0.1) x (rw l at e2) in
              let unseen = nothing (b.0.0 ∷ b.0.1) s b.0.1 (s, b.0.1) (Piece.unseen b.0.0 b.0.1 (ltb-true b.0.0 32 l)) refl in
              inl (subst (λ (r : Text). Adds-piece r s x) (sym is.parts) (adds (b.0.0 ∷ b.0.1) s (s, b.0.1) x unseen same))
          | inr l ↦
              let same = ok_is {E = Refused P21Cause} ((true, s ++ b.0.0 ∷ []), b.0.1) x (rw l at e2) in
              let plain : Does (b.0.0 ∷ b.0.1) s (s ++ b.0.0 ∷ [], b.0.1) = (b.0.0 ∷ [], Piece.plain b.0.0 b.0.1 is.character h k (ltb-false b.0.0 32 l), refl) in
              inl (subst (λ (r : Text). Adds-piece r s x) (sym is.parts) (adds (b.0.0 ∷ b.0.1) s (s ++ b.0.0 ∷ [], b.0.1) x plain same))
        ]
      ]
    ]

abbrev IsQuoted : List ℕ → Text → List ℕ → Text → Type 0
IsQuoted s t r u = (cs : List ℕ) × Quoted t cs u × (s ++ cs ≡ r)

text_last : (q : Text) (s : List ℕ) (t : Text) (r : List ℕ) (u : Text) → piece q s t ≡ Ok ((false, r), u) → IsQuoted s t r u
text_last q s t r u e =
    elim (piece_sound q s t ((false, r), u) e) [
      | inl h ↦ let wrong = h.more in absurd cc
      | inr h ↦ ([], subst (λ (w : Text). Quoted w [] u) (sym h.parts) (Quoted.ends u h.alone), append-nil s ∙ ap (λ (y : Bool × List ℕ). y.1) h.same)
    ]

text_more : (q : Text) (s : List ℕ) (t : Text) (r : List ℕ) (u : Text) (p : List ℕ) (w : Text) → piece q s t ≡ Ok ((true, r), u) → IsQuoted r u p w → IsQuoted s t p w
text_more q s t r u p w e rest =
    elim (piece_sound q s t ((true, r), u) e) [
      | inl h ↦ (
        h.does.0 ++ rest.0,
        Quoted.more t h.does.0 u rest.0 w h.does.1 rest.1,
        sym (append_assoc s h.does.0 rest.0) ∙ ap (λ (y : List ℕ). y ++ rest.0) h.does.2 ∙ rest.2,
      )
      | inr h ↦ let wrong : false ≡ true = ap (λ (y : Bool × List ℕ). y.0) h.same in absurd cc
    ]

pub text_sound : (q t : Text) (s : List ℕ) (u : Text) → text q t ≡ Ok (s, u) → Quoted t s u
unfolding text
text_sound q t s u e =
    let k = each_sound BadToken (piece q) IsQuoted (text_last q) (text_more q) (turns t) [] t s u e in
    subst (λ (r : List ℕ). Quoted t r u) k.2 k.1

-- ---- what is spelled so is read

group_complete : {is_long : Bool} {t : Text} {c : ℕ} {u : Text} (q : Text) (s : List ℕ) → Coded is_long t c u → group is_long q s t ≡ Ok (s ++ c ∷ [], u)
unfolding four eight second_half
group_complete q s (Coded.four a b c d t are is) = rw (unit_reads q a b c d t are, not_high (code4 a b c d) is) (put_reads q s (code4 a b c d) t is)
group_complete q s (Coded.pair a b c d e f g h t are too high low) =
    rw (unit_reads q a b c d (e ∷ f ∷ g ∷ h ∷ t) are, high, unit_reads q e f g h t too, low)
    (put_reads q s (joined (code4 a b c d) (code4 e f g h)) t (joined_scalar (code4 a b c d) (code4 e f g h) high low))
group_complete q s (Coded.eight a b c d e f g h t are too is) = rw (long_reads q a b c d e f g h t are too) (put_reads q s (code8 a b c d e f g h) t is)

coded_shorter : {is_long : Bool} {t : Text} {c : ℕ} {u : Text} → Coded is_long t c u → length u < length t
coded_shorter (Coded.four a b c d t are is) = omega arith
coded_shorter (Coded.pair a b c d e f g h t are too high low) = omega arith
coded_shorter (Coded.eight a b c d e f g h t are too is) = omega arith

more_shorter : {is_long : Bool} {t : Text} {cs : List ℕ} {u : Text} → MoreCoded is_long t cs u → length u < length t
more_shorter (MoreCoded.ends is_long t) = omega arith
more_shorter (MoreCoded.goes_on is_long c s t u w first others) = omega (arith, coded_shorter first, more_shorter others)

-- a coded character begins with a digit
first_digit : {is_long : Bool} {t : Text} {c : ℕ} {u : Text} → Coded is_long t c u → (a : ℕ) × (v : Text) × (t ≡ a ∷ v) × (is_ascii_hexdigit a ≡ true)
first_digit (Coded.four a b c d t are is) = (a, b ∷ c ∷ d ∷ t, refl, are.first)
first_digit (Coded.pair a b c d e f g h t are too high low) = (a, b ∷ c ∷ d ∷ e ∷ f ∷ g ∷ h ∷ t, refl, are.first)
first_digit (Coded.eight a b c d e f g h t are too is) = (a, b ∷ c ∷ d ∷ e ∷ f ∷ g ∷ h ∷ t, refl, are.first)

turn_from : (is_long : Bool) (q : Text) (s : List ℕ) (a : ℕ) (v : Text) (x : Out) → is_ascii_hexdigit a ≡ true → group is_long q s (a ∷ v) ≡ Ok x → groups_turn is_long q s (a ∷ v) ≡ Ok ((true, x.0), x.1)
unfolding groups_turn
turn_from is_long q s a v x is read = rw (hex_other a is, read) refl

turn_complete : {is_long : Bool} {t : Text} {c : ℕ} {u : Text} (q : Text) (s : List ℕ) → Coded is_long t c u → groups_turn is_long q s t ≡ Ok ((true, s ++ c ∷ []), u)
turn_complete {is_long = is_long} {t = t} {c = c} {u = u} q s h =
    let d = first_digit h in
    let read : group is_long q s (d.0 ∷ d.1) ≡ Ok (s ++ c ∷ [], u) = subst (λ (r : Text). group is_long q s r ≡ Ok (s ++ c ∷ [], u)) d.2 (group_complete q s h) in
    subst (λ (r : Text). groups_turn is_long q s r ≡ Ok ((true, s ++ c ∷ []), u)) (sym d.2) (turn_from is_long q s d.0 d.1 (s ++ c ∷ [], u) d.3 read)

more_runs : {is_long : Bool} {t : Text} {cs : List ℕ} {u : Text} (q : Text) (s : List ℕ) → MoreCoded is_long t cs u → Run (groups_turn is_long q) s t (s ++ cs) u
unfolding groups_turn groups_end exactly next
more_runs q s (MoreCoded.ends is_long t) = rw (append-nil s) (Run.last s (92 ∷ 88 ∷ 48 ∷ 92 ∷ t) s t refl)
more_runs q s (MoreCoded.goes_on is_long c cs t u w first others) =
    subst (λ (r : List ℕ). Run (groups_turn is_long q) s t r w) (append_assoc s (c ∷ []) cs)
    (Run.more s t (s ++ c ∷ []) u ((s ++ c ∷ []) ++ cs) w (turn_complete q s first) (coded_shorter first) (more_runs q (s ++ c ∷ []) others))

groups_complete : {is_long : Bool} {t : Text} {c : ℕ} {r : Text} {cs : List ℕ} {u : Text} (q : Text) (s : List ℕ) → Coded is_long t c r → MoreCoded is_long r cs u
    → groups is_long q s (92 ∷ t) ≡ Ok (s ++ c ∷ cs, u)
unfolding groups exactly next
groups_complete {is_long = is_long} {c = c} {cs = cs} {u = u} q s first others =
    let loop = all_run BadToken (groups_turn is_long q) (more_runs q (s ++ c ∷ []) others) in
    rw (group_complete q s first, loop, append_assoc s (c ∷ []) cs) refl

piece_shorter : {t : Text} {cs : List ℕ} {u : Text} → Piece t cs u → length u < length t
piece_shorter (Piece.plain c t is no_quote no_slash le) = omega arith
piece_shorter (Piece.unseen c t lt) = omega arith
piece_shorter (Piece.quote t) = omega arith
piece_shorter (Piece.backslash t) = omega arith
piece_shorter (Piece.page_a t) = omega arith
piece_shorter (Piece.latin a b t first second) = omega arith
piece_shorter (Piece.shifted c t is) = omega arith
piece_shorter (Piece.fours c s t r u first others) = omega (arith, coded_shorter first, more_shorter others)
piece_shorter (Piece.eights c s t r u first others) = omega (arith, coded_shorter first, more_shorter others)

unseen_is : (c n : ℕ) → c < 32 → 32 ≤ n → eqb c n ≡ false
unseen_is c n lt le = grind (arith, nat_tests)

unseen_character : (c : ℕ) → c < 32 → is_mark c ≡ false
unseen_character c lt = grind (arith, nat_tests)

piece_complete : {t : Text} {cs : List ℕ} {u : Text} (q : Text) (s : List ℕ) → Piece t cs u → piece q s t ≡ Ok ((true, s ++ cs), u)
unfolding piece next quote directive coded shifted page exactly
piece_complete q s (Piece.plain c t is no_quote no_slash le) = rw (is, no_quote, no_slash, le-ltb c 32 le) refl
piece_complete q s (Piece.unseen c t lt) = rw (unseen_character c lt, unseen_is c 39 lt (omega arith), unseen_is c 92 lt (omega arith), lt-ltb c 32 lt, append-nil s) refl
piece_complete q s (Piece.quote t) = refl
piece_complete q s (Piece.backslash t) = refl
piece_complete q s (Piece.page_a t) = rw (append-nil s) refl
piece_complete q s (Piece.latin a b t first second) = rw (byte_reads q a b t first second, put_reads q s (code2 a b) t (code2_scalar a b)) refl
piece_complete q s (Piece.shifted c t is) = rw (shift_character c is, put_reads q s (c + 128) t is) refl
piece_complete q s (Piece.fours c cs t r u first others) = rw (groups_complete q s first others) refl
piece_complete q s (Piece.eights c cs t r u first others) = rw (groups_complete q s first others) refl

last_quote : (s : List ℕ) (t : Text) → begins (λ c. c == 39) t ≡ false → quote s t ≡ Ok ((false, s), t)
unfolding quote
last_quote s [] e = refl
last_quote s (c ∷ t) e = rw e refl

text_runs : {t : Text} {cs : List ℕ} {u : Text} (q : Text) (s : List ℕ) → Quoted t cs u → Run (piece q) s t (s ++ cs) u
unfolding piece next
text_runs q s (Quoted.ends t alone) = rw (append-nil s) (Run.last s (39 ∷ t) s t (rw (last_quote s t alone) refl))
text_runs q s (Quoted.more t cs u rest w first others) =
    subst (λ (r : List ℕ). Run (piece q) s t r w) (append_assoc s cs rest)
    (Run.more s t (s ++ cs) u ((s ++ cs) ++ rest) w (piece_complete q s first) (piece_shorter first) (text_runs q (s ++ cs) others))

pub text_complete : {t : Text} {s : List ℕ} {u : Text} (q : Text) → Quoted t s u → text q t ≡ Ok (s, u)
unfolding text
text_complete q h = all_run BadToken (piece q) (text_runs q [] h)

pub quoted_shorter : {t : Text} {s : List ℕ} {u : Text} → Quoted t s u → length u < length t
quoted_shorter (Quoted.ends t alone) = omega arith
quoted_shorter (Quoted.more t cs u rest w first others) = omega (arith, piece_shorter first, quoted_shorter others)

-- ---- turns that go on leave less

pub groups_shorten : (is_long : Bool) (q : Text) → Shortens (groups_turn is_long q)
groups_shorten is_long q s t r u e =
    elim (groups_turn_is is_long q s t ((true, r), u) e) [
      | inl h ↦ let wrong : false ≡ true = ap (λ (y : Bool × List ℕ). y.0) h.same in absurd cc
      | inr h ↦ coded_shorter h.one.1
    ]

pub pieces_shorten : (q : Text) → Shortens (piece q)
pieces_shorten q s t r u e =
    elim (piece_sound q s t ((true, r), u) e) [
      | inl h ↦ piece_shorter h.does.1
      | inr h ↦ let wrong : false ≡ true = ap (λ (y : Bool × List ℕ). y.0) h.same in absurd cc
    ]
