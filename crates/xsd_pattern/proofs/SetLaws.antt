-- Classes between brackets: what is read is spelled so, and what is spelled so is read.
use Rattle.std.proofs.Common.{◌≡◌, ℕ, ◌<◌, ◌≤◌, Bool, true, false, cond, eqb, [], ◌∷◌, ◌++◌, length, Option, Some, None, Ok, refl, ap, subst, inl, inr, arith}
use Rattle.std.specs.Prelude.{nat_le, ◌&&◌}
use Rattle.std.proofs.lemmas.Bool.{eqb-true, and_parts}
use Rattle.std.proofs.lemmas.Bool.Decides.{nat_tests}
use Rattle.reading.specs.Reading.{Text, Refused, Read, ◌>>=◌, refuse}
use Rattle.reading.proofs.Tools.{bound as steps, kept, chosen, ok_is, tested}
use Rattle.pattern_tree.specs.declared.tree.Class.{Class}
use Rattle.pattern_tree.specs.declared.tree.Part.{Part}
use Rattle.pattern_tree.specs.declared.tree.Part.TheVariants as part_of
use Rattle.xsd_pattern.specs.declared.fault.PatternCause.{PatternCause}
use Rattle.xsd_pattern.specs.declared.fault.PatternCause.TheVariants.{Syntax}
use Rattle.xsd_pattern.specs.Characters.{is_reserved, is_escapable, escaped, class_of, is_plain, greatest_escaped}
use Rattle.xsd_pattern.specs.Sets.{Parts, range, one, end_escaped, end_escape, range_end, last_dash, ranged, behind_dash, behind_member, member_else, member_by, member_escape, is_empty, dash, class_turn}
use Rattle.xsd_pattern.specs.Grammar.{Member, IsPart}

-- ---- what is known of escapes

-- no escape stands for a character past }
escaped_low : (e c : ℕ) → escaped e ≡ Some c → c ≤ 125
unfolding escaped is_escapable is_reserved
escaped_low e c is = grind (arith, nat_tests)

-- a letter that a backslash makes a character makes no class
pub escaped_no_class : (e c : ℕ) → escaped e ≡ Some c → class_of e ≡ None
unfolding escaped is_escapable is_reserved class_of
escaped_no_class e c is = grind (arith, nat_tests)

-- ---- the end of a range

end_escaped_is : (a : ℕ) (o : Option ℕ) (e : ℕ) (t : Text) (b : ℕ) (u : Text) → end_escaped a o e t ≡ Ok (b, u) → (o ≡ Some b) × (a ≤ b) × (t ≡ u)
end_escaped_is a (Some c) e t b u h =
    let k = kept (nat_le a c) (Ok (c, t)) Syntax (e ∷ t) (b, u) h in
    let s = ok_is {E = Refused PatternCause} (c, t) (b, u) k.1 in
    let same : c ≡ b = ap (λ (y : ℕ × Text). y.0) s in
    let le : a ≤ c = let is = k.0 in grind (arith, nat_tests) in
    (ap (λ (y : ℕ). Some y) same, omega arith, ap (λ (y : ℕ × Text). y.1) s)
end_escaped_is a None e t b u h = absurd cc

end_escape_is : (a : ℕ) (t : Text) (b : ℕ) (u : Text) → end_escape a t ≡ Ok (b, u) → (e : ℕ) × (t ≡ e ∷ u) × (escaped e ≡ Some b) × (a ≤ b)
unfolding end_escape
end_escape_is a [] b u h = absurd cc
end_escape_is a (e ∷ t) b u h =
    let k = end_escaped_is a (escaped e) e t b u h in
    (e, ap (λ (v : Text). e ∷ v) k.2, k.0, k.1)

range_end_sound : (a : ℕ) (t : Text) (b : ℕ) (u : Text) → range_end a t ≡ Ok (b, u) → Member t b u × (a ≤ b)
unfolding range_end
range_end_sound a [] b u h = absurd cc
range_end_sound a (c ∷ t) b u h =
    elim (chosen (eqb c 92) (cond (nat_le a greatest_escaped) (end_escape a t) (refuse Syntax (c ∷ t))) (cond (is_plain c && nat_le a c) (Ok (c, t)) (refuse Syntax (c ∷ t))) (Ok (b, u)) h) [
      | inl k ↦
          let m = kept (nat_le a greatest_escaped) (end_escape a t) Syntax (c ∷ t) (b, u) k.1 in
          let e = end_escape_is a t b u m.1 in
          (rw (eqb-true c 92 k.0, e.1) (Member.escape e.0 b u e.2), e.3)
      | inr k ↦
          let m = kept (is_plain c && nat_le a c) (Ok (c, t)) Syntax (c ∷ t) (b, u) k.1 in
          let p = and_parts (is_plain c) (nat_le a c) m.0 in
          let s = ok_is {E = Refused PatternCause} (c, t) (b, u) m.1 in
          let le : a ≤ c = let is = p.1 in grind (arith, nat_tests) in
          let same : c ≡ b = ap (λ (y : ℕ × Text). y.0) s in
          (subst (λ (y : ℕ × Text). Member (c ∷ t) y.0 y.1) s (Member.plain c t p.0), omega arith)
    ]

pub plain_other : (c : ℕ) → is_plain c ≡ true → (eqb c 92 ≡ false) × (eqb c 91 ≡ false) × (eqb c 93 ≡ false) × (eqb c 45 ≡ false)
plain_other c is = (grind (arith, nat_tests), grind (arith, nat_tests), grind (arith, nat_tests), grind (arith, nat_tests))

pub range_end_complete : {t : Text} {b : ℕ} {u : Text} (a : ℕ) → Member t b u → a ≤ b → range_end a t ≡ Ok (b, u)
unfolding range_end end_escape
range_end_complete a (Member.plain c t is) le =
    let few : nat_le a c ≡ true = grind (arith, nat_tests) in
    rw (is, few, (plain_other c is).0) refl
range_end_complete a (Member.escape e c t is) le =
    let low = escaped_low e c is in
    let fits : nat_le a greatest_escaped ≡ true = grind (arith, nat_tests) in
    let few : nat_le a c ≡ true = grind (arith, nat_tests) in
    rw (fits, is, few) refl

pub member_shorter : {t : Text} {c : ℕ} {u : Text} → Member t c u → length u < length t
member_shorter (Member.plain c t is) = omega arith
member_shorter (Member.escape e c t is) = omega arith

-- ---- one turn

abbrev pub Turn : Type 0
Turn = (Bool × Parts) × Text

abbrev done : Turn → Read PatternCause (Bool × Parts)
done x = Ok x

-- what a turn reads where the parts s are read
pub data Turned (s : Parts) (t : Text) : Bool → Parts → Text → Type 0 where
  ends : (u : Text) → is_empty s ≡ false → t ≡ 93 ∷ u → Turned s t false s u
  last : (u : Text) → is_empty s ≡ false → t ≡ 45 ∷ 93 ∷ u → Turned s t false (s ++ one 45 ∷ []) u
  both : (a : ℕ) (u : Text) → Member t a (45 ∷ 93 ∷ u) → Turned s t false ((s ++ one a ∷ []) ++ one 45 ∷ []) u
  first : (u : Text) → is_empty s ≡ true → t ≡ 45 ∷ u → Turned s t true (s ++ one 45 ∷ []) u
  part : (p : Part) (u : Text) → IsPart t p u → Turned s t true (s ++ p ∷ []) u

as_given : (s : Parts) (t : Text) (x y : Turn) → Turned s t x.0.0 x.0.1 x.1 → done x ≡ Ok y → Turned s t y.0.0 y.0.1 y.1
as_given s t x y is e = subst (λ (z : Turn). Turned s t z.0.0 z.0.1 z.1) (ok_is {E = Refused PatternCause} x y e) is

dash_is : (s : Parts) (a : ℕ) (t0 t : Text) (y : Turn) → Member t0 a (45 ∷ t) → behind_dash s a t ≡ Ok y → Turned s t0 y.0.0 y.0.1 y.1
unfolding behind_dash
dash_is s a t0 [] y m e = absurd cc
dash_is s a t0 (c ∷ t) y m e =
    elim (chosen (eqb c 93) (Ok ((false, (s ++ one a ∷ []) ++ one 45 ∷ []), t)) (range_end a (c ∷ t) >>= ranged s a) (Ok y) e) [
      | inl h ↦
          let here = subst (λ (n : ℕ). Member t0 a (45 ∷ n ∷ t)) (eqb-true c 93 h.0) m in
          as_given s t0 ((false, (s ++ one a ∷ []) ++ one 45 ∷ []), t) y (Turned.both a t here) h.1
      | inr h ↦
          let b = steps {r = range_end a (c ∷ t)} h.1 in
          let r = range_end_sound a (c ∷ t) b.0.0 b.0.1 b.1 in
          as_given s t0 ((true, s ++ range a b.0.0 ∷ []), b.0.1) y (Turned.part (range a b.0.0) b.0.1 (IsPart.from_to t0 a (c ∷ t) b.0.0 b.0.1 m r.0 r.1)) b.2
    ]

member_is : (s : Parts) (a : ℕ) (t0 t : Text) (y : Turn) → Member t0 a t → behind_member s a t ≡ Ok y → Turned s t0 y.0.0 y.0.1 y.1
unfolding behind_member
member_is s a t0 [] y m e = as_given s t0 ((true, s ++ one a ∷ []), []) y (Turned.part (one a) [] (IsPart.character t0 a [] m)) e
member_is s a t0 (c ∷ t) y m e =
    elim (chosen (eqb c 45) (behind_dash s a t) (Ok ((true, s ++ one a ∷ []), c ∷ t)) (Ok y) e) [
      | inl h ↦ dash_is s a t0 t y (subst (λ (n : ℕ). Member t0 a (n ∷ t)) (eqb-true c 45 h.0) m) h.1
      | inr h ↦ as_given s t0 ((true, s ++ one a ∷ []), c ∷ t) y (Turned.part (one a) (c ∷ t) (IsPart.character t0 a (c ∷ t) m)) h.1
    ]

else_is : (s : Parts) (o : Option ℕ) (e : ℕ) (t : Text) (y : Turn) → escaped e ≡ o → member_else s o e t ≡ Ok y → Turned s (92 ∷ e ∷ t) y.0.0 y.0.1 y.1
else_is s (Some a) e t y is h = member_is s a (92 ∷ e ∷ t) t y (Member.escape e a t is) h
else_is s None e t y is h = absurd cc

by_is : (s : Parts) (o : Option Class) (e : ℕ) (t : Text) (y : Turn) → class_of e ≡ o → member_by s o e t ≡ Ok y → Turned s (92 ∷ e ∷ t) y.0.0 y.0.1 y.1
by_is s (Some k) e t y is h = as_given s (92 ∷ e ∷ t) ((true, s ++ part_of.Class k ∷ []), t) y (Turned.part (part_of.Class k) t (IsPart.class e k t is)) h
by_is s None e t y is h = else_is s (escaped e) e t y refl h

escape_is : (s : Parts) (t : Text) (y : Turn) → member_escape s t ≡ Ok y → Turned s (92 ∷ t) y.0.0 y.0.1 y.1
unfolding member_escape
escape_is s [] y h = absurd cc
escape_is s (e ∷ t) y h = by_is s (class_of e) e t y refl h

last_is : (s : Parts) (t : Text) (y : Turn) → last_dash s t ≡ Ok y → (u : Text) × (t ≡ 93 ∷ u) × (((false, s), u) ≡ y)
unfolding last_dash
last_is s [] y h = absurd cc
last_is s (c ∷ t) y h =
    let k = kept (eqb c 93) (Ok ((false, s), t)) Syntax (c ∷ t) y h in
    (t, ap (λ (n : ℕ). n ∷ t) (eqb-true c 93 k.0), ok_is {E = Refused PatternCause} ((false, s), t) y k.1)

alone_is : (s : Parts) (t : Text) (y : Turn) → dash s t ≡ Ok y → Turned s (45 ∷ t) y.0.0 y.0.1 y.1
unfolding dash
alone_is s t y h =
    elim (chosen (is_empty s) (Ok ((true, s ++ one 45 ∷ []), t)) (last_dash (s ++ one 45 ∷ []) t) (Ok y) h) [
      | inl k ↦ as_given s (45 ∷ t) ((true, s ++ one 45 ∷ []), t) y (Turned.first t k.0 refl) k.1
      | inr k ↦
          let m = last_is (s ++ one 45 ∷ []) t y k.1 in
          subst (λ (z : Turn). Turned s (45 ∷ t) z.0.0 z.0.1 z.1) m.2 (Turned.last m.0 k.0 (ap (λ (v : Text). 45 ∷ v) m.1))
    ]

closing_is : (s : Parts) (t : Text) (y : Turn) → cond (is_empty s) (refuse Syntax (93 ∷ t)) (Ok ((false, s), t)) ≡ Ok y → Turned s (93 ∷ t) y.0.0 y.0.1 y.1
closing_is s t y h =
    elim (chosen (is_empty s) (refuse Syntax (93 ∷ t)) (Ok ((false, s), t)) (Ok y) h) [
      | inl k ↦ let f = k.1 in absurd cc
      | inr k ↦ as_given s (93 ∷ t) ((false, s), t) y (Turned.ends t k.0 refl) k.1
    ]

other_plain : (c : ℕ) → eqb c 92 ≡ false → eqb c 91 ≡ false → eqb c 93 ≡ false → eqb c 45 ≡ false → is_plain c ≡ true
other_plain c a b d e = rw (a, b, d, e) refl

pub turn_is : (s : Parts) (t : Text) (y : Turn) → class_turn s t ≡ Ok y → Turned s t y.0.0 y.0.1 y.1
unfolding class_turn
turn_is s [] y e = absurd cc
turn_is s (c ∷ t) y e =
    elim (tested (eqb c 93)) [
      | inl h ↦ let f = rw h at e in let g = rw (eqb-true c 93 h) at f in rw (eqb-true c 93 h) (closing_is s t y g)
      | inr n93 ↦ let e1 = rw n93 at e in
          elim (tested (eqb c 45)) [
            | inl h ↦ let f = rw h at e1 in rw (eqb-true c 45 h) (alone_is s t y f)
            | inr n45 ↦ let e2 = rw n45 at e1 in
                elim (tested (eqb c 92)) [
                  | inl k ↦ let f = rw k at e2 in rw (eqb-true c 92 k) (escape_is s t y f)
                  | inr n92 ↦ let e3 = rw n92 at e2 in
                      elim (tested (eqb c 91)) [
                        | inl q ↦ let f = rw q at e3 in absurd cc
                        | inr n91 ↦ let f = rw n91 at e3 in member_is s c (c ∷ t) t y (Member.plain c t (other_plain c n92 n91 n93 n45)) f
                      ]
                ]
          ]
    ]
