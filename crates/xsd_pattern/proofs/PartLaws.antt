-- Parts and sides: what is read is spelled so.
use Rattle.std.proofs.Common.{◌≡◌, ℕ, zero, suc, Bool, true, false, eqb, List, [], ◌∷◌, ◌++◌, Option, Some, None, Ok, refl, sym, ap, ◌∙◌, subst, inl, inr, append_assoc}
use Rattle.std.proofs.lemmas.Bool.{eqb-true}
use Rattle.std.proofs.lemmas.List.{append-nil}
use Rattle.reading.specs.Reading.{Text, Refused, Read, ◌>>=◌, turns}
use Rattle.reading.proofs.Tools.{bound as steps, kept, ok_is, tested, each_sound}
use Rattle.pattern_tree.specs.declared.tree.Set.{Set}
use Rattle.pattern_tree.specs.declared.tree.Times.{Times}
use Rattle.pattern_tree.specs.declared.tree.Tree.{Tree}
use Rattle.pattern_tree.specs.declared.tree.Tree.TheVariants as tree_of
use Rattle.xsd_pattern.specs.declared.fault.PatternCause.{PatternCause}
use Rattle.xsd_pattern.specs.declared.fault.PatternCause.TheVariants.{Syntax}
use Rattle.xsd_pattern.specs.declared.sides.Sides.{Sides}
use Rattle.xsd_pattern.specs.Characters.{is_reserved}
use Rattle.xsd_pattern.specs.Sets.{literal, any_character, escape, class_}
use Rattle.xsd_pattern.specs.Repeats.{repeat_here}
use Rattle.xsd_pattern.specs.Parts.{no_sides, with_part, all_sides, with_bar, choice, set_tree, with_times, repeated, Reader, group_end, group, atom, sides_turn, sides_with, sides}
use Rattle.xsd_pattern.specs.Grammar.{IsSet, IsAtom, IsPiece, IsChoice}
use Rattle.xsd_pattern.proofs.RepeatLaws.{Here, repeat_sound}
use Rattle.xsd_pattern.proofs.ClassLaws.{class_sound, escape_sound}

abbrev pub One : Type 0
One = Tree × Text

as_atom : (d : ℕ) (t : Text) (x y : One) → IsAtom d t x.0 x.1 → x ≡ y → IsAtom d t y.0 y.1
as_atom d t x y is e = subst (λ (z : One). IsAtom d t z.0 z.1) e is

-- a set that was read is an atom
set_from : (d : ℕ) (t : Text) (r : Read PatternCause Set) (x : One) → ((y : Set × Text) → r ≡ Ok y → IsSet t y.0 y.1) → (r >>= set_tree) ≡ Ok x → IsAtom d t x.0 x.1
set_from d t r x found e =
    let b = steps {r = r} e in
    as_atom d t (tree_of.Set b.0.0, b.0.1) x (IsAtom.single d t b.0.0 b.0.1 (found b.0 b.1)) (ok_is {E = Refused PatternCause} (tree_of.Set b.0.0, b.0.1) x b.2)

-- What the reader reads is spelled so.
abbrev pub IsSound : ℕ → Reader → Type 0
IsSound d r = (t : Text) (s : Sides) (u : Text) → r t ≡ Ok (s, u) → (parts : List Tree) × (others : List Tree) × IsChoice d t parts others u × (all_sides s ≡ tree_of.Sequence parts ∷ others)

abbrev pub SoundInside : ℕ → Option Reader → Type 0
SoundInside d None = Unit {0}
SoundInside d (Some r) = (p : ℕ) × (d ≡ suc p) × IsSound p r

group_end_is : (s : Sides) (t : Text) (x : One) → group_end (s, t) ≡ Ok x → (t ≡ 41 ∷ x.1) × (x.0 ≡ choice s)
unfolding group_end
group_end_is s [] x e = absurd cc
group_end_is s (c ∷ t) x e =
    let k = kept (eqb c 41) (Ok (choice s, t)) Syntax (c ∷ t) x e in
    let same = ok_is {E = Refused PatternCause} (choice s, t) x k.1 in
    (ap (λ (n : ℕ). n ∷ t) (eqb-true c 41 k.0) ∙ ap (λ (y : One). 41 ∷ y.1) same, sym (ap (λ (y : One). y.0) same))

group_sound : (d : ℕ) (inner : Option Reader) (sound : SoundInside d inner) (at t : Text) (x : One) → group inner at t ≡ Ok x → IsAtom d (40 ∷ t) x.0 x.1
group_sound d None sound at t x e = absurd cc
group_sound d (Some r) sound at t x e =
    let b = steps {r = r t} e in
    let c = sound.2 t b.0.0 b.0.1 b.1 in
    let g = group_end_is b.0.0 b.0.1 x b.2 in
    let same : x.0 ≡ tree_of.Choice (tree_of.Sequence c.0 ∷ c.1) = g.1 ∙ ap (λ (xs : List Tree). tree_of.Choice xs) c.3 in
    let inside = subst (λ (w : Text). IsChoice sound.0 t c.0 c.1 w) g.0 c.2 in
    rw (sound.1, same) (IsAtom.group sound.0 t c.0 c.1 x.1 inside)

atom_sound : (d : ℕ) (inner : Option Reader) (sound : SoundInside d inner) (t : Text) (x : One) → atom inner t ≡ Ok x → IsAtom d t x.0 x.1
unfolding atom
atom_sound d inner sound [] x e = absurd cc
atom_sound d inner sound (c ∷ t) x e =
    elim (tested (eqb c 40)) [
      | inl h ↦ let f = rw h at e in rw (eqb-true c 40 h) (group_sound d inner sound (c ∷ t) t x f)
      | inr h ↦ let e1 = rw h at e in
          elim (tested (eqb c 91)) [
            | inl k ↦ let f = rw k at e1 in rw (eqb-true c 91 k) (set_from d (91 ∷ t) (class_ t) x (class_sound t) f)
            | inr k ↦ let e2 = rw k at e1 in
                elim (tested (eqb c 92)) [
                  | inl m ↦ let f = rw m at e2 in rw (eqb-true c 92 m) (set_from d (92 ∷ t) (escape t) x (escape_sound t) f)
                  | inr m ↦ let e3 = rw m at e2 in
                      elim (tested (eqb c 46)) [
                        | inl q ↦ let f = rw q at e3 in
                            rw (eqb-true c 46 q) (as_atom d (46 ∷ t) (tree_of.Set any_character, t) x (IsAtom.single d (46 ∷ t) any_character t (IsSet.any t)) (ok_is {E = Refused PatternCause} (tree_of.Set any_character, t) x f))
                        | inr q ↦ let e4 = rw q at e3 in
                            elim (tested (is_reserved c)) [
                              | inl w ↦ let f = rw w at e4 in absurd cc
                              | inr w ↦ let f = rw w at e4 in
                                  as_atom d (c ∷ t) (tree_of.Set (literal c), t) x (IsAtom.single d (c ∷ t) (literal c) t (IsSet.itself c t w)) (ok_is {E = Refused PatternCause} (tree_of.Set (literal c), t) x f)
                            ]
                      ]
                ]
          ]
    ]

piece_from : (d : ℕ) (t : Text) (x : Tree) (r : Text) (o : Option Times) (u : Text) → IsAtom d t x r → Here r o u → IsPiece d t (with_times x o) u
piece_from d t x r None u a here = subst (λ (w : Text). IsPiece d t x w) here (IsPiece.once d t x r a)
piece_from d t x r (Some n) u a here = IsPiece.repeated d t x r n u a here

repeated_sound : (d : ℕ) (t : Text) (x y : One) → IsAtom d t x.0 x.1 → repeated x ≡ Ok y → IsPiece d t y.0 y.1
unfolding repeated
repeated_sound d t x y a e =
    let b = steps {r = repeat_here x.1} e in
    subst (λ (z : One). IsPiece d t z.0 z.1) (ok_is {E = Refused PatternCause} (with_times x.0 b.0.0, b.0.1) y b.2)
    (piece_from d t x.0 x.1 b.0.0 b.0.1 a (repeat_sound x.1 b.0 b.1))

-- ---- turns

abbrev pub Turn : Type 0
Turn = (Bool × Sides) × Text

pub data Taken (d : ℕ) (s : Sides) (t : Text) : Bool → Sides → Text → Type 0 where
  ends : Taken d s t false s t
  bar : (u : Text) → t ≡ 124 ∷ u → Taken d s t true (with_bar s) u
  piece : (x : Tree) (u : Text) → IsPiece d t x u → Taken d s t true (with_part s x) u

as_taken : (d : ℕ) (s : Sides) (t : Text) (x y : Turn) → Taken d s t x.0.0 x.0.1 x.1 → x ≡ y → Taken d s t y.0.0 y.0.1 y.1
as_taken d s t x y is e = subst (λ (z : Turn). Taken d s t z.0.0 z.0.1 z.1) e is

pub turn_is : (d : ℕ) (inner : Option Reader) (sound : SoundInside d inner) (s : Sides) (t : Text) (y : Turn) → sides_turn inner s t ≡ Ok y → Taken d s t y.0.0 y.0.1 y.1
unfolding sides_turn
turn_is d inner sound s [] y e = as_taken d s [] ((false, s), []) y Taken.ends (ok_is {E = Refused PatternCause} ((false, s), []) y e)
turn_is d inner sound s (c ∷ t) y e =
    elim (tested (eqb c 41)) [
      | inl h ↦ let f = rw h at e in as_taken d s (c ∷ t) ((false, s), c ∷ t) y Taken.ends (ok_is {E = Refused PatternCause} ((false, s), c ∷ t) y f)
      | inr h ↦ let e1 = rw h at e in
          elim (tested (eqb c 124)) [
            | inl k ↦ let f = rw k at e1 in
                as_taken d s (c ∷ t) ((true, with_bar s), t) y (Taken.bar t (ap (λ (n : ℕ). n ∷ t) (eqb-true c 124 k))) (ok_is {E = Refused PatternCause} ((true, with_bar s), t) y f)
            | inr k ↦ let f = rw k at e1 in
                let b = steps {r = atom inner (c ∷ t) >>= repeated} f in
                let a = steps {r = atom inner (c ∷ t)} b.1 in
                let p = repeated_sound d (c ∷ t) a.0 b.0 (atom_sound d inner sound (c ∷ t) a.0 a.1) a.2 in
                as_taken d s (c ∷ t) ((true, with_part s b.0.0), b.0.1) y (Taken.piece b.0.0 b.0.1 p) (ok_is {E = Refused PatternCause} ((true, with_part s b.0.0), b.0.1) y b.2)
          ]
    ]

-- ---- sides

-- what the loop adds to the sides
abbrev pub AddsSides : ℕ → Sides → Text → Sides → Text → Type 0
AddsSides d s t r u = (parts : List Tree) × (others : List Tree) × IsChoice d t parts others u × (all_sides r ≡ s.whole ++ tree_of.Sequence (s.parts ++ parts) ∷ others)

-- no parts more
pub none_more : (s : Sides) (others : List Tree) → s.whole ++ tree_of.Sequence s.parts ∷ others ≡ s.whole ++ tree_of.Sequence (s.parts ++ []) ∷ others
none_more s others = ap (λ (ps : List Tree). s.whole ++ tree_of.Sequence ps ∷ others) (sym (append-nil s.parts))

pub bar_more : (s : Sides) (parts others : List Tree) → (with_bar s).whole ++ tree_of.Sequence parts ∷ others ≡ s.whole ++ tree_of.Sequence (s.parts ++ []) ∷ tree_of.Sequence parts ∷ others
bar_more s parts others = append_assoc s.whole (tree_of.Sequence s.parts ∷ []) (tree_of.Sequence parts ∷ others) ∙ none_more s (tree_of.Sequence parts ∷ others)

pub piece_more : (s : Sides) (x : Tree) (parts others : List Tree) → s.whole ++ tree_of.Sequence ((s.parts ++ x ∷ []) ++ parts) ∷ others ≡ s.whole ++ tree_of.Sequence (s.parts ++ x ∷ parts) ∷ others
piece_more s x parts others = ap (λ (ps : List Tree). s.whole ++ tree_of.Sequence ps ∷ others) (append_assoc s.parts (x ∷ []) parts)

last_adds : (d : ℕ) (s : Sides) (t : Text) (more : Bool) (r : Sides) (u : Text) → more ≡ false → Taken d s t more r u → AddsSides d s t r u
last_adds d s t _ _ _ last Taken.ends = ([], [], IsChoice.end d t, none_more s [])
last_adds d s t _ _ _ last (Taken.bar v is) = absurd cc
last_adds d s t _ _ _ last (Taken.piece x v is) = absurd cc

more_adds : (d : ℕ) (s : Sides) (t : Text) (more : Bool) (r : Sides) (u : Text) (q : Sides) (w : Text) → more ≡ true → Taken d s t more r u → AddsSides d r u q w → AddsSides d s t q w
more_adds d s t _ _ _ q w goes_on Taken.ends rest = absurd cc
more_adds d s t _ _ _ q w goes_on (Taken.bar v is) rest =
    ([], tree_of.Sequence rest.0 ∷ rest.1, rw is (IsChoice.bar d v rest.0 rest.1 w rest.2), rest.3 ∙ bar_more s rest.0 rest.1)
more_adds d s t _ _ _ q w goes_on (Taken.piece x v is) rest =
    (x ∷ rest.0, rest.1, IsChoice.piece d t x v rest.0 rest.1 w is rest.2, rest.3 ∙ piece_more s x rest.0 rest.1)

module _ (d : ℕ) (inner : Option Reader) (sound : SoundInside d inner) where
  turn_last : (s : Sides) (t : Text) (r : Sides) (u : Text) → sides_turn inner s t ≡ Ok ((false, r), u) → AddsSides d s t r u
  turn_last s t r u e = last_adds d s t false r u refl (turn_is d inner sound s t ((false, r), u) e)

  turn_more : (s : Sides) (t : Text) (r : Sides) (u : Text) (q : Sides) (w : Text) → sides_turn inner s t ≡ Ok ((true, r), u) → AddsSides d r u q w → AddsSides d s t q w
  turn_more s t r u q w e rest = more_adds d s t true r u q w refl (turn_is d inner sound s t ((true, r), u) e) rest

  with_sound : IsSound d (sides_with inner)
  with_sound t s u e = each_sound Syntax (sides_turn inner) (AddsSides d) turn_last turn_more (turns t) no_sides t s u e

pub sides_sound : (d : ℕ) → IsSound d (sides d)
unfolding sides
sides_sound zero t s u e = with_sound zero None tt t s u e
sides_sound (suc d) t s u e = with_sound (suc d) (Some (sides d)) (d, refl, sides_sound d) t s u e
