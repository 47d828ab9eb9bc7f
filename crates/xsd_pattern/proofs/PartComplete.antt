-- Parts and sides: what is spelled so is read.
use Rattle.std.proofs.Common.{◌≡◌, ℕ, suc, ◌<◌, ◌≤◌, Bool, true, false, eqb, List, [], ◌∷◌, ◌++◌, length, Option, Ok, refl, sym, ap, ◌∙◌, subst, arith}
use Rattle.std.proofs.lemmas.Bool.{eqb-true}
use Rattle.std.proofs.lemmas.Bool.Decides.{nat_tests}
use Rattle.reading.specs.Reading.{Text, ◌>>=◌}
use Rattle.reading.specs.Runs.{begins}
use Rattle.reading.proofs.Tools.{Run, all_run}
use Rattle.pattern_tree.specs.declared.tree.Set.{Set}
use Rattle.pattern_tree.specs.declared.tree.Tree.{Tree}
use Rattle.pattern_tree.specs.declared.tree.Tree.TheVariants as tree_of
use Rattle.xsd_pattern.specs.declared.fault.PatternCause.TheVariants.{Syntax}
use Rattle.xsd_pattern.specs.declared.sides.Sides.{Sides}
use Rattle.xsd_pattern.specs.Characters.{is_reserved}
use Rattle.xsd_pattern.specs.Parts.{no_sides, with_part, all_sides, with_bar, repeated, Reader, group_end, atom, sides_turn, sides, below}
use Rattle.xsd_pattern.specs.Grammar.{IsSet, IsAtom, IsPiece, IsChoice}
use Rattle.xsd_pattern.proofs.Depth.{sides_is}
use Rattle.xsd_pattern.proofs.RepeatLaws.{is_repeat, no_repeat_here, repeat_complete, times_shorter}
use Rattle.xsd_pattern.proofs.ClassLaws.{among_complete, beside_complete, escape_complete, class_escape_complete, all_parts_shorter}
use Rattle.xsd_pattern.proofs.PartLaws.{none_more, bar_more, piece_more}

-- ---- how parts begin

-- the text begins with a character that ends no side and repeats nothing
abbrev Begins : Text → Type 0
Begins t = (c : ℕ) × (v : Text) × (t ≡ c ∷ v) × (eqb c 41 ≡ false) × (eqb c 124 ≡ false) × (is_repeat c ≡ false)

reserved_other : (c : ℕ) → is_reserved c ≡ false → (eqb c 41 ≡ false) × (eqb c 124 ≡ false) × (is_repeat c ≡ false)
unfolding is_reserved
reserved_other c isnt = (grind (arith, nat_tests), grind (arith, nat_tests), grind (arith, nat_tests))

reserved_none : (c : ℕ) → is_reserved c ≡ false → (eqb c 40 ≡ false) × (eqb c 91 ≡ false) × (eqb c 92 ≡ false) × (eqb c 46 ≡ false)
unfolding is_reserved
reserved_none c isnt = (grind (arith, nat_tests), grind (arith, nat_tests), grind (arith, nat_tests), grind (arith, nat_tests))

set_begins : {t : Text} {s : Set} {u : Text} → IsSet t s u → Begins t
set_begins (IsSet.itself c t isnt) = let o = reserved_other c isnt in (c, t, refl, o.0, o.1, o.2)
set_begins (IsSet.any t) = (46, t, refl, refl, refl, refl)
set_begins (IsSet.escape e c t is) = (92, e ∷ t, refl, refl, refl, refl)
set_begins (IsSet.class e k t is) = (92, e ∷ t, refl, refl, refl, refl)
set_begins (IsSet.among t ps u isnt parts) = (91, t, refl, refl, refl, refl)
set_begins (IsSet.beside t ps u parts) = (91, 94 ∷ t, refl, refl, refl, refl)

atom_begins : {d : ℕ} {t : Text} {x : Tree} {u : Text} → IsAtom d t x u → Begins t
atom_begins (IsAtom.single d t s u is) = set_begins is
atom_begins (IsAtom.group d t parts others u inside) = (40, t, refl, refl, refl, refl)

piece_begins : {d : ℕ} {t : Text} {x : Tree} {u : Text} → IsPiece d t x u → Begins t
piece_begins (IsPiece.once d t x u a) = atom_begins a
piece_begins (IsPiece.repeated d t x r n u a times) = atom_begins a

abbrev pub is_end : Text → Bool
is_end [] = true
is_end (c ∷ t) = eqb c 41

end_no_repeat : (t : Text) → is_end t ≡ true → begins is_repeat t ≡ false
end_no_repeat [] e = refl
end_no_repeat (c ∷ t) e = rw (eqb-true c 41 e) refl

choice_no_repeat : {d : ℕ} {t : Text} {parts others : List Tree} {u : Text} → is_end u ≡ true → IsChoice d t parts others u → begins is_repeat t ≡ false
choice_no_repeat e (IsChoice.end d t) = end_no_repeat t e
choice_no_repeat e (IsChoice.bar d t parts others u inside) = refl
choice_no_repeat e (IsChoice.piece d t x r parts others u p inside) = let b = piece_begins p in rw b.2 b.5

-- ---- what is left is less

set_shorter : {t : Text} {s : Set} {u : Text} → IsSet t s u → length u < length t
set_shorter (IsSet.itself c t isnt) = omega arith
set_shorter (IsSet.any t) = omega arith
set_shorter (IsSet.escape e c t is) = omega arith
set_shorter (IsSet.class e k t is) = omega arith
set_shorter (IsSet.among t ps u isnt parts) = omega (arith, all_parts_shorter parts)
set_shorter (IsSet.beside t ps u parts) = omega (arith, all_parts_shorter parts)

mutual
  atom_shorter : {d : ℕ} {t : Text} {x : Tree} {u : Text} → IsAtom d t x u → length u < length t
  atom_shorter (IsAtom.single d t s u is) = set_shorter is
  atom_shorter (IsAtom.group d t parts others u inside) = omega (arith, choice_shorter inside)

  pub piece_shorter : {d : ℕ} {t : Text} {x : Tree} {u : Text} → IsPiece d t x u → length u < length t
  piece_shorter (IsPiece.once d t x u a) = atom_shorter a
  piece_shorter (IsPiece.repeated d t x r n u a times) = omega (arith, atom_shorter a, times_shorter times)

  choice_shorter : {d : ℕ} {t : Text} {parts others : List Tree} {u : Text} → IsChoice d t parts others u → length u ≤ length t
  choice_shorter (IsChoice.end d t) = omega arith
  choice_shorter (IsChoice.bar d t parts others u inside) = omega (arith, choice_shorter inside)
  choice_shorter (IsChoice.piece d t x r parts others u p inside) = omega (arith, piece_shorter p, choice_shorter inside)

-- ---- steps

set_atom : {t : Text} {s : Set} {u : Text} (inner : Option Reader) → IsSet t s u → atom inner t ≡ Ok (tree_of.Set s, u)
unfolding atom
set_atom inner (IsSet.itself c t isnt) = let o = reserved_none c isnt in rw (o.0, o.1, o.2, o.3, isnt) refl
set_atom inner (IsSet.any t) = refl
set_atom inner (IsSet.escape e c t is) = rw (escape_complete e c t is) refl
set_atom inner (IsSet.class e k t is) = rw (class_escape_complete e k t is) refl
set_atom inner (IsSet.among t ps u isnt parts) = rw (among_complete isnt parts) refl
set_atom inner (IsSet.beside t ps u parts) = rw (beside_complete parts) refl

end_turn : (inner : Option Reader) (s : Sides) (t : Text) → is_end t ≡ true → sides_turn inner s t ≡ Ok ((false, s), t)
unfolding sides_turn
end_turn inner s [] e = refl
end_turn inner s (c ∷ t) e = rw e refl

turn_at : (inner : Option Reader) (s : Sides) (c : ℕ) (v : Text) (x : Tree) (u : Text) → eqb c 41 ≡ false → eqb c 124 ≡ false → (atom inner (c ∷ v) >>= repeated) ≡ Ok (x, u)
    → sides_turn inner s (c ∷ v) ≡ Ok ((true, with_part s x), u)
unfolding sides_turn
turn_at inner s c v x u a b e = rw (a, b, e) refl

piece_turn : (inner : Option Reader) (s : Sides) (t : Text) (x : Tree) (u : Text) → Begins t → (atom inner t >>= repeated) ≡ Ok (x, u) → sides_turn inner s t ≡ Ok ((true, with_part s x), u)
piece_turn inner s t x u b e =
    let f = subst (λ (w : Text). (atom inner w >>= repeated) ≡ Ok (x, u)) b.2 e in
    subst (λ (w : Text). sides_turn inner s w ≡ Ok ((true, with_part s x), u)) (sym b.2) (turn_at inner s b.0 b.1 x u b.3 b.4 f)

-- the sides of a group, and its end
group_read : (d : ℕ) (t : Text) (q : Sides) (u : Text) (xs : List Tree) → Run (sides_turn (below d)) no_sides t q (41 ∷ u) → all_sides q ≡ xs → atom (below (suc d)) (40 ∷ t) ≡ Ok (tree_of.Choice xs, u)
unfolding atom below group_end
group_read d t q u xs run same =
    let read : sides d t ≡ Ok (q, 41 ∷ u) = sides_is d t ∙ all_run Syntax (sides_turn (below d)) run in
    rw read (ap (λ (ys : List Tree). Ok (tree_of.Choice ys, u)) same)

-- ---- parts and sides

-- sides that are read behind those of s
abbrev pub ReadBehind : ℕ → Sides → Text → List Tree → List Tree → Text → Type 0
ReadBehind d s t parts others u = (q : Sides) × Run (sides_turn (below d)) s t q u × (all_sides q ≡ s.whole ++ tree_of.Sequence (s.parts ++ parts) ∷ others)

mutual
  unfolding repeated sides_turn

  atom_complete : {d : ℕ} {t : Text} {x : Tree} {u : Text} → IsAtom d t x u → atom (below d) t ≡ Ok (x, u)
  atom_complete (IsAtom.single d t s u is) = set_atom (below d) is
  atom_complete (IsAtom.group d t parts others u inside) =
      let r = choice_runs no_sides refl inside in
      group_read d t r.0 u (tree_of.Sequence parts ∷ others) r.1 r.2

  piece_complete : {d : ℕ} {t : Text} {x : Tree} {u : Text} → begins is_repeat u ≡ false → IsPiece d t x u → (atom (below d) t >>= repeated) ≡ Ok (x, u)
  piece_complete isnt (IsPiece.once d t x u a) = rw (atom_complete a, no_repeat_here u isnt) refl
  piece_complete isnt (IsPiece.repeated d t x r n u a times) = rw (atom_complete a, repeat_complete times) refl

  pub choice_runs : {d : ℕ} {t : Text} {parts others : List Tree} {u : Text} (s : Sides) → is_end u ≡ true → IsChoice d t parts others u → ReadBehind d s t parts others u
  choice_runs s e (IsChoice.end d t) = (s, Run.last s t s t (end_turn (below d) s t e), none_more s [])
  choice_runs s e (IsChoice.bar d t parts others u inside) =
      let r = choice_runs (with_bar s) e inside in
      (r.0, Run.more s (124 ∷ t) (with_bar s) t r.0 u refl (omega arith) r.1, r.2 ∙ bar_more s parts others)
  choice_runs s e (IsChoice.piece d t x r parts others u p inside) =
      let q = choice_runs (with_part s x) e inside in
      let turn = piece_turn (below d) s t x r (piece_begins p) (piece_complete (choice_no_repeat e inside) p) in
      (q.0, Run.more s t (with_part s x) r q.0 u turn (piece_shorter p) q.1, q.2 ∙ piece_more s x parts others)
