-- A whole text: what is read is its tree, and the tree of a text is read.
use Rattle.std.proofs.Common.{◌≡◌, ◌≤◌, true, false, List, [], ◌∷◌, length, Result, Ok, Err, refl, sym, ap, ◌∙◌, subst, inl, inr, arith}
use Rattle.std.specs.Prelude.{IfOk, nat_le}
use Rattle.std.proofs.lemmas.Bool.Decides.{nat_tests}
use Rattle.ifc_base.specs.declared.memory.Refusal.{Refusal}
use Rattle.reading.specs.Lines.{Answers}
use Rattle.reading.specs.Reading.{Text, Refused}
use Rattle.reading.proofs.Tools.{bound as steps, chosen, ok_is, all_run}
use Rattle.pattern_tree.specs.declared.tree.Tree.{Tree}
use Rattle.pattern_tree.specs.declared.tree.Tree.TheVariants as tree_of
use Rattle.pattern_tree.specs.Trees.{weight}
use Rattle.xsd_pattern.specs.declared.fault.PatternCause.{PatternCause}
use Rattle.xsd_pattern.specs.declared.fault.PatternCause.TheVariants.{Syntax, TooLong, TooManyRepeats}
use Rattle.xsd_pattern.specs.declared.fault.PatternFault.{PatternFault}
use Rattle.xsd_pattern.specs.declared.sides.Sides.{Sides}
use Rattle.xsd_pattern.specs.Parts.{no_sides, choice, sides_turn, sides, below}
use Rattle.xsd_pattern.specs.Reading.{most_characters, most_groups, most_weight, whole_end, whole, of_all, answered, reading}
use Rattle.xsd_pattern.specs.Grammar.{IsChoice, Parses}
use Rattle.xsd_pattern.proofs.Depth.{sides_is}
use Rattle.xsd_pattern.proofs.PartLaws.{sides_sound}
use Rattle.xsd_pattern.proofs.PartComplete.{choice_runs}

-- the text is spelled as the choice of these sides
abbrev Spelled : Text → Tree → Type 0
Spelled t x = (parts : List Tree) × (others : List Tree) × (x ≡ tree_of.Choice (tree_of.Sequence parts ∷ others)) × IsChoice most_groups t parts others []

end_is : (s : Sides) (u : Text) (x : Tree) → whole_end (s, u) ≡ Ok x → (u ≡ []) × (x ≡ choice s)
unfolding whole_end
end_is s [] x e = (refl, sym (ok_is {E = Refused PatternCause} (choice s) x e))
end_is s (c ∷ u) x e = absurd cc

whole_sound : (t : Text) (x : Tree) → whole t ≡ Ok x → Spelled t x
unfolding whole
whole_sound t x e =
    let b = steps {r = sides most_groups t} e in
    let c = sides_sound most_groups t b.0.0 b.0.1 b.1 in
    let n = end_is b.0.0 b.0.1 x b.2 in
    (c.0, c.1, n.1 ∙ ap (λ (xs : List Tree). tree_of.Choice xs) c.3, subst (λ (w : Text). IsChoice most_groups t c.0 c.1 w) n.0 c.2)

whole_complete : (t : Text) (parts others : List Tree) → IsChoice most_groups t parts others [] → whole t ≡ Ok (tree_of.Choice (tree_of.Sequence parts ∷ others))
unfolding whole whole_end
whole_complete t parts others h =
    let r = choice_runs no_sides refl h in
    let read : sides most_groups t ≡ Ok (r.0, []) = sides_is most_groups t ∙ all_run Syntax (sides_turn (below most_groups)) r.1 in
    rw read (ap (λ (ys : List Tree). Ok (tree_of.Choice ys)) r.2)

abbrev gave : Tree → Result Tree PatternFault
gave x = Ok x

same_tree : (x y : Tree) → gave x ≡ gave y → x ≡ y
same_tree x y e = ok_is {E = PatternFault} x y e

answered_is : (t : Text) (r : Result Tree (Refused PatternCause)) (x : Tree) → answered t r ≡ Ok x → (r ≡ Ok x) × (weight x ≤ most_weight)
answered_is t (Ok y) x e =
    elim (chosen (nat_le (weight y) most_weight) (Ok y) (Err (of_all TooManyRepeats)) (Ok x) e) [
      | inl h ↦
          let same = same_tree y x h.1 in
          let light : weight y ≤ most_weight = let is = h.0 in grind (arith, nat_tests) in
          (ap (λ (z : Tree). Ok z) same, subst (λ (z : Tree). weight z ≤ most_weight) same light)
      | inr h ↦ let f = h.1 in absurd cc
    ]
answered_is t (Err r) x e = absurd cc

-- what is read is the text's tree
pub reading_sound : (t : Text) (x : Tree) → reading t ≡ Ok x → Parses t x
unfolding reading
reading_sound t x e =
    elim (chosen (nat_le (length t) most_characters) (answered t (whole t)) (Err (of_all TooLong)) (Ok x) e) [
      | inl h ↦
          let a = answered_is t (whole t) x h.1 in
          let w = whole_sound t x a.0 in
          let short : length t ≤ most_characters = let is = h.0 in grind (arith, nat_tests) in
          record { parts = w.0; others = w.1; is = w.2; spelled = w.3; short = short; light = a.1 }
      | inr h ↦ let f = h.1 in absurd cc
    ]

-- and the text's tree is read
pub reading_complete : (t : Text) (x : Tree) → Parses t x → reading t ≡ Ok x
unfolding reading
reading_complete t x p =
    let short : nat_le (length t) most_characters ≡ true = let le = p.short in grind (arith, nat_tests) in
    let light : nat_le (weight x) most_weight ≡ true = let le = p.light in grind (arith, nat_tests) in
    let read : whole t ≡ Ok x = whole_complete t p.parts p.others p.spelled ∙ ap (λ (z : Tree). Ok z) (sym p.is) in
    rw (short, read, light) refl

-- at most one tree
pub one_reading : (t : Text) (x y : Tree) → Parses t x → Parses t y → x ≡ y
one_reading t x y p q = same_tree x y (sym (reading_complete t x p) ∙ reading_complete t y q)

-- ---- for the contract

pub reading_short : (t : Text) → nat_le (length t) most_characters ≡ true → reading t ≡ answered t (whole t)
unfolding reading
reading_short t short = rw short refl

pub reading_long : (t : Text) → nat_le (length t) most_characters ≡ false → reading t ≡ Err (of_all TooLong)
unfolding reading
reading_long t long = rw long refl

pub is_found : (t : Text) (r : Result Tree (Refusal PatternFault)) → Answers (λ x. x) r (reading t) → IfOk r (λ x. Parses t x)
is_found t (Ok x) given = reading_sound t x given
is_found t (Err e) given = tt
