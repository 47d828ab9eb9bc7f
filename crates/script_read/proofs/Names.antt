-- Names of attributes, letter by letter.
use Rattle.std.proofs.Common.{◌≡◌, ℕ, Bool, true, false, List, [], ◌∷◌, ◌++◌, Option, Some, None, refl, sym, ap, ◌∙◌, inl, inr}
use Rattle.std.proofs.lemmas.List.{append_assoc, append-nil}
use Rattle.std.specs.Char.{is_ascii_digit}
use Rattle.reading.specs.Runs.{run}
use Rattle.reading.proofs.Tools.{tested}
use Rattle.script_read.specs.Said.{is_name}
use Rattle.script_read.specs.LineForm.{some_run, attribute}
use Rattle.script_read.specs.Bytes.{first, gathered}

abbrev behind : List ℕ → List ℕ × List ℕ → List ℕ × List ℕ
behind cs r = (cs ++ r.0, r.1)

gather_is : (t cs : List ℕ) → gathered cs t ≡ behind cs (run is_name t)
unfolding gathered run
gather_is [] cs = ap (λ (x : List ℕ). (x, [])) (sym (append-nil cs))
gather_is (b ∷ t) cs =
    elim (tested (is_name b)) [
      | inl is ↦ rw is (gather_is t (cs ++ b ∷ []) ∙ ap (λ (x : List ℕ). (x, (run is_name t).1)) (append_assoc cs (b ∷ []) (run is_name t).0))
      | inr not ↦ rw not (ap (λ (x : List ℕ). (x, b ∷ t)) (sym (append-nil cs)))
    ]

letters_first : (b : ℕ) (t : List ℕ) → is_name b ≡ true → is_ascii_digit b ≡ false → attribute (b ∷ t) ≡ Some (gathered [] (b ∷ t))
unfolding attribute run
letters_first b t is not = let g = gather_is (b ∷ t) [] in rw (g, is, not) refl

pub attribute_some : (t : List ℕ) (b : ℕ) → first t ≡ Some b → is_name b ≡ true → is_ascii_digit b ≡ false → attribute t ≡ Some (gathered [] t)
attribute_some [] b e is not = absurd cc
attribute_some (c ∷ t) b e is not = let same : c ≡ b = cc in letters_first c t (ap is_name same ∙ is) (ap is_ascii_digit same ∙ not)

no_letter : (b : ℕ) (t : List ℕ) → is_name b ≡ false → attribute (b ∷ t) ≡ None
unfolding attribute run
no_letter b t not =
    elim (tested (is_ascii_digit b)) [
      | inl is ↦ rw is refl
      | inr other ↦ rw (other, not) refl
    ]

digit_first : (b : ℕ) (t : List ℕ) → is_ascii_digit b ≡ true → attribute (b ∷ t) ≡ None
unfolding attribute
digit_first b t is = rw is refl

pub attribute_other : (t : List ℕ) (b : ℕ) → first t ≡ Some b → is_name b ≡ false → attribute t ≡ None
attribute_other [] b e not = absurd cc
attribute_other (c ∷ t) b e not = let same : c ≡ b = cc in no_letter c t (ap is_name same ∙ not)

pub attribute_digit : (t : List ℕ) (b : ℕ) → first t ≡ Some b → is_ascii_digit b ≡ true → attribute t ≡ None
attribute_digit [] b e is = absurd cc
attribute_digit (c ∷ t) b e is = let same : c ≡ b = cc in digit_first c t (ap is_ascii_digit same ∙ is)

pub attribute_none : (t : List ℕ) → first t ≡ None → attribute t ≡ None
unfolding attribute
attribute_none [] e = refl
attribute_none (c ∷ t) e = absurd cc

pub ruleset attribute_laws = (attribute_some, attribute_other, attribute_digit, attribute_none)
