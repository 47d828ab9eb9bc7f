-- From the loop over the text to the promise of `matches`.
use Rattle.std.proofs.Common.{◌≡◌, ◌↔◌, ℕ, Bool, List, map, fold, sym, ap, ◌∙◌}
use Rattle.std.proofs.lemmas.List.{map-id}
use Rattle.std.specs.Prelude.{Result, Ok, Err, IfOk, IsTrue}
use Rattle.ifc_base.specs.declared.memory.Memory.{Memory}
use Rattle.pattern_tree.specs.declared.program.Op.{Op}
use Rattle.pattern_tree.specs.declared.program.Part.{Part}
use Rattle.pattern_tree.specs.declared.tree.Set.{Set}
use Rattle.pattern_tree.specs.declared.tree.Tree.{Tree}
use Rattle.pattern_tree.specs.Matching.{Text, Matches}
use Rattle.pattern_tree.specs.Trees.{sets_of, hits_in}
use Rattle.pattern_tree.specs.Programs.{program}
use Rattle.pattern_tree.specs.Machine.{Reached, taken, begun, is_matched}
use Rattle.pattern_tree.proofs.Making.{tree_law}

-- behind the last character
pub ended : (sets : List Set) (part : Part) (ops : List Op) (r : Reached) (xs s : Text) → ops ≡ part.ops → r ≡ fold (taken (hits_in sets) ops) (begun part) xs → map (λ c. c) xs ≡ s
    → r.ends ≡ is_matched sets part s
ended sets part ops r xs s e f g =
    ap (λ x. x.ends) f
    ∙ ap (λ o. (fold (taken (hits_in sets) o) (begun part) xs).ends) e
    ∙ ap (λ x. is_matched sets part x) (sym (map-id xs) ∙ g)

-- what the program answers is what the pattern matches
pub told : (tree : Tree) (s : Text) (part : Part) (n : ℕ) (sets : List Set) (r : Result Bool Memory) → program tree 0 ≡ (let p : Part × ℕ = (part, n) in p) → sets ≡ sets_of tree
    → IfOk r (λ a. a ≡ is_matched sets part s) → IfOk r (λ a. IsTrue a ↔ Matches tree s)
told tree s part n sets (Ok a) e g f =
    let law = tree_law tree s in
    let same : a ≡ is_matched (sets_of tree) (program tree 0).0 s = f ∙ ap (λ l. is_matched l part s) g ∙ ap (λ p. is_matched (sets_of tree) p.0 s) (sym e) in
    (λ h. law.0 (sym same ∙ h), λ m. same ∙ law.1 m)
told tree s part n sets (Err refused) e g f = f
