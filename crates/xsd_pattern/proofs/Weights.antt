-- Steps of the weight of a tree, up to a cap.
use Rattle.std.proofs.Common.{◌≡◌, ℕ, ◌*◌, ◌<◌, ◌≤◌, min, map, sum, List, arith, rules, ap, inl, inr}
use Rattle.std.specs.Prelude.{nat_le}
use Rattle.std.proofs.Math.Nat.{mul-le-mul_right, le-mul_of_pos_right}
use Rattle.std.proofs.lemmas.Bool.Decides.{nat_tests}
use Rattle.reading.proofs.Tools.{tested}
use Rattle.pattern_tree.specs.declared.tree.Times.{Times}
use Rattle.pattern_tree.specs.declared.tree.Tree.{Tree, the_lemmas}
use Rattle.pattern_tree.specs.declared.tree.Tree.TheVariants as tree_of
use Rattle.pattern_tree.specs.Trees.{weight, repeat_weight}

pub weight_sequence : (parts : List Tree) → weight (tree_of.Sequence parts) ≡ sum (map weight parts)
weight_sequence parts = search (rules, the_lemmas)

pub weight_choice : (sides : List Tree) → weight (tree_of.Choice sides) ≡ sum (map weight sides)
weight_choice sides = search (rules, the_lemmas)

pub weight_repeat : (part : Tree) (times : Times) → weight (tree_of.Repeat part times) ≡ weight part * repeat_weight times
weight_repeat part times = search (rules, the_lemmas)

-- a product up to a cap
pub cap_product : (a b : ℕ) → 0 < b → min (min a 100001 * b) 100001 ≡ min (a * b) 100001
cap_product a b some =
    let fewer = mul-le-mul_right b (let h : min a 100001 ≤ a = omega arith in h) in
    let grown = le-mul_of_pos_right (min a 100001) some in
    elim (tested (nat_le a 100001)) [
      | inl h ↦
          let small : a ≤ 100001 = grind (arith, nat_tests) in
          let same : min a 100001 ≡ a = omega arith in
          ap (λ n. min (n * b) 100001) same
      | inr h ↦
          let big : 100001 < a = grind (arith, nat_tests) in
          omega (arith, fewer, grown)
    ]

pub ruleset weight_laws = (weight_sequence, weight_choice, weight_repeat, cap_product)
