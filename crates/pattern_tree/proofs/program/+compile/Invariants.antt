-- the patterns before this one have their programs, one behind the other or as sides
use Rattle.std.proofs.Common.{◌≡◌, ℕ, take}
use Rattle.pattern_tree.specs.declared.program.Part.{Part}
use Rattle.pattern_tree.specs.declared.program.Sides.{Sides}
use Rattle.pattern_tree.specs.Programs.{programs, joined, all_gathered}
use Rattle.pattern_tree.proofs.program.+compile.Given as goal

abbrev pub invariant-compile_sequence-loop-tree : goal.invariant-compile_sequence-loop-tree
invariant-compile_sequence-loop-tree l =
    let before = programs (take l.tree-index l.trees) l.initial.sets in
    ◌≡◌ {A = Part × ℕ} (joined before.0, before.1) (l.whole, l.sets)

abbrev pub invariant-compile_choice-loop-tree : goal.invariant-compile_choice-loop-tree
invariant-compile_choice-loop-tree l =
    let before = programs (take l.tree-index l.trees) l.initial.sets in
    ◌≡◌ {A = Sides × ℕ} (all_gathered before.0, before.1) (l.sides, l.sets)
