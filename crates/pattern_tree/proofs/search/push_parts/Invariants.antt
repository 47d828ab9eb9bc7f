-- the parts before this one are added
use Rattle.std.proofs.Common.{◌≡◌, ◌||◌, ℕ, take}
use Rattle.std.specs.List.{list_any}
use Rattle.pattern_tree.specs.Trees.{is_in_part}
use Rattle.pattern_tree.specs.Searching.{is_among}
use Rattle.pattern_tree.proofs.search.push_parts.Given as goal

abbrev pub invariant-loop-part : goal.invariant-loop-part
invariant-loop-part l =
    (c : ℕ) → is_among l.ranges.items l.classes.items c ≡ (is_among l.fn.ranges.items l.fn.classes.items c || list_any (is_in_part c) (take l.part-index l.parts))
