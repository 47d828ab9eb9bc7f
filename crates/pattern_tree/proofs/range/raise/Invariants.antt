-- the ranges before this one are ended by the greatest last character
use Rattle.std.proofs.Common.{◌≡◌, ◌++◌, length, take, drop}
use Rattle.pattern_tree.specs.Searching.{raised}
use Rattle.pattern_tree.proofs.range.raise.Given as goal

abbrev pub invariant-loop-at : goal.invariant-loop-at
invariant-loop-at l = record {
  size : length l.ranges ≡ length l.fn.ranges;
  whole : raised 0 l.fn.ranges ≡ take l.at l.ranges ++ raised l.top (drop l.at l.ranges);
}
