use Rattle.std.proofs.Common.{◌≡◌, ◌+◌, take, drop}
use Rattle.restrictions.specs.Building.{pattern_fault, trees}
use Rattle.restrictions.proofs.build.patterns.Given as goal

abbrev pub invariant-loop-at : goal.invariant-loop-at
invariant-loop-at l = record {
  read : l.patterns.items ≡ trees (take l.at l.text-items);
  left : pattern_fault 1 l.text-items ≡ pattern_fault (l.at + 1) (drop l.at l.text-items);
}
