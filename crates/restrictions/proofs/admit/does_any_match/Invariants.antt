use Rattle.std.proofs.Common.{◌≡◌, false, take, chars}
use Rattle.std.specs.List.{list_any}
use Rattle.restrictions.specs.Matching.{does_match}
use Rattle.restrictions.proofs.admit.does_any_match.Given as goal

abbrev pub invariant-loop-pattern : goal.invariant-loop-pattern
invariant-loop-pattern l = list_any (λ tree. does_match tree (chars l.text)) (take l.pattern-index l.patterns) ≡ false
