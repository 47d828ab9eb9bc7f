-- the sets before this one have told
use Rattle.std.proofs.Common.{◌≡◌, ◌++◌, take}
use Rattle.pattern_tree.specs.Searching.{found_in}
use Rattle.pattern_tree.proofs.search.push_hits.Given as goal

abbrev pub invariant-loop-set : goal.invariant-loop-set
invariant-loop-set l = l.hits.items ≡ l.fn.hits.items ++ found_in (take l.set-index l.sets) l.c
