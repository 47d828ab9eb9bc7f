-- the sets before this one can be searched
use Rattle.std.proofs.Common.{◌≡◌, ℕ, take}
use Rattle.pattern_tree.specs.Trees.{values, hits_in}
use Rattle.pattern_tree.specs.Searching.{AreInOrder, found_in}
use Rattle.pattern_tree.proofs.search.search_sets.Given as goal

abbrev pub invariant-loop-set : goal.invariant-loop-set
invariant-loop-set l = record {
  ordered : AreInOrder l.searches.items;
  same : (c : ℕ) → found_in l.searches.items c ≡ hits_in (values (take l.set-index l.sets)) c;
}
