use Rattle.std.proofs.Common.{sym, subst}
use Rattle.pattern_tree.specs.declared.search.SearchSet.{SearchSet}
use Rattle.pattern_tree.specs.Searching.{AreRising}
use Rattle.pattern_tree.proofs.search.push_hits.Goals as goal

pub is_found-requires : goal.is_found-requires
is_found-requires c =
    subst (λ (s : SearchSet). AreRising s.ranges.items) (sym c.set-item.is) (c.requires c.loop-set.set-index c.set-item.result c.loop-set-test.true)
