use Rattle.std.proofs.Common.{sym, ap, ◌∙◌, subst}
use Rattle.pattern_tree.specs.Searching.{AreInOrder, found_in}
use Rattle.pattern_tree.proofs.Searches.{order_push, same_push}
use Rattle.pattern_tree.proofs.search.search_sets.Goals as goal

pub loop-set-preserved : goal.loop-set-preserved
loop-set-preserved c = record {
  ordered = subst AreInOrder (sym c.in_ok-push.ensures.items) (order_push c.loop-set.searches.items c.in_ok-search_set.field-0 c.loop-set.invariant.ordered c.in_ok-search_set.ensures.rising);
  same = λ d. ap (λ l. found_in l d) c.in_ok-push.ensures.items
      ∙ same_push c.loop-set.searches.items c.in_ok-search_set.field-0 c.args.sets.now c.loop-set.set-index c.set-item.result d c.loop-set-test.true c.set-item.is (c.loop-set.invariant.same d) (c.in_ok-search_set.ensures.same d);
}
