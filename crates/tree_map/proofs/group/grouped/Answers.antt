use Rattle.std.specs.Vec.Iter.{into_iter_items}
use Rattle.tree_map.proofs.Grouping.{next_ascends}
use Rattle.tree_map.proofs.group.grouped.Goals as goal

pub with-requires : goal.with-requires
with-requires g c = next_ascends c.loop-key.yielded (into_iter_items c.loop-key.key-iterator) (into_iter_items c.next.new.self) c.loop-key.all c.in-Some.key c.in-Some.below c.in-Some.ensures.steps.0 c.loop-key.invariant.ascending c.loop-key.invariant.same
