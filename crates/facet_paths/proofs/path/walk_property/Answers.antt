use Rattle.facet_paths.proofs.WalkLaws.{property_walked}
use Rattle.facet_paths.proofs.path.walk_property.Goals as goal

pub returns : goal.returns
returns g c =
    let s = c.args.schema.now in
    let v = g.L.Look.seen c.args.look.now in
    property_walked s v c.args.from c.push_own_sets.new.sets.items c.push_sets_of_types.new.sets.items c.new-ends.result.items c.push_all_held.new.ends.items c.push_all_held-2.new.ends.items c.in_ok-all.all.items
    c.args.reads.now.items c.push_own_sets.new.reads.items c.push_all_held.new.reads.items c.push_sets_of_types.new.reads.items c.push_all_held-2.new.reads.items
    (rw c.new-own.ensures.items at c.in_ok-push_own_sets.ensures.sets) c.in_ok-push_own_sets.ensures.reads
    (rw (c.new-ends.ensures.items, c.as_slice.ensures.value) at c.in_ok-push_all_held.ensures.ends) (rw c.as_slice.ensures.value at c.in_ok-push_all_held.ensures.reads)
    (rw c.new-inherited.ensures.items at c.in_ok-push_sets_of_types.ensures.sets) c.in_ok-push_sets_of_types.ensures.reads
    (rw c.as_slice-2.ensures.value at c.in_ok-push_all_held-2.ensures.ends) (rw c.as_slice-2.ensures.value at c.in_ok-push_all_held-2.ensures.reads)
    (rw c.as_slice-3.ensures.value at c.in_ok-all.ensures)
