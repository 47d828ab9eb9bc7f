use Rattle.facet_paths.proofs.WalkLaws.{part_of_kind_walked}
use Rattle.facet_paths.proofs.path.walk_part_of_kind.Goals as goal

pub returns : goal.returns
returns g c =
    part_of_kind_walked c.args.schema.now (g.L.Look.seen c.args.look.now) c.args.from c.args.relation c.in_ok-ends.ends.items c.args.reads.now.items c.ancestors_of.new.reads.items c.look_at_types.new.reads.items c.in_ok-ends.ensures
    (rw c.as_slice.ensures.value at c.in_ok-look_at_types.ensures)
