use Rattle.facet_paths.proofs.Paths.{set_stood}
use Rattle.facet_paths.proofs.sets.push_held.Goals as goal

pub returns-clause-reads : goal.returns-clause-reads
returns-clause-reads g c =
    set_stood c.args.schema.now (g.L.Look.seen c.args.look.now) c.args.set c.in_ok-ids.ids.items c.args.reads.now.items c.push.new.self.items c.stand_all.new.reads.items
    (rw c.instance.ensures at c.in_ok-ids.ensures) c.in_ok-push.ensures.items (rw c.as_slice.ensures.value at c.in_ok-stand_all.ensures)
