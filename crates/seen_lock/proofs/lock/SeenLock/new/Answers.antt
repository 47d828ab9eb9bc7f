use Rattle.seen_lock.proofs.Deals.{opens_as}
use Rattle.seen_lock.proofs.lock.SeenLock.new.Goals as goal

pub new-requires : goal.new-requires
new-requires g c =
    opens_as g.S.Journaled.entries g.S.Journaled.maker g.S.Journaled.ground c.of.result.value c.args.state
    c.in-Ok-with_capacity.slots.items c.push_reserved.new.self.items c.args.seats c.length-length.result
    c.of.ensures c.in-Ok-with_capacity.ensures.items c.push_reserved.ensures.items c.length-length.ensures
    c.length-length.type_inv
