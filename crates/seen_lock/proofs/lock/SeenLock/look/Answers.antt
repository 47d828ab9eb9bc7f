use Rattle.std.proofs.Common.{rules}
use Rattle.seen_lock.proofs.Moves.{look_keeps}
use Rattle.seen_lock.proofs.lock.SeenLock.look.Goals as goal

pub load-requires : goal.load-requires
load-requires g c = (
  c.requires.seat,
  search rules,
  look_keeps _ _ _ _ _ _ _ _ _ _ c.requires.fits c.requires.from c.requires.waits.0 c.requires.waits.1
      c.requires.waits.2 c.requires.waits.3,
)
