use Rattle.std.proofs.Common.{rules}
use Rattle.seen_lock.proofs.Moves.{draw_keeps}
use Rattle.seen_lock.proofs.lock.SeenLock.draw.Goals as goal

pub fetch_add-requires : goal.fetch_add-requires
fetch_add-requires g c = (
  c.requires.seat,
  search rules,
  draw_keeps _ _ _ _ _ _ _ _ c.requires.idle.0 c.requires.idle.1 c.requires.idle.2,
)
