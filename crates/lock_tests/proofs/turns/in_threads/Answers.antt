use Rattle.std.proofs.Common.{refl, arith}
use Rattle.lock_tests.proofs.Frees.{free_there, came_back}
use Rattle.lock_tests.proofs.turns.in_threads.Goals as goal

pub map_vec-requires-after_bounds : goal.map_vec-requires-after_bounds
map_vec-requires-after_bounds g c κs within = λ i x low is.
    let t = free_there _ c.args.seats.items i x c.requires low is in (t.0, refl, t.2)

pub returns : goal.returns
returns g c = (
  c.in_ok-back.ensures.len,
  came_back _ c.args.seats.items c.in_ok-back.back.items (omega (arith, c.in_ok-back.ensures.len)) c.requires (λ i d low.
      let j = (c.in_ok-back.ensures.each i d (omega (arith, low))).1 in (j.job, j.job_read, j.call.met)),
)
