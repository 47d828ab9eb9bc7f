use Rattle.std.proofs.Common.{rules, ◌≡◌, ◌+◌, suc, vec_len, ℕ, arith, ap, sym, ◌∙◌}
use Rattle.seen_lock.specs.Lists.{new_seats}
use Rattle.seen_lock.proofs.Deals.{deals, dealt, born, dealt_seat}
use Rattle.seen_lock.proofs.lock.SeenLock.deal.Goals as goal

pub split_seat-requires : goal.split_seat-requires
split_seat-requires g c =
    let i = c.loop-number.invariant in
    (i.0, search rules, deals _ _ _ _ _ _ c.loop-number.first.me _ _ _ i.1 (omega (arith, c.ranges.seats)))

pub loop-number-preserved : goal.loop-number-preserved
loop-number-preserved g c =
    let i = c.loop-number.invariant in
    let s = c.split_seat.ensures in
    let b = c.into_badge-badge.ensures in
    let p = c.push_reserved.ensures in
    let n : ℕ = c.loop-number.number in
    let lock = c.args.self.now.table.shared.table_id in
    let seen = g.S.Journaled.entries c.args.self.now.table.shared.key.state.value in
    let k : ℕ = vec_len c.loop-number.made in
    let len : k + 1 ≡ n = i.2 in
    let more : vec_len c.push_reserved.new.self ≡ suc k = omega (arith, p.len) in
    let made = born c.loop-number.first.me c.split_seat.result.me c.into_badge-badge.result.views seen c.args.seats n i.1 s.4
    b.2 in (
      s.0 ∙ i.0,
      dealt c.loop-number.first.me c.split_seat.new.seat.me _ _ n i.1 s.2,
      omega arith,
      omega (arith, p.capacity, i.3),
      omega arith,
      dealt_seat lock c.into_badge-badge.result.table_id seen c.args.seats n k c.into_badge-badge.result.views
          c.loop-number.made.items
          c.push_reserved.new.self.items (b.0 ∙ (s.3 ∙ i.0)) made (omega arith) i.5 p.items
          ∙ ap (new_seats lock seen 1) (sym more),
    )
