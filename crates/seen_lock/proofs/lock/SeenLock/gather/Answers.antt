use Rattle.std.proofs.Common.{rules, ◌≡◌, [], ◌∷◌, ◌++◌, sym, ap, ◌∙◌, subst, append_assoc, append-nil, take, ◌-◌}
use Rattle.seen_lock.specs.declared.known.Known.{Known}
use Rattle.seen_lock.specs.Steps.{gathered}
use Rattle.seen_lock.specs.Lists.{AreFree}
use Rattle.seen_lock.specs.Taken.{AreTaken}
use Rattle.seen_lock.proofs.Views.{one_view, known_of}
use Rattle.seen_lock.proofs.Moves.{join_keeps}
use Rattle.seen_lock.proofs.Ends.{free_at, takes_in, same_now, popped}
use Rattle.seen_lock.proofs.lock.SeenLock.gather.Goals as goal

pub into_seat-requires : goal.into_seat-requires
into_seat-requires g c =
    let i = c.loop-seat.invariant in
    let front = c.pop.new.self.items in
    let all = popped c.args.seats.items front c.loop-seat.seats.items i.4.0 c.in-Some.seat i.4.1 c.in-Some.ensures.items in
    let free = free_at _ 1 front i.4.0 c.in-Some.seat
    (subst (AreFree c.args.self.now.table.shared.table_id 1) all c.requires.seats) in
    one_view c.in-Some.seat _ _ c.seat.inside.badge.views c.seat.view_is free.2

pub join_seat-requires : goal.join_seat-requires
join_seat-requires g c =
    let i = c.loop-seat.invariant in
    let front = c.pop.new.self.items in
    let all = popped c.args.seats.items front c.loop-seat.seats.items i.4.0 c.in-Some.seat i.4.1 c.in-Some.ensures.items in
    let free = free_at _ 1 front i.4.0 c.in-Some.seat
    (subst (AreFree c.args.self.now.table.shared.table_id 1) all c.requires.seats) in
    let b = c.into_seat.ensures in
    let w : Known g.row.S-Entry.Denot = c.into_seat.result.me.0 in
    let k = known_of c.in-Some.seat _ _ c.seat.inside.badge.views w c.seat.view_is c.seat.invariant b.2 in
    let lock = ap (λ q. q.lock) c.seat.view_is in (
      i.0 ∙ c.requires.first.0,
      b.0 ∙ (lock ∙ free.0),
      b.3,
      search rules,
      join_keeps _ _ _ _ _ c.loop-seat.first.id c.loop-seat.first.me.0 c.into_seat.result.id w
          (ap (λ (q : Known g.row.S-Entry.Denot). q.holds) i.2 ∙ c.requires.first.1) k.waits k.holds k.whole.0,
    )

pub loop-seat-preserved : goal.loop-seat-preserved
loop-seat-preserved g c =
    let i = c.loop-seat.invariant in
    let front = c.pop.new.self.items in
    let s = c.in-Some.seat in
    let b = c.into_seat.ensures in
    let j = c.join_seat.ensures in
    let v : Known g.row.S-Entry.Denot = c.loop-seat.first.me.0 in
    let w : Known g.row.S-Entry.Denot = c.into_seat.result.me.0 in
    let now : Known g.row.S-Entry.Denot = c.join_seat.new.seat.me.0 in
    let is : now ≡ gathered v w = λ k. (j.2 k).0 in
    let all = popped c.args.seats.items front c.loop-seat.seats.items i.4.0 s i.4.1 c.in-Some.ensures.items in
    let knows = known_of s _ _ c.seat.inside.badge.views w c.seat.view_is c.seat.invariant b.2 in (
      j.0 ∙ i.0,
      j.1 ∙ i.1,
      same_now c.args.first.now.me.0 v w now i.2 is,
      (λ k. (j.2 k).1) ∙ i.3,
      (s ∷ i.4.0, all ∙ append_assoc front (s ∷ []) i.4.0, takes_in v now w s c.seat.inside.badge.views i.4.0 is knows i.4.2),
    )

pub returns-clause-taken : goal.returns-clause-taken
returns-clause-taken g c =
    let i = c.loop-seat.invariant in
    let p = c.in_default.ensures in
    let none_left : c.loop-seat.seats.items ≡ [] =
    p.items ∙ (append-nil c.pop.new.self.items ∙ (p.rest ∙ ap (λ n. take (n - 1) c.loop-seat.seats.items) p.cases.0)) in
    subst (AreTaken c.loop-seat.first.me.0) (sym (i.4.1 ∙ ap (λ l. l ++ i.4.0) none_left)) i.4.2
