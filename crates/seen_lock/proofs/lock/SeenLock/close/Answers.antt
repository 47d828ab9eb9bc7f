use Rattle.std.proofs.Common.{◌≡◌, sym, subst, refl, arith}
use Rattle.std.specs.Option.{IsSome}
use Rattle.atomic_table.proofs.Lists.{at_index}
use Rattle.seen_lock.specs.Lists.{HasAll}
use Rattle.seen_lock.proofs.Ends.{closes, taken, state_is}
use Rattle.seen_lock.proofs.lock.SeenLock.close.Goals as goal

pub unwrap-state-requires : goal.unwrap-state-requires
unwrap-state-requires g c =
    let s = c.remove-maker.result in
    let r = c.remove-maker.ensures in
    let b = c.into_seat-first.ensures in
    let t = c.gather.ensures in
    let began = c.args.self.table.shared.key in
    let fits : g.row.S.Denot → Type 0 = λ y. g.S.Journaled.ground y ≡ g.S.Journaled.ground began.state.value in
    let e = closes g.S.Journaled.entries g.S.Journaled.maker fits (g.S.Journaled.entries began.state.value)
    c.args.self.table.shared.table_id began.seats c.gather.new.first.id _ _ s c.args.seats.items c.remove-maker.new.self.items _
    c.into_seat-first.result.me.0 c.gather.new.first.me.0 _ _ (omega (arith, c.requires.0)) c.requires.1
    (at_index c.args.seats.items 0 s (omega arith) r.value) r.items c.maker.view_is c.maker.invariant b.2 t.first.2 t.taken
    c.close_with-closed.ensures.values.2 in
    subst IsSome (sym (taken _ _ _ _ _ _ c.take.result e c.take.ensures.value)) refl

pub returns : goal.returns
returns g c =
    let s = c.remove-maker.result in
    let r = c.remove-maker.ensures in
    let b = c.into_seat-first.ensures in
    let t = c.gather.ensures in
    let began = c.args.self.table.shared.key in
    let fits : g.row.S.Denot → Type 0 = λ y. g.S.Journaled.ground y ≡ g.S.Journaled.ground began.state.value in
    let e = closes g.S.Journaled.entries g.S.Journaled.maker fits (g.S.Journaled.entries began.state.value)
    c.args.self.table.shared.table_id began.seats c.gather.new.first.id _ _ s c.args.seats.items c.remove-maker.new.self.items _
    c.into_seat-first.result.me.0 c.gather.new.first.me.0 _ _ (omega (arith, c.requires.0)) c.requires.1
    (at_index c.args.seats.items 0 s (omega arith) r.value) r.items c.maker.view_is c.maker.invariant b.2 t.first.2 t.taken
    c.close_with-closed.ensures.values.2 in
    let same = state_is _ _ _ _ _ _ c.take.result c.unwrap-state.result e c.take.ensures.value c.unwrap-state.ensures in
    record {
      ground = subst fits same e.fit;
      history = subst (λ y. HasAll g.S.Journaled.maker (g.S.Journaled.entries began.state.value) (g.S.Journaled.entries y) c.args.seats.items) same e.history;
    }
