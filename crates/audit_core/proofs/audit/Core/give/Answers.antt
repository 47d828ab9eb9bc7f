use Rattle.std.proofs.Common.{arith}
use Rattle.std.proofs.lemmas.List.{reverse-append}
use Rattle.audit_core.proofs.Entries.{kept_claimed, held_new, room_left, few_left}
use Rattle.audit_core.proofs.audit.Core.give.Goals as goal

pub invariant_of-self-2 : goal.invariant_of-self-2
invariant_of-self-2 c =
    let least = rw (← c.self.view_is) at c.requires.least in
    let full = rw (← c.self.view_is) at c.requires.not_full in
    let room = rw (← c.self.view_is) at c.requires.room in
    rw (c.push_reserved-2.ensures.entries, reverse-append, c.push_reserved-2.ensures.room, c.push_reserved.ensures.items, c.reserve.ensures.items, c.revision-revision.ensures, c.take_out.ensures)
    (kept_claimed c.args.actor c.args.pair.now c.self.invariant least (room_left c.self.inside.journal.entries c.self.inside.claims.items _ 2 (omega arith) room) (few_left c.self.invariant 2 full))

pub returns-clause-given : goal.returns-clause-given
returns-clause-given c = record {
  snapshot = rw (c.new.ensures, c.in-Ok.ensures, ← c.self.view_is) c.self.invariant.now;
  is_out = rw (c.push_reserved-2.ensures.entries, reverse-append, c.new.ensures, c.in-Ok.ensures, c.revision-revision.ensures) (held_new c.self.invariant c.args.actor c.self.inside.current.revision c.args.pair.now);
}
