use Rattle.std.proofs.Common.{arith}
use Rattle.std.proofs.lemmas.List.{reverse-append}
use Rattle.audit_core.proofs.Entries.{kept_refused, room_left, few_left}
use Rattle.audit_core.proofs.audit.Core.refuse.Goals as goal

pub invariant_of-self : goal.invariant_of-self
invariant_of-self c =
    let b = rw (← c.self.view_is) at c.requires.base in
    let j = rw (← c.self.view_is) at c.requires.refused in
    let f = rw (← c.self.view_is) at c.requires.not_full in
    let r = rw (← c.self.view_is) at c.requires.room in
    rw (c.push_reserved.ensures.entries, reverse-append, c.push_reserved.ensures.room, c.in-Ok.ensures, c.edits.ensures, c.in-Ok-copy.ensures, c.revision-base.ensures, c.base.ensures)
    (kept_refused c.args.actor c.args.draft.base.revision c.args.draft.edits c.args.why c.self.invariant b j (room_left c.self.inside.journal.entries c.self.inside.claims.items _ 1 (omega arith) r) (few_left c.self.invariant 1 f))
