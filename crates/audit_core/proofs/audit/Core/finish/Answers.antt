use Rattle.std.proofs.Common.{arith}
use Rattle.std.proofs.lemmas.List.{reverse-append}
use Rattle.audit_core.proofs.CommitLaws.{kept_commit, marked_counted, plan_new}
use Rattle.audit_core.proofs.Entries.{room_left, few_left}
use Rattle.audit_core.proofs.audit.Core.finish.Goals as goal

pub replace_pairs-requires-clause-size : goal.replace_pairs-requires-clause-size
replace_pairs-requires-clause-size c =
    let r = rw (← c.self.view_is, ← c.prepared.view_is) at c.requires in
    rw (c.mark.ensures, marked_counted c.prepared.inside.keys c.self.invariant) r.enough

pub replace_pairs-requires-clause-fresh : goal.replace_pairs-requires-clause-fresh
replace_pairs-requires-clause-fresh c =
    let r = rw (← c.self.view_is, ← c.prepared.view_is) at c.requires in
    rw c.mark.ensures (plan_new c.self.invariant r.plan)

pub invariant_of-self : goal.invariant_of-self
invariant_of-self c =
    let r = rw (← c.self.view_is, ← c.prepared.view_is) at c.requires in
    rw (c.push_reserved.ensures.entries, reverse-append, c.push_reserved.ensures.room, c.take_out_all.ensures, c.replace_pairs.ensures, c.mark.ensures, c.deref.ensures.value, c.revision-revision.ensures)
    (kept_commit c.prepared.inside.actor c.prepared.inside.base c.prepared.inside.edits c.prepared.inside.next c.prepared.inside.keys c.prepared.inside.space.gone c.prepared.inside.space.come c.prepared.inside.log c.self.invariant r.plan r.base_past (room_left c.self.inside.journal.entries c.self.inside.claims.items _ 1 (omega arith) r.room) (few_left c.self.invariant 1 r.not_full) r.log_is)
