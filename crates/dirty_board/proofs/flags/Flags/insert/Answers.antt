use Rattle.std.proofs.Common.{arith, ap, ◌≡◌, ◌∙◌, ◌+◌, ◌≤◌, ◌/◌, true, length}
use Rattle.std.proofs.lemmas.List.Edits.{length-insert}
use Rattle.dirty_board.proofs.Blocks.{moved_insert, set_grown, set_here}
use Rattle.dirty_board.proofs.flags.Flags.insert.Goals as goal

pub renew-requires-clause-moved : goal.renew-requires-clause-moved
renew-requires-clause-moved c =
    let within : c.args.place ≤ length c.self.inside.flags.items = rw (← c.self.view_is) at c.requires.within in
    let count : length c.insert_within.new.items.items ≡ length c.self.inside.flags.items + 1 = ap length c.insert_within.ensures.items ∙ length-insert c.self.inside.flags.items c.args.place true within in
    rw (c.deref.ensures.value, c.insert_within.ensures.items)
    (moved_insert c.self.inside.flags.items c.self.inside.blocks.items _ c.args.place c.self.invariant within
    (λ b h. set_grown c.cover.new.blocks.items (c.args.place / 256) b (c.cover.ensures.kept b h))
    (set_here c.cover.new.blocks.items (c.args.place / 256) (omega (arith, within, count, c.cover.ensures.long, c.len.ensures, c.insert_within.new.items.ok.0))))
