use Rattle.std.proofs.Common.{◌≡◌, ◌∙◌, ap}
use Rattle.std.specs.Prelude.{insert}
use Rattle.std.specs.List.{prefix_len}
use Rattle.dirty_board.specs.Rows.{below, new_row}
use Rattle.dirty_board.proofs.MoreLess.{insert_is, table_insert}
use Rattle.dirty_board.proofs.adding.add_row.Goals as goal

pub returns-clause-rows : goal.returns-clause-rows
returns-clause-rows c =
    let place : c.place_before-place.result ≡ prefix_len (λ r. below r.pair c.args.pair) c.args.rows.now.items = rw (← c.deref.ensures.value) c.place_before-place.ensures.value in
    c.insert_within.ensures.items
    ∙ ap (λ i. insert c.args.rows.now.items i (new_row c.args.pair)) place
    ∙ insert_is c.args.pair c.args.rows.now.items c.requires.table.ascending c.requires.fresh

pub returns-clause-table : goal.returns-clause-table
returns-clause-table c =
    let place : c.place_before-place.result ≡ prefix_len (λ r. below r.pair c.args.pair) c.args.rows.now.items = rw (← c.deref.ensures.value) c.place_before-place.ensures.value in
    rw (c.insert_within.ensures.items, c.insert.ensures.flags, c.insert-2.ensures.flags)
    (table_insert c.requires.table c.args.pair c.place_before-place.result c.requires.fresh place)
