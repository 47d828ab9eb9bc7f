use Rattle.std.proofs.Common.{rules, sym, true, false}
use Rattle.dirty_board.proofs.Order.{place_past, place_read}
use Rattle.dirty_board.proofs.table.place_of.Goals as goal

pub returns-in_err-row : goal.returns-in_err-row
returns-in_err-row c =
    let past = rw c.place_before-place.ensures.value at c.in_err-row.ensures.lookup.3 in
    let none = place_past c.args.pair c.args.rows.now c.requires past in
    rw none (search rules)

pub returns-then-is_same : goal.returns-then-is_same
returns-then-is_same c =
    let here = rw c.place_before-place.ensures.value at c.in_ok-row.ensures.lookup.3.0 in
    let item = rw c.place_before-place.ensures.value at c.in_ok-row.ensures.lookup.1 in
    rw c.place_before-place.ensures.value (sym (place_read c.args.pair c.args.rows.now c.in_ok-row.row.now true c.requires here item (rw (← c.is_same.ensures) c.if-is_same.true)))

pub returns-else-is_same : goal.returns-else-is_same
returns-else-is_same c =
    let here = rw c.place_before-place.ensures.value at c.in_ok-row.ensures.lookup.3.0 in
    let item = rw c.place_before-place.ensures.value at c.in_ok-row.ensures.lookup.1 in
    sym (place_read c.args.pair c.args.rows.now c.in_ok-row.row.now false c.requires here item (rw (← c.is_same.ensures) c.if-is_same.false))
