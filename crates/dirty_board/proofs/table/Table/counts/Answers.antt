use Rattle.std.proofs.Common.{◌≡◌, sym, ap, arith, rules, Some, None}
use Rattle.dirty_board.specs.Rows.{row_place}
use Rattle.dirty_board.proofs.Order.{place_within}
use Rattle.dirty_board.proofs.Tables.{row_here, row_none}
use Rattle.dirty_board.proofs.table.Table.counts.Goals as goal

pub returns-in-None-clause-value : goal.returns-in-None-clause-value
returns-in-None-clause-value c =
    let e : row_place c.args.pair c.self.inside.rows.items ≡ None = rw (← c.deref.ensures.value) (sym c.in-None.ensures) in
    rw (← c.self.view_is, row_none c.args.pair c.self.inside.rows.items e) (search rules)

pub index-requires : goal.index-requires
index-requires c =
    let e : row_place c.args.pair c.self.inside.rows.items ≡ Some c.in-Some.place = rw (← c.deref.ensures.value) (sym c.in-Some.ensures) in
    omega (arith, place_within c.args.pair c.self.inside.rows.items c.in-Some.place e, c.self.inside.rows.ok.0)

pub returns-in-Some-clause-value : goal.returns-in-Some-clause-value
returns-in-Some-clause-value c =
    let e : row_place c.args.pair c.self.inside.rows.items ≡ Some c.in-Some.place = rw (← c.deref.ensures.value) (sym c.in-Some.ensures) in
    rw (← c.self.view_is, row_here c.args.pair c.self.inside.rows.items c.in-Some.place c.index.result.now e) (ap (λ b. Some b) (rw (← c.index.ensures) c.is_counted.ensures))
