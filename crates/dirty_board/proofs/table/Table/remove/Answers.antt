use Rattle.std.proofs.Common.{◌≡◌, ◌∙◌, sym, ap, arith, rules, Some, None}
use Rattle.dirty_board.specs.declared.rows.Row.{Row}
use Rattle.dirty_board.specs.Rows.{row_place}
use Rattle.dirty_board.proofs.Order.{place_within}
use Rattle.dirty_board.proofs.Tables.{row_here, row_none}
use Rattle.dirty_board.proofs.MoreLess.{remove_is, remove_none, table_remove}
use Rattle.dirty_board.proofs.table.Table.remove.Goals as goal

pub returns-in-None-clause-rows : goal.returns-in-None-clause-rows
returns-in-None-clause-rows c =
    let e : row_place c.args.pair c.self.inside.rows.items ≡ None = rw (← c.deref.ensures.value) (sym c.in-None.ensures) in
    rw (← c.self.view_is) (remove_none c.args.pair c.self.inside.rows.items e)

pub returns-in-None-clause-kept : goal.returns-in-None-clause-kept
returns-in-None-clause-kept c =
    let e : row_place c.args.pair c.self.inside.rows.items ≡ None = rw (← c.deref.ensures.value) (sym c.in-None.ensures) in
    rw (← c.self.view_is, row_none c.args.pair c.self.inside.rows.items e) (search rules)

pub remove-row-requires : goal.remove-row-requires
remove-row-requires c =
    let e : row_place c.args.pair c.self.inside.rows.items ≡ Some c.in-Some.place = rw (← c.deref.ensures.value) (sym c.in-Some.ensures) in
    omega (arith, place_within c.args.pair c.self.inside.rows.items c.in-Some.place e, c.self.inside.rows.ok.0)

pub invariant_of-self : goal.invariant_of-self
invariant_of-self c =
    let e : row_place c.args.pair c.self.inside.rows.items ≡ Some c.in-Some.place = rw (← c.deref.ensures.value) (sym c.in-Some.ensures) in
    rw (c.remove-row.ensures.items, c.remove.ensures, c.remove-in-Some.ensures) (table_remove c.self.invariant c.args.pair c.in-Some.place e)

pub returns-in-Some-clause-rows : goal.returns-in-Some-clause-rows
returns-in-Some-clause-rows c =
    let e : row_place c.args.pair c.self.inside.rows.items ≡ Some c.in-Some.place = rw (← c.deref.ensures.value) (sym c.in-Some.ensures) in
    rw (← c.self.view_is) (c.remove-row.ensures.items ∙ remove_is c.args.pair c.self.inside.rows.items c.in-Some.place e)

pub returns-in-Some-clause-kept : goal.returns-in-Some-clause-kept
returns-in-Some-clause-kept c =
    let e : row_place c.args.pair c.self.inside.rows.items ≡ Some c.in-Some.place = rw (← c.deref.ensures.value) (sym c.in-Some.ensures) in
    rw (← c.self.view_is, row_here c.args.pair c.self.inside.rows.items c.in-Some.place c.remove-row.result e) (ap (λ (r : Row). r.kept) c.remove-row.ensures.value)
