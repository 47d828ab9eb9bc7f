use Rattle.std.proofs.Common.{◌∙◌, ap, sym, subst, arith, ◌++◌, ℕ, List, Bool}
use Rattle.schema_table.specs.Order.{IsParentsFirst, IsLineDown, has_number}
use Rattle.schema_table.proofs.Ordering.{order_more}
use Rattle.schema_table.proofs.order.parents_first.Goals as goal

pub loop-number-preserved : goal.loop-number-preserved
loop-number-preserved c =
    let line = subst (λ (t : List Bool). IsLineDown c.args.parents.now t c.loop-number.number c.in_ok-line.line.items) c.deref.ensures.value c.in_ok-line.ensures in
    let more = order_more c.args.parents.now c.requires.within c.loop-number.order.items c.in_ok-line.line.items c.loop-number.taken.items c.loop-number.number (omega arith)
    c.loop-number.invariant.0 c.loop-number.invariant.1 c.loop-number.invariant.2 line in
    let same = ap (λ (l : List ℕ). c.loop-number.order.items ++ l) (sym c.deref-in-loop-number.ensures.value) ∙ sym c.in_ok-append_line.ensures.order in (
      subst (IsParentsFirst c.args.parents.now) same more.0,
      c.in_ok-append_line.ensures.taken c.args.parents.now c.loop-number.invariant.1,
      λ y l. ap (λ (o : List ℕ). has_number o y) (sym same) ∙ more.1 y l,
    )
