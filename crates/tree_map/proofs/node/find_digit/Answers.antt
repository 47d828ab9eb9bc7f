use Rattle.std.proofs.Common.{◌∙◌, sym, ap, is_some}
use Rattle.tree_map.proofs.Places.{read_same, read_other, read_past}
use Rattle.tree_map.proofs.node.find_digit.Goals as goal

pub returns-in_default : goal.returns-in_default
returns-in_default g c = (c.place-at.ensures, read_past c.args.digit c.args.node.now c.requires (rw c.place-at.ensures at c.in_default.ensures.lookup.3))

pub returns-then-digit : goal.returns-then-digit
returns-then-digit g c =
    let here = rw c.place-at.ensures at c.in-Some.ensures.lookup.3.0 in
    let item = rw c.place-at.ensures at c.in-Some.ensures.lookup.1 in
    (c.place-at.ensures, ap is_some (read_same c.args.digit c.args.node.now c.in-Some.branch.now c.requires here item (sym c.digit.ensures ∙ c.if-digit.true)))

pub returns-else-digit : goal.returns-else-digit
returns-else-digit g c =
    let here = rw c.place-at.ensures at c.in-Some.ensures.lookup.3.0 in
    let item = rw c.place-at.ensures at c.in-Some.ensures.lookup.1 in
    (c.place-at.ensures, read_other c.args.digit c.args.node.now c.in-Some.branch.now c.requires here item (λ e. c.if-digit.false (c.digit.ensures ∙ e)))
