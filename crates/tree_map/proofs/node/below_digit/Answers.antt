use Rattle.std.proofs.Common.{◌∙◌, Some, sym, ap, rules}
use Rattle.tree_map.proofs.Places.{read_same, read_other, read_past}
use Rattle.tree_map.proofs.node.below_digit.Goals as goal

pub returns-in_err-branch : goal.returns-in_err-branch
returns-in_err-branch g c =
    let none = read_past c.args.digit c.args.node.now c.requires (rw c.place.ensures at c.in_err-branch.ensures.lookup.3) in
    rw none (search rules)

pub returns-then-digit : goal.returns-then-digit
returns-then-digit g c =
    let here = rw c.place.ensures at c.in_ok-branch.ensures.lookup.3.0 in
    let item = rw c.place.ensures at c.in_ok-branch.ensures.lookup.1 in
    ap Some c.below.ensures ∙ sym (read_same c.args.digit c.args.node.now c.in_ok-branch.branch.now c.requires here item (sym c.digit.ensures ∙ c.if-digit.true))

pub returns-else-digit : goal.returns-else-digit
returns-else-digit g c =
    let here = rw c.place.ensures at c.in_ok-branch.ensures.lookup.3.0 in
    let item = rw c.place.ensures at c.in_ok-branch.ensures.lookup.1 in
    sym (read_other c.args.digit c.args.node.now c.in_ok-branch.branch.now c.requires here item (λ e. c.if-digit.false (c.digit.ensures ∙ e)))
