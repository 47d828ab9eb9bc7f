use Rattle.std.proofs.Common.{rules, ◌≡◌, true, sym, ◌∙◌, arith}
use Rattle.std.specs.Cmp.Lexicographic.{slice_cmp}
use Rattle.ifc_base.proofs.Alongside.{ended}
use Rattle.ifc_base.specs.ValueOrder.{value_cmp}
use Rattle.ifc_base.specs.declared.value.ValueNode.{out-ValueNode, the_lemmas}
use Rattle.ifc_base.proofs.OrderLemmas.{node_by_head, node_by_inner, node_by_typed, node_bare, is_bare, inner_of_list}
use Rattle.ifc_base.proofs.+order.Goals as goal

pub value::ValueNode::order-returns-then-is_ne : goal.value::ValueNode::order-returns-then-is_ne
value::ValueNode::order-returns-then-is_ne t c =
    node_by_head c.args.self.now c.args.other.now c.order_of_heads-by_head.result c.order_of_heads-by_head.ensures (sym c.is_ne.ensures ∙ c.if-is_ne.true)

pub value::ValueNode::order-returns-in-List-other : goal.value::ValueNode::order-returns-in-List-other
value::ValueNode::order-returns-in-List-other t c =
    let one = c.as_slice.ensures ∙ sym (inner_of_list c.args.self.now c.in-List.items c.in-List.is) in
    let two = c.as_slice-in-List-other.ensures ∙ sym (inner_of_list c.args.other.now c.in-List-other.others c.in-List-other.is) in
    c.order_of_lists.ensures ∙ (λ i. slice_cmp value_cmp (one i) (two i))
    ∙ node_by_inner c.args.self.now c.args.other.now c.order_of_heads-by_head.result c.order_of_heads-by_head.ensures (sym c.is_ne.ensures ∙ c.if-is_ne.false)

pub value::ValueNode::order-returns-in-Typed-other : goal.value::ValueNode::order-returns-in-Typed-other
value::ValueNode::order-returns-in-Typed-other t c =
    c.order.ensures ∙ (λ i. value_cmp (c.get.ensures i) (c.get-in-Typed-other.ensures i))
    ∙ node_by_typed c.args.self.now c.args.other.now c.order_of_heads-by_head.result c.order_of_heads-by_head.ensures (sym c.is_ne.ensures ∙ c.if-is_ne.false)
    c.in-Typed.field-0 c.in-Typed-other.field-0 c.in-Typed.inner c.in-Typed-other.i c.in-Typed.is c.in-Typed-other.is

pub value::ValueNode::order-returns-in_default : goal.value::ValueNode::order-returns-in_default
value::ValueNode::order-returns-in_default t c =
    let bare : is_bare (out-ValueNode c.args.self.now) ≡ true = search (rules, the_lemmas) in
    node_bare c.args.self.now c.args.other.now c.order_of_heads-by_head.result c.order_of_heads-by_head.ensures (sym c.is_ne.ensures ∙ c.if-is_ne.false) bare

pub order::order_of_lists-returns : goal.order::order_of_lists-returns
order::order_of_lists-returns t c =
    let inv = c.loop-at.invariant in
    let m = inv.0 in
    let p = inv.1 in
    let q = c.loop-at-test.false in
    ended c.args.items.now c.args.others.now c.loop-at.at c.cmp.result (omega arith) c.cmp.ensures value_cmp ∙ inv.2
