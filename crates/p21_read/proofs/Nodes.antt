-- The items of a value that is a list.
use Rattle.std.proofs.Common.{◌≡◌, List, [], rules}
use Rattle.ifc_base.specs.declared.value.Value.{Value}
use Rattle.ifc_base.specs.declared.value.ValueNode.{ValueNode, the_lemmas}
use Rattle.ifc_base.specs.declared.value.ValueNode.TheVariants as v
use Rattle.p21_read.specs.Headers.{items_of}

pub items_list : (x : ValueNode) (items : List Value) → x ≡ v.List items → items_of x ≡ items
items_list x items is = search (rules, the_lemmas)

pub items_other : (x : ValueNode) → ((items : List Value) → x ≡ v.List items → ⊥) → items_of x ≡ []
items_other x not = search (rules, the_lemmas)

pub ruleset node_laws = (items_list, items_other)
