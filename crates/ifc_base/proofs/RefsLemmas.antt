-- The equation of `refs_of` at a list. Crates above import it.
use Rattle.std.proofs.Common.{◌≡◌, List, map, rules}
use Rattle.std.specs.List.{concat}
use Rattle.ifc_base.specs.Refs.{refs_of}
use Rattle.ifc_base.specs.declared.value.Value.{Value}
use Rattle.ifc_base.specs.declared.value.ValueNode.{the_lemmas}
use Rattle.ifc_base.specs.declared.value.ValueNode.TheViews as node

-- a list has the references of its items, one after another
pub refs_of_list : (v : Value) (items : List Value) → v.node ≡ node.List items → refs_of v ≡ concat (map refs_of items)
refs_of_list v items h = search (rules, the_lemmas)
