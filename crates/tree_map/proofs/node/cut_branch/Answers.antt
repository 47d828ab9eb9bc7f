use Rattle.std.proofs.Common.{arith, ◌<◌, ◌∙◌, length}
use Rattle.tree_map.specs.Pairs.{IsAscending}
use Rattle.tree_map.proofs.Places.{at_found, remove_at, none_cut}
use Rattle.tree_map.proofs.node.cut_branch.Goals as goal

pub remove-requires : goal.remove-requires
remove-requires g c =
    let asc : IsAscending c.deref.result.now = rw c.deref.ensures.value c.requires in
    let within : c.in-Ok.at < length c.deref.result.now = at_found c.args.digit c.deref.result.now c.in-Ok.at asc c.in-Ok.ensures.0 c.in-Ok.ensures.1 in
    omega (arith, within, c.deref.ensures.len)

pub returns-in-Ok : goal.returns-in-Ok
returns-in-Ok g c = c.remove.ensures.items ∙ remove_at c.args.digit c.args.node.now.items c.deref.result.now c.in-Ok.at c.deref.ensures.value c.requires c.in-Ok.ensures.0 c.in-Ok.ensures.1

pub returns-in_default : goal.returns-in_default
returns-in_default g c = none_cut c.args.digit c.args.node.now.items c.deref.result.now c.deref.ensures.value c.in_default.ensures.1
