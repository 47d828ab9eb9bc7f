use Rattle.std.proofs.Common.{arith, ◌<◌, ◌≤◌, ◌∙◌, length}
use Rattle.std.specs.Arc.{arc_value}
use Rattle.tree_map.specs.Pairs.{IsAscending}
use Rattle.tree_map.proofs.Places.{at_found, at_missing, set_at, insert_at}
use Rattle.tree_map.proofs.node.set_branch.Goals as goal

pub index_mut-requires : goal.index_mut-requires
index_mut-requires g c =
    let asc : IsAscending c.deref.result.now = rw c.deref.ensures.value c.requires.ascending in
    let within : c.in-Ok.at < length c.deref.result.now = at_found c.args.digit c.deref.result.now c.in-Ok.at asc c.in-Ok.ensures.0 c.in-Ok.ensures.1 in
    omega (arith, within, c.deref.ensures.len)

pub insert-requires : goal.insert-requires
insert-requires g c =
    let within : c.in-Err.at ≤ length c.deref.result.now = at_missing c.args.digit c.deref.result.now c.in-Err.at c.in-Err.ensures.0 in
    omega (arith, within, c.deref.ensures.len)

pub returns-in-Ok : goal.returns-in-Ok
returns-in-Ok g c = set_at c.args.digit (arc_value c.args.below) c.args.node.now.items c.deref.result.now c.in-Ok.at c.new-branch.result c.deref.ensures.value c.new-branch.ensures c.requires.ascending c.in-Ok.ensures.0 c.in-Ok.ensures.1

pub returns-in-Ok-insert : goal.returns-in-Ok-insert
returns-in-Ok-insert g c = c.in-Ok-insert.ensures.items ∙ insert_at c.args.digit (arc_value c.args.below) c.args.node.now.items c.deref.result.now c.in-Err.at c.new-branch.result c.deref.ensures.value c.new-branch.ensures c.in-Err.ensures.0 c.in-Err.ensures.1
