use Rattle.std.proofs.Common.{◌≤◌, ◌^◌, arith}
use Rattle.std.proofs.Math.Pow.{pow_mono}
use Rattle.tree_map.proofs.Listing.{list_all}
use Rattle.tree_map.proofs.root.list_root.Goals as goal

pub list-requires-clause-from : goal.list-requires-clause-from
list-requires-clause-from g c = let l : 2 ^ c.args.bits ≤ 2 ^ 40 = pow_mono c.requires.bits.1 in omega arith

pub returns : goal.returns
returns g c = list_all (2 ^ g.B.Tier.width) g.B.Tier.pairs c.args.root.now c.in-Some.root c.deref.result.now c.new-pairs.result.items c.list.new.into.items c.in-Some.is c.deref.ensures c.new-pairs.ensures.items c.in_ok-list.ensures
