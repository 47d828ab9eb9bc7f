use Rattle.std.proofs.Common.{rules, of_calls, nat_lt}
use Rattle.std.proofs.lemmas.Fn.{always_returns_same}
use Rattle.tree_map.proofs.Places.{partitioned, place_from_point}
use Rattle.tree_map.proofs.node.place.Goals as goal

pub returns : goal.returns
returns g c =
    let point = c.partition_point.ensures.partitioned (λ x. nat_lt x.0 c.args.digit) (always_returns_same _ _ _ (λ a r f k. search (rules, of_calls))) (partitioned c.args.digit c.args.node.now c.requires) in
    place_from_point c.args.digit c.args.node.now c.partition_point.result c.partition_point.ensures.bound point
