use Rattle.std.proofs.Common.{rules, of_calls}
use Rattle.std.proofs.lemmas.Fn.{always_returns_same}
use Rattle.dirty_board.specs.Rows.{below}
use Rattle.dirty_board.proofs.Lists.{partitioned, split_from_point}
use Rattle.dirty_board.proofs.Order.{rows_split}
use Rattle.dirty_board.proofs.table.place_before.Goals as goal

pub returns-clause-value : goal.returns-clause-value
returns-clause-value c =
    let point = c.partition_point.ensures.partitioned (λ r. below r.pair c.args.pair.now) (always_returns_same _ _ _ (λ a r f k. search (rules, of_calls))) (partitioned (λ r. below r.pair c.args.pair.now) c.args.rows.now (rows_split c.args.pair.now c.args.rows.now c.requires)) in
    split_from_point (λ r. below r.pair c.args.pair.now) c.args.rows.now c.partition_point.result c.partition_point.ensures.bound point
