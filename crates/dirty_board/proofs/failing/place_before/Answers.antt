use Rattle.std.proofs.Common.{nat_lt, rules, of_calls}
use Rattle.std.proofs.lemmas.Fn.{always_returns_same}
use Rattle.dirty_board.proofs.Lists.{partitioned, split_from_point}
use Rattle.dirty_board.proofs.Failings.{rising_split}
use Rattle.dirty_board.proofs.failing.place_before.Goals as goal

pub returns-clause-value : goal.returns-clause-value
returns-clause-value c =
    let point = c.partition_point.ensures.partitioned (λ f. nat_lt f.elem c.args.elem) (always_returns_same _ _ _ (λ a r f k. search (rules, of_calls))) (partitioned (λ f. nat_lt f.elem c.args.elem) c.args.failing.now (rising_split c.args.elem c.args.failing.now c.requires)) in
    split_from_point (λ f. nat_lt f.elem c.args.elem) c.args.failing.now c.partition_point.result c.partition_point.ensures.bound point
