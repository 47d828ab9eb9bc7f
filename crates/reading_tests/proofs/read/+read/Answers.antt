use Rattle.std.proofs.Common.{arith}
use Rattle.reading_tests.proofs.Lists.{comma_less, token_less, item_less}
use Rattle.reading_tests.proofs.read.+read.Goals as goal

pub list-loop-items-smaller-in_ok-push-in-Number : goal.list-loop-items-smaller-in_ok-push-in-Number
list-loop-items-smaller-in_ok-push-in-Number t c =
    let next = comma_less _ _ _ c.in_ok-next.ensures c.in-Comma.is in
    let first = token_less _ _ _ c.in_ok-first-2.ensures in
    omega (arith, next, first)

pub list-loop-items-smaller : goal.list-loop-items-smaller
list-loop-items-smaller t c =
    let next = comma_less _ _ _ c.in_ok-next.ensures c.in-Comma.is in
    let item = item_less _ _ _ _ _ _ _ c.in_ok-first-2.ensures c.in_ok-tree-in_default-token-2.ensures in
    omega (arith, next, item)
