use Rattle.std.proofs.Common.{◌∙◌, ap}
use Rattle.dirty_board.proofs.MoreLess.{without_more, without_none}
use Rattle.dirty_board.specs.Tallying.{having}
use Rattle.dirty_board.proofs.board.remove_all.Goals as goal

pub loop-pair-init : goal.loop-pair-init
loop-pair-init c = ap (λ rows. having rows c.args.ledger.now) (without_none c.args.ledger.now.rows)

pub loop-pair-preserved : goal.loop-pair-preserved
loop-pair-preserved c =
    c.remove.ensures.rows
    ∙ rw c.loop-pair.invariant (ap (λ rows. having rows c.args.ledger.now) (without_more c.args.gone.now c.loop-pair.pair-index c.pair-item.result c.loop-pair-test.true c.pair-item.is c.args.ledger.now.rows (rw c.loop-pair.invariant at c.remove.ensures.ascending)))
