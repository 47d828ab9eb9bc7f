use Rattle.std.proofs.Common.{◌≡◌, ◌∙◌, refl}
use Rattle.dirty_board.proofs.Tallied.{forgotten, untold}
use Rattle.dirty_board.proofs.tallies.untell.Goals as goal

pub returns-then-was : goal.returns-then-was
returns-then-was c =
    let before : c.into_vec-failing.result.items ≡ c.args.tally.now.failing = c.into_vec-failing.ensures ∙ c.replace.ensures.value in
    untold c.args.tally.now c.args.elem c.args.was c.saturating_sub-tally.result c.from_vec.result c.if-tally.false
    (rw c.if-was.true c.saturating_sub-tally.ensures)
    (c.from_vec.ensures ∙ forgotten c.forget.result c.forget.new.failing.items c.args.tally.now.failing c.args.elem (rw before at c.forget.ensures.front) (rw before at c.forget.ensures.back))

pub returns-else-was : goal.returns-else-was
returns-else-was c =
    let before : c.into_vec-failing.result.items ≡ c.args.tally.now.failing = c.into_vec-failing.ensures ∙ c.replace.ensures.value in
    untold c.args.tally.now c.args.elem c.args.was c.args.tally.now.applicable c.from_vec.result c.if-tally.false
    (rw c.if-was.false refl)
    (c.from_vec.ensures ∙ forgotten c.forget.result c.forget.new.failing.items c.args.tally.now.failing c.args.elem (rw before at c.forget.ensures.front) (rw before at c.forget.ensures.back))
